-- Files whose records are changed part by part. What a file declares is changed so, each
-- declaration by itself.
use Rattle.std.specs.Prelude.{◌≡◌, ℕ, suc, List, [], ◌∷◌, map}
use Rattle.proto_types.specs.Names.{join}
use Rattle.proto_types.specs.Readers.{text_of}
use Rattle.proto_types.specs.declared.records.field.FieldDescriptorProto.{FieldDescriptorProto}
use Rattle.proto_types.specs.declared.records.service.MethodDescriptorProto.{MethodDescriptorProto}
use Rattle.proto_types.specs.declared.records.service.ServiceDescriptorProto.{ServiceDescriptorProto}
use Rattle.proto_types.specs.declared.file.FileDescriptorProto.{FileDescriptorProto}
use Rattle.proto_types.specs.declared.message.DescriptorProto.{DescriptorProto, DescriptorProto'}
use Rattle.proto_types.specs.declared.message.DescriptorProto.{out-DescriptorProto}
use Rattle.proto_types.specs.declared.message.DescriptorProto.{roll-DescriptorProto}
use Rattle.proto_types.specs.declared.message.DescriptorProto.{Row_of-DescriptorProto}
use Rattle.proto_types.specs.declared.message.DescriptorProto.{end_of-DescriptorProto}
use Rattle.proto_types.specs.declared.message.DescriptorProto.{more_of-DescriptorProto}
use Rattle.record_walk.specs.declared.counts.Counts.{Counts}
use Rattle.record_walk.specs.Declarations.{declarations}
use Rattle.record_walk.specs.Protos.{Proto, of_file, of_message, of_field, of_oneof, of_service}
use Rattle.record_walk.specs.Protos.{of_method, of_enum, of_value, of_extension}
use Rattle.record_walk.specs.Shown.{Shown}

-- what a field, an extension and a method become, by the index of the file and by their full name
pub record Changes : Type 0 where
  pub field : ℕ → List ℕ → FieldDescriptorProto → FieldDescriptorProto
  pub extension : ℕ → List ℕ → FieldDescriptorProto → FieldDescriptorProto
  pub method : ℕ → List ℕ → MethodDescriptorProto → MethodDescriptorProto

-- each changed record keeps its name
pub record KeepNames (c : Changes) : Type 0 where
  pub fields : (index : ℕ) (name : List ℕ) (f : FieldDescriptorProto)
      → text_of (c.field index name f).name ≡ text_of f.name
  pub extensions : (index : ℕ) (name : List ℕ) (x : FieldDescriptorProto)
      → text_of (c.extension index name x).name ≡ text_of x.name
  pub methods : (index : ℕ) (name : List ℕ) (m : MethodDescriptorProto)
      → text_of (c.method index name m).name ≡ text_of m.name

-- the fields of a scope, each changed by its full name; extensions go by the same word
abbrev pub changed_fields : (ℕ → List ℕ → FieldDescriptorProto → FieldDescriptorProto) → ℕ → List ℕ
    → List FieldDescriptorProto → List FieldDescriptorProto
changed_fields change index scope fs = map (λ f. change index (join scope (text_of f.name)) f) fs

-- the methods of a scope, each changed by its full name
abbrev pub changed_methods : (ℕ → List ℕ → MethodDescriptorProto → MethodDescriptorProto) → ℕ
    → List ℕ → List MethodDescriptorProto → List MethodDescriptorProto
changed_methods change index scope ms = map (λ m. change index (join scope (text_of m.name)) m) ms

-- a message with its full name, of which the fields, the nested messages and the extensions are
-- changed
abbrev mutual
  pub changed_message : Changes → ℕ → List ℕ → DescriptorProto → DescriptorProto
  changed_message c index full_name
      (DescriptorProto' name fields n nested enums ranges extensions options oneofs reserved
      reserved_names) =
      DescriptorProto' name (changed_fields c.field index full_name fields) n
      (changed_nested c index full_name nested) enums ranges
      (changed_fields c.extension index full_name extensions) options oneofs reserved reserved_names

  -- the nested messages of a message, as rows of records, each changed
  pub changed_nested : {n : _} → Changes → ℕ → List ℕ → Row_of-DescriptorProto n
      → Row_of-DescriptorProto n
  changed_nested c index scope end_of-DescriptorProto = end_of-DescriptorProto
  changed_nested c index scope (more_of-DescriptorProto m rest) =
      more_of-DescriptorProto
      (changed_message c index (join scope (text_of (out-DescriptorProto m).name)) m)
      (changed_nested c index scope rest)

-- the messages of a scope, each changed by its full name
abbrev pub changed_messages : Changes → ℕ → List ℕ → List DescriptorProto → List DescriptorProto
changed_messages c index scope ms =
    map (λ m. changed_message c index (join scope (text_of (out-DescriptorProto m).name)) m) ms

-- law: a changed message is the message with its fields, its nested messages and its extensions
-- changed
abbrev pub ChangedMessageIs : Type 0
ChangedMessageIs = (c : Changes) (index : ℕ) (full_name : List ℕ) (m : DescriptorProto) →
    let written = out-DescriptorProto m in
    changed_message c index full_name m ≡ roll-DescriptorProto (record written {
      field = changed_fields c.field index full_name written.field;
      nested_type = changed_messages c index full_name written.nested_type;
      extension = changed_fields c.extension index full_name written.extension;
    })

-- a service with its full name, of which the methods are changed
abbrev pub changed_service : Changes → ℕ → List ℕ → ServiceDescriptorProto → ServiceDescriptorProto
changed_service c index full_name s =
    record s { method = changed_methods c.method index full_name s.method }

-- the services of a scope, each changed by its full name
abbrev pub changed_services : Changes → ℕ → List ℕ → List ServiceDescriptorProto
    → List ServiceDescriptorProto
changed_services c index scope ss =
    map (λ s. changed_service c index (join scope (text_of s.name)) s) ss

-- the file with an index, of which the messages, services and extensions are changed in the scope
-- of its package; all else stays as it was given
abbrev pub changed_file : Changes → ℕ → FileDescriptorProto → FileDescriptorProto
changed_file c index f = record f {
  message_type = changed_messages c index (text_of f.«package») f.message_type;
  service = changed_services c index (text_of f.«package») f.service;
  extension = changed_fields c.extension index (text_of f.«package») f.extension;
}

-- files that are numbered on from an index, each changed
abbrev pub changed_files : Changes → ℕ → List FileDescriptorProto → List FileDescriptorProto
changed_files c index [] = []
changed_files c index (f ∷ fs) = changed_file c index f ∷ changed_files c (suc index) fs

-- a record of any kind, changed in the file with an index by its full name
abbrev pub changed_proto : Changes → ℕ → List ℕ → Proto → Proto
changed_proto c index full_name (of_file f) = of_file (changed_file c index f)
changed_proto c index full_name (of_message m) = of_message (changed_message c index full_name m)
changed_proto c index full_name (of_field f) = of_field (c.field index full_name f)
changed_proto c index full_name (of_oneof o) = of_oneof o
changed_proto c index full_name (of_service s) = of_service (changed_service c index full_name s)
changed_proto c index full_name (of_method m) = of_method (c.method index full_name m)
changed_proto c index full_name (of_enum e) = of_enum e
changed_proto c index full_name (of_value v) = of_value v
changed_proto c index full_name (of_extension x) = of_extension (c.extension index full_name x)

-- a declaration with its record changed
abbrev pub changed : Changes → Shown → Shown
changed c d = record d { proto = changed_proto c d.file d.full_name d.proto }

-- law: changed files declare what the files declare, each declaration changed, where changes keep
-- names
abbrev pub DeclareChanged : Changes → Counts → List FileDescriptorProto → Type 0
DeclareChanged c base fs = declarations base (changed_files c base.files fs)
    ≡ map (changed c) (declarations base fs)
