-- Changes that leave whole fields and methods whole leave whole files whole.
use Rattle.std.proofs.Common.{ℕ, zero, suc, IfSome, List, [], ◌∷◌, map, sym, subst}
use Rattle.std.specs.List.{AllByRecursion}
use Rattle.proto_types.specs.Names.{join}
use Rattle.proto_types.specs.Readers.{text_of}
use Rattle.proto_types.specs.declared.file.FileDescriptorProto.{FileDescriptorProto}
use Rattle.proto_types.specs.declared.message.DescriptorProto.{DescriptorProto, out-DescriptorProto}
use Rattle.proto_types.specs.declared.message.DescriptorProto.TheViews.{out-roll-DescriptorProto}
use Rattle.proto_types.specs.declared.records.field.FieldDescriptorProto.{FieldDescriptorProto}
use Rattle.proto_types.specs.declared.records.service.MethodDescriptorProto.{MethodDescriptorProto}
use Rattle.proto_types.specs.declared.records.service.ServiceDescriptorProto.{ServiceDescriptorProto}
use Rattle.record_walk.specs.Changed.{Changes, changed_fields, changed_file, changed_files, changed_message, changed_messages, changed_service, changed_services}
use Rattle.record_walk.proofs.Changed.{changed-message-is}
use Rattle.descriptor_encoding.specs.Whole.{IsText, Within, IsField, IsMethod, IsService, IsMessage, IsMessageOf, IsLayer, IsFile}
use Rattle.stored_pools.proofs.Texts.{joined, name-text}

-- whole records are left whole, where their full names are UTF-8
pub record KeepsWhole (c : Changes) : Type 0 where
  pub field : (levels index : ℕ) (name : List ℕ) (f : FieldDescriptorProto) → IsText name → IsField levels f → IsField levels (c.field index name f)
  pub extension : (levels index : ℕ) (name : List ℕ) (x : FieldDescriptorProto) → IsText name → IsField levels x → IsField levels (c.extension index name x)
  pub method : (levels index : ℕ) (name : List ℕ) (m : MethodDescriptorProto) → IsText name → IsMethod levels m → IsMethod levels (c.method index name m)

-- each is left whole
each-whole : {A : Type 0} (P : A → Type 0) (change : A → A) → ((x : A) → P x → P (change x)) → (xs : List A) → AllByRecursion P xs → AllByRecursion P (map change xs)
each-whole P change keeps [] all = tt
each-whole P change keeps (x ∷ xs) all = (keeps x all.0, each-whole P change keeps xs all.1)

-- and one level further in
further-in : {A : Type 0} (P : ℕ → A → Type 0) (levels : ℕ) (x y : A) → ((levels : ℕ) → P levels x → P levels y) → Within levels P x → Within levels P y
further-in P zero x y keeps whole = absurd whole
further-in P (suc levels) x y keeps whole = keeps levels whole

within-whole : {A : Type 0} (P : ℕ → A → Type 0) (change : A → A) → ((levels : ℕ) (x : A) → P levels x → P levels (change x))
    → (levels : ℕ) (xs : List A) → AllByRecursion (Within levels P) xs → AllByRecursion (Within levels P) (map change xs)
within-whole P change keeps levels = each-whole (Within levels P) change (λ x. further-in P levels x (change x) (λ k. keeps k x))

message-name : (levels : ℕ) (m : DescriptorProto) → IsMessage levels m → IfSome (out-DescriptorProto m).name IsText
message-name zero m whole = whole.name
message-name (suc levels) m whole = whole.name

module _ (c : Changes) (keeps : KeepsWhole c) (index : ℕ) where
  full-name : (scope : List ℕ) (m : DescriptorProto) → IsText scope → IfSome (out-DescriptorProto m).name IsText → IsText (join scope (text_of (out-DescriptorProto m).name))
  full-name scope m scoped named = joined scope (text_of (out-DescriptorProto m).name) scoped (name-text (out-DescriptorProto m).name named)

  fields-whole : (scope : List ℕ) → IsText scope → (levels : ℕ) (fs : List FieldDescriptorProto) → AllByRecursion (Within levels IsField) fs
      → AllByRecursion (Within levels IsField) (changed_fields c.field index scope fs)
  fields-whole scope scoped = within-whole IsField (λ f. c.field index (join scope (text_of f.name)) f)
      (λ levels f whole. keeps.field levels index (join scope (text_of f.name)) f (joined scope (text_of f.name) scoped (name-text f.name whole.name)) whole)

  extensions-whole : (scope : List ℕ) → IsText scope → (levels : ℕ) (xs : List FieldDescriptorProto) → AllByRecursion (Within levels IsField) xs
      → AllByRecursion (Within levels IsField) (changed_fields c.extension index scope xs)
  extensions-whole scope scoped = within-whole IsField (λ x. c.extension index (join scope (text_of x.name)) x)
      (λ levels x whole. keeps.extension levels index (join scope (text_of x.name)) x (joined scope (text_of x.name) scoped (name-text x.name whole.name)) whole)

  -- a message whose nested messages are left whole
  layer-whole : (levels : ℕ) (Nested : DescriptorProto → Type 0) (full_name : List ℕ) (m : DescriptorProto) → IsText full_name
      → ((n : DescriptorProto) → Nested n → Nested (changed_message c index (join full_name (text_of (out-DescriptorProto n).name)) n))
      → IsMessageOf levels Nested m → IsMessageOf levels Nested (changed_message c index full_name m)
  layer-whole levels Nested full_name m named inner whole =
      let d = out-DescriptorProto m in
      let made = record d {
        field = changed_fields c.field index full_name d.field;
        nested_type = changed_messages c index full_name d.nested_type;
        extension = changed_fields c.extension index full_name d.extension;
      } in
      let layer : IsLayer levels Nested made = record {
        name = whole.name;
        field = fields-whole full_name named levels d.field whole.field;
        nested_type = each-whole Nested (λ n. changed_message c index (join full_name (text_of (out-DescriptorProto n).name)) n) inner d.nested_type whole.nested_type;
        enum_type = whole.enum_type;
        extension_range = whole.extension_range;
        extension = extensions-whole full_name named levels d.extension whole.extension;
        options = whole.options;
        oneof_decl = whole.oneof_decl;
        reserved_range = whole.reserved_range;
        reserved_name = whole.reserved_name;
      } in
      subst (IsMessageOf levels Nested) (sym (changed-message-is c index full_name m)) (subst (IsLayer levels Nested) (sym (out-roll-DescriptorProto made)) layer)

  message-whole : (full_name : List ℕ) → IsText full_name → (levels : ℕ) (m : DescriptorProto) → IsMessage levels m → IsMessage levels (changed_message c index full_name m)
  message-whole full_name named zero m whole = layer-whole zero (λ _. ⊥) full_name m named (λ n none. none) whole
  message-whole full_name named (suc levels) m whole =
      layer-whole (suc levels) (IsMessage levels) full_name m named
      (λ n inner. message-whole (join full_name (text_of (out-DescriptorProto n).name)) (full-name full_name n named (message-name levels n inner)) levels n inner) whole

  messages-whole : (scope : List ℕ) → IsText scope → (levels : ℕ) (ms : List DescriptorProto) → AllByRecursion (Within levels IsMessage) ms
      → AllByRecursion (Within levels IsMessage) (changed_messages c index scope ms)
  messages-whole scope scoped = within-whole IsMessage (λ m. changed_message c index (join scope (text_of (out-DescriptorProto m).name)) m)
      (λ levels m whole. message-whole (join scope (text_of (out-DescriptorProto m).name)) (full-name scope m scoped (message-name levels m whole)) levels m whole)

  methods-whole : (scope : List ℕ) → IsText scope → (levels : ℕ) (ms : List MethodDescriptorProto) → AllByRecursion (Within levels IsMethod) ms
      → AllByRecursion (Within levels IsMethod) (map (λ m. c.method index (join scope (text_of m.name)) m) ms)
  methods-whole scope scoped = within-whole IsMethod (λ m. c.method index (join scope (text_of m.name)) m)
      (λ levels m whole. keeps.method levels index (join scope (text_of m.name)) m (joined scope (text_of m.name) scoped (name-text m.name whole.name)) whole)

  service-whole : (full_name : List ℕ) → IsText full_name → (levels : ℕ) (s : ServiceDescriptorProto) → IsService levels s → IsService levels (changed_service c index full_name s)
  service-whole full_name named levels s whole =
      record { name = whole.name; method = methods-whole full_name named levels s.method whole.method; options = whole.options }

  services-whole : (scope : List ℕ) → IsText scope → (levels : ℕ) (ss : List ServiceDescriptorProto) → AllByRecursion (Within levels IsService) ss
      → AllByRecursion (Within levels IsService) (changed_services c index scope ss)
  services-whole scope scoped = within-whole IsService (λ s. changed_service c index (join scope (text_of s.name)) s)
      (λ levels s whole. service-whole (join scope (text_of s.name)) (joined scope (text_of s.name) scoped (name-text s.name whole.name)) levels s whole)

  file-whole : (levels : ℕ) (f : FileDescriptorProto) → IsFile levels f → IsFile levels (changed_file c index f)
  file-whole levels f whole =
      let scope = text_of f.«package» in
      let scoped = name-text f.«package» whole.«package» in
      record {
        name = whole.name;
        «package» = whole.«package»;
        dependency = whole.dependency;
        message_type = messages-whole scope scoped levels f.message_type whole.message_type;
        enum_type = whole.enum_type;
        service = services-whole scope scoped levels f.service whole.service;
        extension = extensions-whole scope scoped levels f.extension whole.extension;
        options = whole.options;
        source_code_info = whole.source_code_info;
        public_dependency = whole.public_dependency;
        weak_dependency = whole.weak_dependency;
        syntax = whole.syntax;
      }

-- files that are whole are left whole
pub files-whole : (c : Changes) → KeepsWhole c → (levels index : ℕ) (fs : List FileDescriptorProto) → AllByRecursion (Within levels IsFile) fs
    → AllByRecursion (Within levels IsFile) (changed_files c index fs)
files-whole c keeps levels index [] all = tt
files-whole c keeps levels index (f ∷ fs) all =
    (further-in IsFile levels f (changed_file c index f) (λ k. file-whole c keeps index k f) all.0, files-whole c keeps levels (suc index) fs all.1)
