-- The references of files: the type names of fields and of extensions, the messages that extensions
-- extend, and what methods take and give.
use Rattle.std.specs.Prelude.{ℕ, List, [], ◌∷◌, codes}
use Rattle.std.specs.List.{flat_map}
use Rattle.proto_types.specs.declared.file.FileDescriptorProto.{FileDescriptorProto}
use Rattle.proto_types.specs.Readers.{text_of}
use Rattle.record_walk.specs.Counts.{no_counts}
use Rattle.record_walk.specs.Declarations.{declarations}
use Rattle.record_walk.specs.Protos.{of_field, of_method, of_extension}
use Rattle.record_walk.specs.Shown.{Shown}

-- a text that names a definition, with the full name of the declaration that refers, and the part
-- of its record where the text stands
pub record Reference : Type 0 where
  pub full_name : List ℕ
  pub part : List ℕ
  pub text : List ℕ

-- the reference of a declaration, by a part of its record and the text there
abbrev pub reference : Shown → List ℕ → List ℕ → Reference
reference d part text = record { full_name = d.full_name; part = part; text = text }

-- the reference of a declaration by a part of its record, unless the text there is empty
abbrev pub reference_in : Shown → List ℕ → List ℕ → List Reference
reference_in d part [] = []
reference_in d part (c ∷ cs) = reference d part (c ∷ cs) ∷ []

-- the references of a declaration: of a field its type name, of an extension its extendee and then
-- its type name, each type name unless it is empty; of a method its input and its output; of any
-- other none
abbrev pub references_in : Shown → List Reference
references_in d = elim d.proto [
  | of_field f ↦ reference_in d (codes "type_name") (text_of f.type_name)
  | of_method m ↦ reference d (codes "input_type") (text_of m.input_type)
      ∷ reference d (codes "output_type") (text_of m.output_type) ∷ []
  | of_extension x ↦ reference d (codes "extendee") (text_of x.extendee)
      ∷ reference_in d (codes "type_name") (text_of x.type_name)
  | _ ↦ []
]

-- the references of all declarations of files, at every depth
abbrev pub references : List FileDescriptorProto → List Reference
references files = flat_map references_in (declarations no_counts files)
