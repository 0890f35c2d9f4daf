-- The full names of the fields of a message, and of the values of an enum, one behind another.
use Rattle.std.specs.Prelude.{◌≡◌, ◌++◌, ℕ, Bool, true, false, List, [], ◌∷◌, IfSome}
use Rattle.std.specs.List.{flat_map}
use Rattle.proto_types.specs.Names.{join}
use Rattle.proto_types.specs.Readers.{text_of}
use Rattle.proto_types.specs.declared.records.enumeration.EnumValueDescriptorProto.{EnumValueDescriptorProto}
use Rattle.proto_types.specs.declared.records.field.FieldDescriptorProto.{FieldDescriptorProto}
use Rattle.field_rules.specs.declared.inner_names.InnerNames.{InnerNames}

-- the full names of fields in a scope, one behind another
abbrev pub names_behind : List ℕ → List FieldDescriptorProto → List ℕ
names_behind scope fields = flat_map (λ f. join scope (text_of f.name)) fields

-- names that share their memory are those of fields in a scope
abbrev pub AreNamesOf : InnerNames → List ℕ → List FieldDescriptorProto → Type 0
AreNamesOf names scope fields = IfSome names.shared (λ text. text ≡ names_behind scope fields)

-- the full names of the values of an enum behind the text around it, one behind another
abbrev pub names_beside : List ℕ → List EnumValueDescriptorProto → List ℕ
names_beside around values = flat_map (λ v. around ++ text_of v.name) values

-- names that share their memory are those of values behind the text around their enum
abbrev pub AreNamesBeside : InnerNames → List ℕ → List EnumValueDescriptorProto → Type 0
AreNamesBeside names around values = IfSome names.shared (λ text. text ≡ names_beside around values)

-- the dot behind a scope, if it has one
abbrev pub dot : Bool → List ℕ
dot true = 46 ∷ []
dot false = []
