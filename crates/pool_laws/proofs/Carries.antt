-- Records that are carried from one setting to another, linked or as they are: what their parts say there, in files below a number.
use Rattle.std.proofs.Common.{◌≡◌, ◌<◌, ℕ, ℤ, Option, List, [], ◌∷◌, ◌++◌}
use Rattle.proto_types.specs.declared.records.field.FieldDescriptorProto.{FieldDescriptorProto}
use Rattle.proto_types.specs.declared.records.service.MethodDescriptorProto.{MethodDescriptorProto}
use Rattle.proto_types.specs.declared.tag.field.TheConstants as field
use Rattle.plain_data.specs.Lists.{listed}
use Rattle.proto_types.specs.Readers.{text_of}
use Rattle.record_walk.specs.Changed.{Changes}
use Rattle.record_walk.specs.Shown.{Shown}
use Rattle.pool_types.specs.Syntaxes.{syntax_at}
use Rattle.name_resolution.specs.References.{reference_fault}
use Rattle.reference_pass.specs.Defaults.{field_default, field_default_faults}
use Rattle.reference_pass.specs.Extension.{extendee_faults, number_faults}
use Rattle.reference_pass.specs.Types.{field_kind, type_faults}
use Rattle.reference_pass.specs.Linked.{linked_field, resolved}
use Rattle.reference_pass.specs.References.{message_found, resolve_message}
use Rattle.reference_pass.specs.Setting.{Setting, seen_by}
use Rattle.pool_laws.proofs.Settings.{IsDefaulted, IsMessageName, IsTyped}
use Rattle.pool_laws.proofs.SettingStays.{retyped}

-- the name of a message that broke nothing is carried as this one: it means the message that it meant
abbrev pub NamedThere : Setting → Setting → Shown → List ℤ → Option (List ℕ) → Option (List ℕ) → Type 0
NamedThere s t d path given name =
    listed (reference_fault s.files (text_of given) d.file path (resolve_message s d given)) ≡ []
    → IsMessageName t d path (message_found (resolve_message s d given)) (resolved (resolve_message s d given) given) name

-- a method, of which only its input and its output change
pub record CarriesMethods (s t : Setting) (c : Changes) (many : ℕ) : Type 0 where
  pub kept : (file : ℕ) (full_name : List ℕ) (m : MethodDescriptorProto)
      → c.method file full_name m ≡ record m { input_type = (c.method file full_name m).input_type; output_type = (c.method file full_name m).output_type }
  pub inputs : (d : Shown) → d.file < many → (path : List ℤ) (m : MethodDescriptorProto) → NamedThere s t d path m.input_type (c.method d.file d.full_name m).input_type
  pub outputs : (d : Shown) → d.file < many → (path : List ℤ) (m : MethodDescriptorProto) → NamedThere s t d path m.output_type (c.method d.file d.full_name m).output_type

pub record Carries (s t : Setting) (c : Changes) (many : ℕ) : Type 0 where
  -- of a field only its type name and its type change, of an extension its extendee too
  pub kept : (file : ℕ) (full_name : List ℕ) (f : FieldDescriptorProto) → c.field file full_name f ≡ retyped f (c.field file full_name f)
  pub extensions : (file : ℕ) (full_name : List ℕ) (x : FieldDescriptorProto)
      → c.extension file full_name x ≡ record (c.field file full_name x) { extendee = (c.extension file full_name x).extendee }
  pub methods : CarriesMethods s t c many
  -- what broke nothing breaks nothing, and is what it was
  pub typed : (d : Shown) → d.file < many → (f : FieldDescriptorProto) → type_faults s d f ≡ []
      → IsTyped t d (field_kind s d f) (linked_field s d.file d.full_name f) (c.field d.file d.full_name f)
  pub defaulted : (d : Shown) → d.file < many → (f : FieldDescriptorProto) → type_faults s d f ≡ [] → field_default_faults s d f ≡ []
      → IsDefaulted t d (field_default s d f) (c.field d.file d.full_name f)
  pub extendees : (d : Shown) → d.file < many → (x : FieldDescriptorProto)
      → NamedThere s t d (d.path ++ field.EXTENDEE ∷ []) x.extendee (c.extension d.file d.full_name x).extendee
  pub numbered : (d : Shown) → d.file < many → (x y : FieldDescriptorProto) → y.number ≡ x.number → extendee_faults s d x ≡ []
      → number_faults s d x (resolve_message s d x.extendee) ≡ [] → number_faults t d y (resolve_message t d (c.extension d.file d.full_name x).extendee) ≡ []
  -- a file has the syntax that it had, and sees what it saw
  pub syntaxes : (n : ℕ) → n < many → syntax_at t.files n ≡ syntax_at s.files n
  pub sees : (n : ℕ) → n < many → seen_by t n ≡ seen_by s n
