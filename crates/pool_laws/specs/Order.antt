-- The order in which a batch has its files.
use Rattle.std.specs.Prelude.{◌≡◌, ◌↔◌, ℕ, ℤ, List, slice_get}
use Rattle.std.specs.FinMap as finite
use Rattle.std.specs.List.Sorted.{IsPermutation}
use Rattle.std.specs.Option.{option_and_then, option_map}
use Rattle.std.specs.declared.option.Option.{Option}
use Rattle.std.specs.declared.option.Option.TheVariants.{None, Some}
use Rattle.proto_types.specs.Readers.{text_of}
use Rattle.proto_types.specs.declared.file.FileDescriptorProto.{FileDescriptorProto}
use Rattle.pool_types.specs.Contents.{Contents, files_of}
use Rattle.pool_types.specs.declared.contents.definition.Definition.{Definition}
use Rattle.pool_types.specs.declared.contents.definition.DefinitionKind.{DefinitionKind}
use Rattle.pool_types.specs.declared.contents.definition.DefinitionKind.TheVariants as definition
use Rattle.record_walk.specs.declared.declaration.DeclarationKind.{DeclarationKind}
use Rattle.record_walk.specs.declared.declaration.DeclarationKind.TheVariants as declaration
use Rattle.proto_types.specs.File.{file_at}
use Rattle.descriptor_pool.specs.Pool.{Accepts, Batch, Fits, link}

-- the linked record of the file with a name
abbrev pub record_named : Contents → List ℕ → Option FileDescriptorProto
record_named p name = option_and_then (slice_get (files_of p)) (finite.get p.file_names name)

-- the kind of a definition without its number, and none of a package
abbrev pub kind_alone : DefinitionKind → Option DeclarationKind
kind_alone definition.Package = None
kind_alone (definition.Message _) = Some declaration.Message
kind_alone (definition.Field _) = Some declaration.Field
kind_alone (definition.Oneof _) = Some declaration.Oneof
kind_alone (definition.Service _) = Some declaration.Service
kind_alone (definition.Method _) = Some declaration.Method
kind_alone (definition.Enum _) = Some declaration.Enum
kind_alone (definition.EnumValue _) = Some declaration.EnumValue
kind_alone (definition.Extension _) = Some declaration.Extension

-- a definition by its kind, the name of its file and its path; of a package only that it is one
abbrev pub without_numbers : Contents → Definition → Option (DeclarationKind × List ℕ × List ℤ)
without_numbers p def =
    option_map (λ kind. (kind, text_of (file_at (files_of p) def.file).name, def.path))
    (kind_alone def.kind)

-- two pools have the same linked record under each name of a file, and know the same names, each of
-- which means the same but for numbers
pub record SameButNumbers (p q : Contents) : Type 0 where
  pub records : (name : List ℕ) → record_named p name ≡ record_named q name
  pub names : (name : List ℕ) → option_map (without_numbers p) (finite.get p.names name)
      ≡ option_map (without_numbers q) (finite.get q.names name)

-- law: a batch in another order fits exactly if it did, is accepted exactly if it was, and then
-- makes a pool that is the same but for numbers
abbrev pub Reorders : Contents → Batch → Batch → Type 0
Reorders p b c =
    IsPermutation b c → (Fits p b ↔ Fits p c) × (Accepts p b ↔ Accepts p c)
    × (Accepts p b → SameButNumbers (link p b) (link p c))
