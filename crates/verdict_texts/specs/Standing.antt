-- That an element which is told at a label stands there, by what a file declares.
use Rattle.std.specs.Prelude.{◌≡◌, ℕ, ℤ, List, [], ◌∷◌, ◌++◌}
use Rattle.std.specs.List.{Contains}
use Rattle.std.specs.Option.{IfSome}
use Rattle.std.specs.declared.option.Option.TheVariants.{None, Some}
use Rattle.proto_types.specs.declared.file.FileDescriptorProto.{FileDescriptorProto}
use Rattle.pool_faults.specs.declared.label.Label.{Label}
use Rattle.record_walk.specs.Counts.{no_counts}
use Rattle.record_walk.specs.Declarations.{declarations}
use Rattle.record_walk.specs.Protos.{as_file}
use Rattle.record_walk.specs.Shown.{Shown}
use Rattle.verdict_texts.specs.Elements.{element_of}
use Rattle.verdict_texts.specs.Known.{only}

-- one of some declarations, which is no file, has a name, and stands at a path or around it
pub record StandsAt (ds : List Shown) (path : List ℤ) (name : List ℕ) : Type 0 where
  pub declaration : Shown
  pub listed : Contains ds declaration
  pub inside : as_file declaration.proto ≡ None
  pub named : declaration.full_name ≡ name
  pub rest : List ℤ
  pub front : declaration.path ++ rest ≡ path

-- a name is that of a declaration which stands in the only file of a label, at its path or around
-- it
pub record IsElement (files : List FileDescriptorProto) (label : Label) (name : List ℕ)
    : Type 0 where
  pub file : FileDescriptorProto
  pub found : only files label.file ≡ Some file
  pub stands : StandsAt (declarations no_counts (file ∷ [])) label.path name

-- law: an element that is told at a label is one
abbrev pub ElementsAreDeclared : Type 0
ElementsAreDeclared = (files : List FileDescriptorProto) (label : Label)
    → IfSome (element_of files label) (λ name. IsElement files label name)
