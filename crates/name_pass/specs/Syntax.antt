-- The fault of a file whose syntax isn't known.
use Rattle.std.specs.Prelude.{ℕ, List, [], ◌∷◌}
use Rattle.std.specs.declared.option.Option.TheVariants.{None, Some}
use Rattle.proto_types.specs.declared.tag.file.TheConstants.{SYNTAX}
use Rattle.proto_types.specs.Readers.{text_of}
use Rattle.proto_types.specs.declared.file.FileDescriptorProto.{FileDescriptorProto}
use Rattle.pool_types.specs.Syntaxes.{known_syntax}
use Rattle.pool_faults.specs.Labels.{label_in}
use Rattle.pool_faults.specs.declared.fault.DescriptorErrorKind.{DescriptorErrorKind}
use Rattle.pool_faults.specs.declared.fault.DescriptorErrorKind.TheVariants.{UnknownSyntax}

-- the fault of a file whose syntax is unknown, at the path 12
abbrev pub syntax_faults : List FileDescriptorProto → ℕ → FileDescriptorProto
    → List DescriptorErrorKind
syntax_faults files index f = elim (known_syntax f.syntax) [
  | Some _ ↦ []
  | None ↦ UnknownSyntax (text_of f.syntax) (label_in files index (SYNTAX ∷ [])) ∷ []
]
