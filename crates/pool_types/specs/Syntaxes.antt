-- The syntax that a file is written in (descriptor.proto's `syntax`).
use Rattle.std.specs.Prelude.{ℕ, Bool, true, false, List, codes, unwrap_or, if◌then◌else◌}
use Rattle.std.specs.Str.{bytes_eq}
use Rattle.std.specs.declared.option.Option.{Option}
use Rattle.std.specs.declared.option.Option.TheVariants.{None, Some}
use Rattle.proto_types.specs.File.{file_at}
use Rattle.proto_types.specs.declared.file.FileDescriptorProto.{FileDescriptorProto}
use Rattle.pool_types.specs.declared.kinds.Syntax.{Syntax}
use Rattle.pool_types.specs.declared.kinds.Syntax.TheVariants.{Proto2, Proto3}

-- the syntax that a text names: proto2 of `proto2`, and where the text is missing; proto3 of
-- `proto3`; none of any other text, of which the empty one is such
abbrev pub known_syntax : Option (List ℕ) → Option Syntax
known_syntax None = Some Proto2
known_syntax (Some text) = if bytes_eq text (codes "proto2") then Some Proto2
    else (if bytes_eq text (codes "proto3") then Some Proto3 else None)

-- the syntax of a file; an unknown one is read as proto2
abbrev pub syntax_of : FileDescriptorProto → Syntax
syntax_of f = unwrap_or (known_syntax f.syntax) Proto2

-- the syntax of the file with an index
abbrev pub syntax_at : List FileDescriptorProto → ℕ → Syntax
syntax_at files n = syntax_of (file_at files n)

-- whether a syntax is proto3
abbrev pub is_proto3 : Syntax → Bool
is_proto3 Proto2 = false
is_proto3 Proto3 = true
