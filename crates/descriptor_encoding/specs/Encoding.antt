-- The canonical encoding.
use Rattle.std.specs.Prelude.{ℕ, List, map}
use Rattle.wire_format.specs.Encoding.{encoding}
use Rattle.proto_types.specs.declared.file.FileDescriptorSet.{FileDescriptorSet}
use Rattle.proto_types.specs.declared.file.FileDescriptorProto.{FileDescriptorProto}
use Rattle.pool_types.specs.declared.contents.file.FileDescriptorInner.{FileDescriptorInner}
use Rattle.descriptor_encoding.specs.Files.{file_listed, set_listed}

-- the canonical encoding of a set of files
abbrev pub set_encoding : FileDescriptorSet → List ℕ
set_encoding m = encoding (set_listed m)

-- the canonical encoding of a file
abbrev pub file_encoding : FileDescriptorProto → List ℕ
file_encoding m = encoding (file_listed m)

-- the canonical encoding of the set of linked files
abbrev pub linked_encoding : List FileDescriptorInner → List ℕ
linked_encoding fs = set_encoding (record { file = map (λ f. f.raw) fs })
