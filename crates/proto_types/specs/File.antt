-- Files without parts, and the file with an index.
use Rattle.std.specs.Prelude.{ℕ, List, [], slice_get, unwrap_or}
use Rattle.std.specs.declared.option.Option.TheVariants.{None}
use Rattle.proto_types.specs.declared.file.FileDescriptorProto.{FileDescriptorProto}
use Rattle.proto_types.specs.declared.file.FileDescriptorSet.{FileDescriptorSet}

-- a file with all parts absent or empty
abbrev pub no_file : FileDescriptorProto
no_file = record {
  name = None;
  «package» = None;
  dependency = [];
  message_type = [];
  enum_type = [];
  service = [];
  extension = [];
  options = None;
  source_code_info = None;
  public_dependency = [];
  weak_dependency = [];
  syntax = None;
}

-- a set without files
abbrev pub no_file_set : FileDescriptorSet
no_file_set = record { file = [] }

-- the file with an index, of files in the order of linking; past the last one a file without parts
abbrev pub file_at : List FileDescriptorProto → ℕ → FileDescriptorProto
file_at files n = unwrap_or (slice_get files n) no_file
