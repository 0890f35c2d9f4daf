-- New files before they are linked.
use Rattle.std.specs.Prelude.{[]}
use Rattle.pool_types.specs.declared.contents.file.FileDescriptorInner.{FileDescriptorInner}
use Rattle.proto_types.specs.declared.file.FileDescriptorProto.{FileDescriptorProto}
use Rattle.pool_types.specs.Syntaxes.{syntax_of}

-- a new file as it is, of which nothing but its syntax is known
abbrev pub unlinked : FileDescriptorProto → FileDescriptorInner
unlinked f = record {
  syntax = syntax_of f;
  raw = f;
  dependencies = [];
  transitive_dependencies = record { keys = [] };
}
