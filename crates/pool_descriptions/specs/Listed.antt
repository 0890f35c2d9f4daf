-- The declarations of a pool, a line each.
use Rattle.std.specs.Prelude.{ℕ, List, ◌++◌, codes, map}
use Rattle.std.specs.List.{flat_map}
use Rattle.verdict_texts.specs.Lines.{line}
use Rattle.pool_types.specs.Contents.{Contents, files_of}
use Rattle.proto_types.specs.declared.file.FileDescriptorProto.{FileDescriptorProto}
use Rattle.record_walk.specs.Counts.{no_counts}
use Rattle.record_walk.specs.Declaration.{declaration_of}
use Rattle.record_walk.specs.Declarations.{declarations}
use Rattle.record_walk.specs.declared.declaration.Declaration.{Declaration}
use Rattle.record_walk.specs.Words.{alone, declared_word}

-- the line of a declaration: its kind and its full name
abbrev pub listed_line : Declaration → List ℕ
listed_line d = line (declared_word d.kind ++ (codes " " ++ alone d.full_name))

-- a line for each declaration of files, in the order of the walk
abbrev pub listed_files : List FileDescriptorProto → List ℕ
listed_files files = flat_map listed_line (map declaration_of (declarations no_counts files))

-- the same of the files of a pool
abbrev pub listed : Contents → List ℕ
listed p = listed_files (files_of p)
