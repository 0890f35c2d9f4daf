-- A pool while a batch is linked into it.
use Rattle.std.specs.Prelude.{ℕ, ◌==◌, nat_le, List, length, map, take, drop, if◌then◌else◌}
use Rattle.std.specs.FinMap as finite
use Rattle.std.specs.List.{filter_map}
use Rattle.pool_types.specs.Contents.{Contents, files_of}
use Rattle.pool_types.specs.declared.contents.file.FileDescriptorInner.{FileDescriptorInner}
use Rattle.proto_types.specs.declared.file.FileDescriptorProto.{FileDescriptorProto}
use Rattle.name_resolution.specs.Visibility.{seen_from}
use Rattle.plain_data.specs.Each.{map_enumerated}
use Rattle.name_tables.specs.NameTables.{without_files_from, file_names_before}
use Rattle.pool_contents.specs.declared.growing.GrowingPool.{GrowingPool}
use Rattle.pool_contents.specs.Inner.{contents_in}

-- what a roll-back leaves of a growing pool: of each list as much as there was before, and the
-- names that mean something in the files that are left
abbrev pub rolled_back : GrowingPool → Contents
rolled_back p = record {
  files = take p.base.files p.inner.files.items;
  messages = take p.base.messages p.inner.messages.items;
  enums = take p.base.enums p.inner.enums.items;
  services = take p.base.services p.inner.services.items;
  extensions = take p.base.extensions p.inner.extensions.items;
  names = without_files_from p.base.files p.inner.names;
  file_names = file_names_before p.base.files p.inner.file_names;
}

-- the index of the first file that came
abbrev pub first_new : GrowingPool → ℕ
first_new p = length (rolled_back p).files

-- the records of files from an index on
abbrev pub records_from : ℕ → List FileDescriptorInner → List FileDescriptorProto
records_from first files = map (λ f. f.raw) (drop first files)

-- the records of the files that came
abbrev pub new_records : GrowingPool → List FileDescriptorProto
new_records p = records_from p.base.files p.inner.files.items

-- the index of the first extension that came
abbrev pub first_extension : GrowingPool → ℕ
first_extension p = length (rolled_back p).extensions

-- the files that the file with an index sees, of all that there are
abbrev pub seen_in : GrowingPool → ℕ → List ℕ
seen_in p n = seen_from (files_of (contents_in p.inner)) (finite.get p.inner.file_names) n

-- a file, by its index, with the files that it imports and those that it sees
abbrev pub seeing : GrowingPool → ℕ → FileDescriptorInner → FileDescriptorInner
seeing p n f = record f {
  dependencies = filter_map (finite.get p.inner.file_names) f.raw.dependency;
  transitive_dependencies = record { keys = seen_in p n };
}

-- all files, where the one with an index has the files that it imports and those that it sees
abbrev pub file_seeing : GrowingPool → ℕ → List FileDescriptorInner
file_seeing p file =
    map_enumerated (λ n f. if n == file then seeing p file f else f) 0 p.inner.files.items

-- all files, where each that came has the files that it imports and those that it sees
abbrev pub files_seeing : GrowingPool → List FileDescriptorInner
files_seeing p = map_enumerated (λ n f. if nat_le (first_new p) n then seeing p n f
    else f) 0 p.inner.files.items

-- what the second pass begins with: all that there is by now, but of files only those that were
-- there before
abbrev pub before_items : GrowingPool → Contents
before_items p = record (contents_in p.inner) { files = (rolled_back p).files }
