-- New files behind those of a pool: what they declare, what they are read against, what they break,
-- and the pool with them.
use Rattle.std.specs.Prelude.{ℕ, List, [], ◌∷◌, ◌++◌, length, map}
use Rattle.std.specs.BTreeSet.{BTreeSet}
use Rattle.std.specs.FinMap as finite
use Rattle.proto_types.specs.declared.file.FileDescriptorProto.{FileDescriptorProto}
use Rattle.pool_types.specs.Contents.{Contents, files_of}
use Rattle.name_tables.specs.Entries.{names_with}
use Rattle.name_resolution.specs.Visibility.{seen_from}
use Rattle.record_walk.specs.Counts.{counts_in}
use Rattle.record_walk.specs.Declarations.{declarations}
use Rattle.record_walk.specs.Shown.{Shown}
use Rattle.reference_pass.specs.SecondPass.{Faults, second_pass}
use Rattle.plain_data.specs.Each.{map_enumerated}
use Rattle.reference_pass.specs.Items.{file_items, message_items, enum_items, service_items}
use Rattle.reference_pass.specs.Items.{extension_items}
use Rattle.reference_pass.specs.Setting.{Setting}
use Rattle.name_pass.specs.Names.{entries, file_entries}
use Rattle.pool_contents.specs.Extended.{with_extended}
use Rattle.name_pass.specs.FirstPass.{first_pass}

-- what new files declare, numbered on from the counts of the pool
abbrev pub declared_with : Contents → List FileDescriptorProto → List Shown
declared_with p new = declarations (counts_in p) new

-- the pool with the names of declarations behind those that it has; what is known stays
abbrev pub with_names : Contents → List Shown → Contents
with_names p ds = record p {
  names = names_with p.names (entries ds);
  file_names = names_with p.file_names (file_entries ds);
}

-- which files each file sees: one of the pool those that it saw, and each new one by the imports of
-- all, the pool's and the new ones
abbrev pub seen_with : Contents → List FileDescriptorProto → List (BTreeSet ℕ)
seen_with p new =
    let names = (with_names p (declared_with p new)).file_names in
    map (λ f. f.transitive_dependencies) p.files
    ++ map_enumerated (λ n _. record { keys = seen_from (files_of p ++ new) (finite.get names) n })
    (length p.files) new

-- what the new files are read against: the pool's files and the new ones behind them, the names of
-- both, and which of them each sees
abbrev pub setting_with : Contents → List FileDescriptorProto → Setting
setting_with p new =
    let named = with_names p (declared_with p new) in
    record {
      files = files_of p ++ new;
      names = named.names;
      file_names = named.file_names;
      seen = seen_with p new;
    }

-- the faults of the first pass over new files; labels are read in all files, the pool's and the new
-- ones
abbrev pub name_faults : Contents → List FileDescriptorProto → Faults
name_faults p new = first_pass (files_of p ++ new) p (declared_with p new)

-- the faults of the second pass over new files
abbrev pub reference_faults : Contents → List FileDescriptorProto → Faults
reference_faults p new = second_pass (setting_with p new) p.extensions (declared_with p new)

-- the first of two lists of faults if it has any, else the second
abbrev pub first_of_both : Faults → Faults → Faults
first_of_both [] second = second
first_of_both (f ∷ fs) second = f ∷ fs

-- the faults of new files: those of the first pass if there are any, else those of the second
abbrev pub batch_faults : Contents → List FileDescriptorProto → Faults
batch_faults p new = first_of_both (name_faults p new) (reference_faults p new)

-- the pool with the items of declarations behind those that it has
abbrev pub with_items : Contents → Setting → List Shown → Contents
with_items p s ds = record p {
  files = p.files ++ file_items s ds;
  messages = p.messages ++ message_items s ds;
  enums = p.enums ++ enum_items ds;
  services = p.services ++ service_items s ds;
  extensions = p.extensions ++ extension_items s ds;
}

-- the pool with new files: with their names, their items, and their extensions in the lists of the
-- messages that they extend
abbrev pub with_batch : Contents → List FileDescriptorProto → Contents
with_batch p new =
    let ds = declared_with p new in
    with_extended (length p.extensions) (with_items (with_names p ds) (setting_with p new) ds)
