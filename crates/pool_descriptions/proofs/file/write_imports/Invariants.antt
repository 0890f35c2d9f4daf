use Rattle.std.proofs.Common.{◌≡◌, ◌++◌, string_bytes, take}
use Rattle.std.specs.List.{flat_map}
use Rattle.pool_descriptions.specs.Items.{import_line}
use Rattle.pool_descriptions.proofs.file.write_imports.Given as goal

-- the files so far are told
abbrev pub invariant-loop-file : goal.invariant-loop-file
invariant-loop-file l =
    string_bytes l.text ≡ string_bytes l.initial.text ++ flat_map (import_line l.pool) (take l.file-index l.files)
