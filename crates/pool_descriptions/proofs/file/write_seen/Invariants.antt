use Rattle.std.proofs.Common.{◌≡◌, ◌++◌, string_bytes}
use Rattle.std.specs.List.{flat_map}
use Rattle.pool_descriptions.specs.Items.{seen_line}
use Rattle.pool_descriptions.proofs.file.write_seen.Given as goal

-- what is told so far, and the files that are left
abbrev pub invariant-loop-file : goal.invariant-loop-file
invariant-loop-file l =
    string_bytes l.text ++ flat_map (seen_line l.pool) l.file-iterator ≡ string_bytes l.initial.text ++ flat_map (seen_line l.pool) l.files.keys
