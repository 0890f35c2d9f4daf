use Rattle.std.proofs.Common.{◌≡◌, ◌++◌, string_bytes, take}
use Rattle.std.specs.List.{flat_map}
use Rattle.pool_descriptions.specs.Listed.{listed_line}
use Rattle.pool_descriptions.proofs.listed.write_declarations.Given as goal

-- the declarations so far are told
abbrev pub invariant-loop-declaration : goal.invariant-loop-declaration
invariant-loop-declaration l =
    string_bytes l.text ≡ string_bytes l.initial.text ++ flat_map listed_line (take l.declaration-index l.list)
