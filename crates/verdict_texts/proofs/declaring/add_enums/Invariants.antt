use Rattle.std.proofs.Common.{◌≡◌, ◌++◌, take}
use Rattle.verdict_texts.specs.Named.{enum_names}
use Rattle.verdict_texts.proofs.declaring.add_enums.Given as goal

-- the names of the enums so far
abbrev pub invariant-loop-enumeration : goal.invariant-loop-enumeration
invariant-loop-enumeration l =
    l.names ≡ l.initial.names ++ enum_names l.scope (take l.enumeration-index l.enums)
