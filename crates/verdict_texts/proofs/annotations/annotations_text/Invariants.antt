use Rattle.std.proofs.Common.{◌≡◌, string_bytes, take}
use Rattle.std.specs.List.{flat_map}
use Rattle.verdict_texts.specs.Annotations.{annotation}
use Rattle.verdict_texts.proofs.annotations.annotations_text.Given as goal

-- the faults so far are told
abbrev pub invariant-loop-fault : goal.invariant-loop-fault
invariant-loop-fault l = string_bytes l.text ≡ flat_map annotation (take l.fault-index l.told)
