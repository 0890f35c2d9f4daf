use Rattle.std.proofs.Common.{◌≡◌, map, take, flat_map}
use Rattle.verdict_texts.specs.Fingerprints.{marked}
use Rattle.descriptor_check.specs.ChangeFormats.{marked_at_levels}
use Rattle.descriptor_check.proofs.change_formats.all_marked.Given as goal

-- the comparisons so far are gone through
abbrev pub invariant-loop-changes : goal.invariant-loop-changes
invariant-loop-changes l = map marked l.all.items ≡ flat_map marked_at_levels (take l.changes-index l.told)
