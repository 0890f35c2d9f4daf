use Rattle.std.proofs.Common.{◌≡◌, take}
use Rattle.verdict_texts.specs.Places.{places_of}
use Rattle.verdict_texts.proofs.places.places_of.Given as goal

-- the files so far are looked at
abbrev pub invariant-loop-file : goal.invariant-loop-file
invariant-loop-file l = l.places ≡ places_of l.kind (take l.file-index l.files)
