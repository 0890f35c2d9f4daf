use Rattle.std.proofs.Common.{◌≡◌, ◌∷◌, ◌++◌, string_bytes, take}
use Rattle.std.specs.List.{flat_map}
use Rattle.verdict_texts.specs.Fingerprints.{marked}
use Rattle.verdict_texts.specs.Quality.{quality_object}
use Rattle.verdict_texts.proofs.quality.write_further.Given as goal

-- the faults so far are told
abbrev pub invariant-loop-one : goal.invariant-loop-one
invariant-loop-one l =
    string_bytes l.text ≡ string_bytes l.initial.text
    ++ flat_map (λ one. 44 ∷ quality_object (marked one)) (take l.one-index l.all)
