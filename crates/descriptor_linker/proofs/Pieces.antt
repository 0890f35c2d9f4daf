-- What pieces amount to that are written one after another.
use Rattle.std.proofs.Common.{◌≡◌, ℕ, ◌-◌, List, ◌++◌, length, take, drop, append_assoc, arith, length-drop}
use Rattle.std.proofs.lemmas.List.{take-append-drop}
use Rattle.std.proofs.lemmas.Grind.{common_steps}
use Rattle.std.specs.declared.option.Option.{Option}
use Rattle.std.specs.declared.option.Option.TheVariants.{None, Some}
use Rattle.script_devices.specs.Device.{Took}

-- a piece went behind what had gone
pub Took-more : (old mid new : Option (List ℕ)) (went more : List ℕ) → Took old went mid → Took mid more new → Took old (went ++ more) new
Took-more None None new went more first then = then
Took-more None (Some has) new went more first then = cc
Took-more (Some had) None new went more first then = cc
Took-more (Some had) (Some has) new went more first then = cc (append_assoc had went more)

-- the first bytes of the rest go behind the front
pub rest-taken : (all front rest : List ℕ) (n : ℕ) → all ≡ front ++ rest → all ≡ (front ++ take n rest) ++ take (length rest - n) (drop n rest)
rest-taken all front rest n split = grind (arith, common_steps, take-append-drop n rest, append_assoc front (take n rest) (drop n rest), length-drop n rest)
