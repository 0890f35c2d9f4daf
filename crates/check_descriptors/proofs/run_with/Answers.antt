use Rattle.std.proofs.Common.{ℕ, List, Some, refl, inl, inr, subst, map, string_bytes}
use Rattle.std.specs.Result.{result_ok}
use Rattle.std.specs.Vec.Iter.{into_iter_items}
use Rattle.descriptor_check.specs.Devices.{Devices, untold}
use Rattle.descriptor_check.specs.Runs.{Ends}
use Rattle.check_descriptors.specs.Words.{called_with}
use Rattle.check_descriptors.proofs.run_with.Goals as goal

-- the run of a machine that has the words
pub returns : goal.returns
returns c =
    let EndsWith : List (List ℕ) → Type 0 = λ words. (new : Devices) × Ends (record untold { words = Some words }) new c.run.result in
    let seen = record untold { words = result_ok c.run.new.devices.words } in
    subst EndsWith c.in-Ok.ensures (seen, c.run.ensures)

-- nothing is written where there is no memory for the words
pub returns-in-Err : goal.returns-in-Err
returns-in-Err c =
    (called_with (map string_bytes (into_iter_items c.args.arguments)), inr (inl (refl, refl)))
