use Rattle.std.proofs.Common.{◌≡◌, ◌∷◌, ◌++◌, string_bytes, take, flat_map}
use Rattle.pool_changes.specs.Texts.{json_compared}
use Rattle.pool_changes.proofs.objects.write_each_compared.Given as goal

-- the comparisons so far are told
abbrev pub invariant-loop-changes : goal.invariant-loop-changes
invariant-loop-changes l =
    string_bytes l.text ≡ string_bytes l.initial.text
    ++ flat_map (λ r. 44 ∷ json_compared r) (take l.changes-index l.all)
