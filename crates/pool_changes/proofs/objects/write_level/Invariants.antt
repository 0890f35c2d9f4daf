use Rattle.std.proofs.Common.{◌≡◌, ◌∷◌, ◌++◌, string_bytes, take, flat_map}
use Rattle.pool_changes.specs.Texts.{json_change}
use Rattle.pool_changes.proofs.objects.write_level.Given as goal

-- the changes so far are told
abbrev pub invariant-loop-change : goal.invariant-loop-change
invariant-loop-change l =
    string_bytes l.text ≡ string_bytes l.initial.text
    ++ flat_map (λ told. 44 ∷ json_change l.changes l.level told) (take l.change-index l.told)
