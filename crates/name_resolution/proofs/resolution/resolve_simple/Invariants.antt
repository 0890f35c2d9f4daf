use Rattle.std.proofs.Common.{◌≡◌}
use Rattle.std.specs.BTreeSet.{contains_by}
use Rattle.std.specs.Ordering.{nat_cmp}
use Rattle.name_resolution.specs.Parents.{outer}
use Rattle.name_resolution.specs.Resolution.{simple, resolution_in}
use Rattle.name_resolution.proofs.Outward.{answers, best_from}
use Rattle.name_resolution.proofs.resolution.resolve_simple.Given as goal

-- the best of what was answered so far and of what the scopes that are left answer is the best of all
abbrev pub invariant-loop-parent : goal.invariant-loop-parent
invariant-loop-parent g l =
    (goal.iterator-loop-parent g).can_next l.parent-iterator
    × (goal.iterator-loop-parent g).is_finite l.parent-iterator
    × (best_from (resolution_in l.best) (answers (g.N.NameTable.names l.names) (λ n. contains_by (nat_cmp n) l.wanted.visible.now) l.wanted.filter l.reference.name.now l.parent-iterator)
    ≡ simple (g.N.NameTable.names l.names) (λ n. contains_by (nat_cmp n) l.wanted.visible.now) l.wanted.filter (outer l.reference.scope.now) l.reference.name.now)
