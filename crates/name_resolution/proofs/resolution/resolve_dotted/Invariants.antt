use Rattle.std.proofs.Common.{◌≡◌}
use Rattle.std.specs.BTreeSet.{contains_by}
use Rattle.std.specs.Ordering.{nat_cmp}
use Rattle.name_resolution.specs.Parents.{outer}
use Rattle.name_resolution.specs.Resolution.{dotted}
use Rattle.name_resolution.proofs.resolution.resolve_dotted.Given as goal

-- the scopes that are left settle the name as all do
abbrev pub invariant-loop-parent : goal.invariant-loop-parent
invariant-loop-parent g l =
    (goal.iterator-loop-parent g).can_next l.parent-iterator
    × (goal.iterator-loop-parent g).is_finite l.parent-iterator
    × (dotted (g.N.NameTable.names l.names) (λ n. contains_by (nat_cmp n) l.wanted.visible.now) l.wanted.filter l.parent-iterator l.reference.name.now
    ≡ dotted (g.N.NameTable.names l.names) (λ n. contains_by (nat_cmp n) l.wanted.visible.now) l.wanted.filter (outer l.reference.scope.now) l.reference.name.now)
