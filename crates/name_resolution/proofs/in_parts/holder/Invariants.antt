use Rattle.std.proofs.Common.{◌≡◌, ℕ, Bool}
use Rattle.std.specs.List.{find}
use Rattle.std.specs.Option.{IfSome}
use Rattle.name_resolution.specs.declared.filter.ResolveNameFilter.{ResolveNameFilter}
use Rattle.name_resolution.specs.Parents.{outer}
use Rattle.name_resolution.specs.Resolution.{holds_first}
use Rattle.name_resolution.proofs.Around.{texts_left, steps_left}
use Rattle.name_resolution.proofs.in_parts.holder.Given as goal

-- what the scopes that are left hold is what all hold
abbrev pub invariant-loop-next : goal.invariant-loop-next
invariant-loop-next l = record {
  names : IfSome l.next (λ s. s.0 ≡ l.fn.scope.0);
  left : (is_seen : ℕ → Bool) (filter : ResolveNameFilter)
      → find (holds_first l.fn.scope.0 is_seen filter l.name) (texts_left l.next)
      ≡ find (holds_first l.fn.scope.0 is_seen filter l.name) (outer l.fn.scope.1);
}

abbrev pub decreases-loop-next : goal.decreases-loop-next
decreases-loop-next l = steps_left l.next
