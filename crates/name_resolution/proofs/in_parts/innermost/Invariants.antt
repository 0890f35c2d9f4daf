use Rattle.std.proofs.Common.{◌≡◌}
use Rattle.std.specs.BTreeSet.{contains_by}
use Rattle.std.specs.Option.{IfSome}
use Rattle.std.specs.Ordering.{nat_cmp}
use Rattle.name_resolution.specs.Parents.{outer}
use Rattle.name_resolution.specs.Resolution.{simple}
use Rattle.name_resolution.proofs.Outward.{answers, best_from}
use Rattle.name_resolution.proofs.Around.{texts_left, steps_left}
use Rattle.name_resolution.proofs.Innermost.{IsDefined, answer_of}
use Rattle.name_resolution.proofs.in_parts.innermost.Given as goal

-- the best of what was found so far and of what the scopes that are left answer is the best of all
abbrev pub invariant-loop-next : goal.invariant-loop-next
invariant-loop-next l = record {
  names : IfSome l.next (λ s. s.0 ≡ l.fn.scope.0);
  defined : IfSome l.best (IsDefined l.fn.scope.0 l.name);
  left : best_from (answer_of l.fn.scope.0 (λ n. contains_by (nat_cmp n) l.wanted.visible.now) l.wanted.filter l.name l.best)
      (answers l.fn.scope.0 (λ n. contains_by (nat_cmp n) l.wanted.visible.now) l.wanted.filter l.name (texts_left l.next))
      ≡ simple l.fn.scope.0 (λ n. contains_by (nat_cmp n) l.wanted.visible.now) l.wanted.filter (outer l.fn.scope.1) l.name;
}

abbrev pub decreases-loop-next : goal.decreases-loop-next
decreases-loop-next l = steps_left l.next
