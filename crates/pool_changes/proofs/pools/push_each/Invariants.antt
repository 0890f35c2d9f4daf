use Rattle.std.proofs.Common.{◌≡◌, ◌++◌, take, map}
use Rattle.schema_changes.specs.Pools.{of_message}
use Rattle.pool_changes.proofs.pools.push_each.Given as goal

abbrev pub invariant-loop-change : goal.invariant-loop-change
invariant-loop-change l = l.changes.items ≡ l.initial.changes.items ++ map (of_message l.message) (take l.change-index l.told)
