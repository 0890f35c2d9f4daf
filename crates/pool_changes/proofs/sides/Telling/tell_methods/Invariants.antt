use Rattle.std.proofs.Common.{◌≡◌, ◌++◌, take, flat_map}
use Rattle.pool_changes.specs.Services.{method_changes, method_in}
use Rattle.pool_changes.specs.Sides.{versions}
use Rattle.pool_changes.proofs.sides.Telling.tell_methods.Given as goal

-- the methods so far are told
abbrev pub invariant-loop-method : goal.invariant-loop-method
invariant-loop-method l = l.told ≡ l.initial.told ++ flat_map (λ m. method_changes (versions l.self) l.kept m (method_in l.kept m.id.full_name)) (take l.method-index l.service.methods)
