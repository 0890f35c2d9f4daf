use Rattle.std.proofs.Common.{◌≡◌, ◌++◌, string_bytes, take}
use Rattle.std.specs.List.{flat_map}
use Rattle.pool_descriptions.specs.Items.{method_line}
use Rattle.pool_descriptions.proofs.service.write_methods.Given as goal

-- the methods so far are told
abbrev pub invariant-loop-method : goal.invariant-loop-method
invariant-loop-method l =
    string_bytes l.text ≡ string_bytes l.initial.text ++ flat_map (method_line l.pool) (take l.method-index l.methods)
