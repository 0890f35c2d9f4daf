use Rattle.std.proofs.Common.{◌≡◌}
use Rattle.name_tables.specs.Nodes.{digest_along, digest_of}
use Rattle.name_tables.proofs.tree.digest_of.Given as goal

-- the parts that are left make the digest of the whole
abbrev pub invariant-loop-part : goal.invariant-loop-part
invariant-loop-part l =
    goal.iterator-loop-part.can_next l.part-iterator
    × goal.iterator-loop-part.is_finite l.part-iterator
    × (digest_along l.digest l.part-iterator ≡ digest_of l.name)
