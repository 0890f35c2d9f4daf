use Rattle.std.proofs.Common.{◌+◌, ◌-◌, ◌*◌}
use Rattle.name_tables.proofs.within.+counterpart.Given as goal

-- the branch, and then how far it is behind the pair
abbrev pub decreases-counterpart : goal.decreases-counterpart
decreases-counterpart l = (l.at + 1) * (l.at + 1) - l.pair.branch
