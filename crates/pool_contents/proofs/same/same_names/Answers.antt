use Rattle.std.proofs.lemmas.Bool.Decides.{same_from_decides}
use Rattle.pool_contents.specs.Same.{names-exact}
use Rattle.pool_contents.proofs.same.same_names.Goals as goal

pub returns : goal.returns
returns c = same_from_decides c.same.result _ c.same.ensures (names-exact c.args.names.now c.args.others.now)
