use Rattle.std.proofs.lemmas.Bool.Decides.{same_from_decides}
use Rattle.pool_contents.specs.Same.{file_names-exact}
use Rattle.pool_contents.proofs.same.same_file_names.Goals as goal

pub returns : goal.returns
returns c = same_from_decides c.same.result _ c.same.ensures (file_names-exact c.args.names.now c.args.others.now)
