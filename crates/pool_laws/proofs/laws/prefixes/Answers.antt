use Rattle.pool_laws.proofs.Entered.{prefixes_entered}
use Rattle.pool_laws.proofs.laws.prefixes.Goals as goal

pub returns : goal.returns
returns c = prefixes_entered c.args.file.now
