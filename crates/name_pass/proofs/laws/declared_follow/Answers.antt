use Rattle.name_pass.proofs.Following.{declarations-follow}
use Rattle.name_pass.proofs.laws.declared_follow.Goals as goal

pub returns : goal.returns
returns c scopes = declarations-follow scopes c.args.base c.args.files.now
