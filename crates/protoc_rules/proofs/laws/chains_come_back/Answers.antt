use Rattle.protoc_rules.proofs.Chains.{chains-come-back}
use Rattle.protoc_rules.proofs.laws.chains_come_back.Goals as goal

pub returns : goal.returns
returns c = chains-come-back
