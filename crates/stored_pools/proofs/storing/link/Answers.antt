use Rattle.std.proofs.Common.{subst}
use Rattle.descriptor_pool.specs.Outcome.{IsLinked}
use Rattle.stored_pools.proofs.Refused.{refused}
use Rattle.stored_pools.proofs.storing.link.Goals as goal

pub returns-in-Ok : goal.returns-in-Ok
returns-in-Ok c =
    let new = c.build_files.new.self in
    subst (λ p. IsLinked p c.args.set.file new) c.new-pool.ensures
    (subst (λ files. IsLinked c.new-pool.result files new) c.into_vec.ensures c.in-Ok.ensures.outcome)

pub returns-in-Err : goal.returns-in-Err
returns-in-Err c =
    refused (Unit {0}) c.new-pool.result c.into_vec.result.items c.args.set.file c.in-Err.error c.build_files.new.self
    c.new-pool.ensures c.into_vec.ensures c.in-Err.ensures.outcome
