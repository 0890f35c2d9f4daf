use Rattle.std.proofs.Common.{◌<◌, ◌^◌, length, rules}
use Rattle.stored_pools.proofs.Again.{stored-again}
use Rattle.stored_pools.proofs.storing.load.Goals as goal

-- a slice is short enough
pub returns-clause-again : goal.returns-clause-again
returns-clause-again c =
    let short : length c.args.bytes.now < 2 ^ 64 = search rules in
    stored-again c.args.bytes.now c.link_decoded.result c.written_is_read.ensures.set short c.link_decoded.ensures
