use Rattle.check_laws.proofs.Accepted.{checked-loaded}
use Rattle.check_laws.proofs.laws.checked_is_loaded.Goals as goal

pub returns : goal.returns
returns c =
    checked-loaded c.read_is_whole.ensures.set c.linked_is_loaded.ensures c.args.wanted.now c.args.inputs.now c.args.answer.now c.bytes_are_fewer.ensures
