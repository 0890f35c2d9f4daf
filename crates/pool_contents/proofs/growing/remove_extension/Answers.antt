use Rattle.std.proofs.Common.{ap}
use Rattle.pool_types.specs.declared.contents.message.MessageDescriptorInner.{MessageDescriptorInner}
use Rattle.pool_contents.proofs.Extending.{message-back}
use Rattle.pool_contents.proofs.growing.remove_extension.Goals as goal

-- the list and the map of numbers are as they were
pub returns : goal.returns
returns c =
    let old = c.args.message.now in
    λ was before is. message-back old was (c.args.index, c.args.extension.now) c.pop.result c.pop.new.self c.remove_number.new.numbers
    c.pop.ensures (c.remove_number.ensures was.extension_numbers before (ap (λ (m : MessageDescriptorInner). m.extension_numbers) is)) is
