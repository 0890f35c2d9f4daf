use Rattle.std.proofs.Common.{◌≡◌, OnOk, subst}
use Rattle.descriptor_encoding.proofs.Varints.{both-last}
use Rattle.descriptor_encoding.proofs.wire.put_head.Goals as goal

pub returns-then-number-lt128 : goal.returns-then-number-lt128
returns-then-number-lt128 c =
    subst (λ f. OnOk c.put_two.result (c.put_two.new.self ≡ f)) (both-last c.args.out.now c.args.tag c.args.number c.if-tag-lt128.true c.if-number-lt128.true) c.put_two.ensures
