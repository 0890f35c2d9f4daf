use Rattle.std.proofs.Common.{◌≡◌, IfOk, ap, subst, ◌∙◌}
use Rattle.descriptor_encoding.specs.Fronts.{in_front}
use Rattle.descriptor_encoding.proofs.Held.{all_put}
use Rattle.descriptor_encoding.proofs.linked.encode_linked.Goals as goal

pub returns : goal.returns
returns c =
    subst (λ bs. IfOk c.into_vec.result (λ v. v.items ≡ bs)) (all_put c.args.files.now _ (c.in_ok-put_each.ensures ∙ ap (in_front _) c.new-out.ensures)) c.into_vec.ensures
