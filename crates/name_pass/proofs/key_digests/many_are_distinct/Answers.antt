use Rattle.std.proofs.Common.{map, nat_eq, subst, ap, ◌∙◌, arith}
use Rattle.std.proofs.lemmas.List.{take_all}
use Rattle.std.specs.List.{IsDistinct}
use Rattle.name_pass.specs.KeyDigests.{digest_at}
use Rattle.name_pass.proofs.key_digests.many_are_distinct.Goals as goal

-- the digests are those of all fields
pub returns : goal.returns
returns c = λ yes.
    let digests = c.loop-field.invariant ∙ ap (map digest_at) (take_all c.loop-field.field-index c.args.fields.now (omega (arith, c.loop-field-test.false))) in
    subst (IsDistinct nat_eq) (c.deref_mut.ensures.value ∙ digests) (c.are_distinct.ensures.distinct.0 yes)
