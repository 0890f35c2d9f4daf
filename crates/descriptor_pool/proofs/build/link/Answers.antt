use Rattle.std.proofs.Common.{◌≡◌, rules, true, Result, Ok, Err, OnOk, ap, subst, sym, ◌∙◌}
use Rattle.std.specs.Result.{is_err}
use Rattle.record_walk.proofs.Listings.{after-ok, on-ok}
use Rattle.reference_pass.specs.NamesBegin.{AllNamesBegin}
use Rattle.pool_contents.specs.declared.growing.GrowingPool.{GrowingPool}
use Rattle.pool_contents.specs.declared.inner.DescriptorPoolInner.{DescriptorPoolInner}
use Rattle.descriptor_pool.specs.Build.{batch_faults, with_batch}
use Rattle.pool_contents.specs.Inner.{contents_in}
use Rattle.descriptor_pool.specs.Error.{TellsAll}
use Rattle.descriptor_pool.proofs.Passed.{after-err}
use Rattle.descriptor_pool.proofs.build.link.Goals as goal
use Rattle.descriptor_pool.proofs.build.link.Goals.{then-is_err, else-is_err}

pub returns-clause-faults : goal.returns-clause-faults
returns-clause-faults c =
    let Tells : DescriptorPoolInner → Type 0 = λ q. TellsAll c.args.terms.most c.link_new-linked.result (batch_faults (contents_in q) c.args.new.now) in
    subst Tells (c.new-growing.ensures.inner ∙ c.replace-before.ensures.value) c.link_new-linked.ensures.faults

pub returns-clause-names : goal.returns-clause-names
returns-clause-names c =
    let linked = c.link_new-linked in
    elim c.if-is_err.branch [
      | then-is_err w ↦
          let same = ap (λ (g : GrowingPool). contents_in g.inner) w.growing-is ∙ w.take_back.ensures.pool ∙ after-err linked.result w.if-is_err.ensures.value linked.ensures.kept
          ∙ c.new-growing.ensures.kept ∙ ap contents_in c.replace-before.ensures.value in
          subst AllNamesBegin (sym same) c.requires.names
      | else-is_err w ↦
          let Begin : GrowingPool → Type 0 = λ g. AllNamesBegin (contents_in g.inner) in
          subst Begin (sym w.growing-is) (after-ok linked.result w.if-is_err.ensures.value linked.ensures.names)
    ]

no-ok : {U E : Type 0} (r : Result U E) (P : Type 0) → true ≡ is_err r → OnOk r P
no-ok (Ok u) P failed = absurd (search rules)
no-ok (Err e) P failed = tt

pub returns-clause-ok : goal.returns-clause-ok
returns-clause-ok c =
    let linked = c.link_new-linked in
    let start = ap contents_in (c.new-growing.ensures.inner ∙ c.replace-before.ensures.value) in
    elim c.if-is_err.branch [
      | then-is_err w ↦ no-ok linked.result _ w.if-is_err.ensures.value
      | else-is_err w ↦
          let same = ap (λ (g : GrowingPool). contents_in g.inner) w.growing-is in
          on-ok linked.result (λ is. same ∙ is ∙ ap (λ p. with_batch p c.args.new.now) start) linked.ensures.ok
    ]
