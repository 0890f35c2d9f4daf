use Rattle.std.proofs.Common.{List, Err, Some, subst, sym}
use Rattle.pool_types.specs.Contents.{Contents, no_contents}
use Rattle.proto_types.specs.declared.file.FileDescriptorProto.{FileDescriptorProto}
use Rattle.descriptor_pool.specs.GivenBack.{GivesBack}
use Rattle.descriptor_pool.specs.Outcome.{IsLinked}
use Rattle.descriptor_pool.specs.Within.{OutcomeWithin}
use Rattle.descriptor_pool.specs.Pool.{new_files}
use Rattle.descriptor_check.proofs.Linked.{accepted_is, told_is}
use Rattle.verdict_texts.proofs.Results.{if-ok}
use Rattle.descriptor_check.proofs.verdicts.verdict_on.Goals as goal

-- the batch is linked
pub returns-in-Ok : goal.returns-in-Ok
returns-in-Ok c =
    let batch = c.args.batch in
    let new = c.link_within.new.self in
    let linked : IsLinked c.new-pool.result c.into_vec-files.result.items new = c.in-Ok.ensures.outcome in
    accepted_is c.args.most batch new
    (subst (λ p. IsLinked p batch new) c.new-pool.ensures (subst (λ fs. IsLinked c.new-pool.result fs new) c.into_vec-files.ensures linked))

-- it is not, and its files came back where it breaks rules
pub returns-in-Err : goal.returns-in-Err
returns-in-Err c =
    let batch = c.args.batch in
    let new = c.link_within.new.self in
    let most = c.args.most in
    let back = c.from_vec.result in
    let error = c.in-Err.error in
    let Ends : Contents → List FileDescriptorProto → Type 0 = λ p fs. OutcomeWithin {U = Unit {0}} (Some most) p fs (Err error) new in
    let Gives : Contents → List FileDescriptorProto → List FileDescriptorProto → Type 0 = λ p fs came. GivesBack {U = Unit {0}} (Err error) (new_files p fs) came in
    let ends : Ends no_contents batch = subst (λ p. Ends p batch) c.new-pool.ensures (subst (Ends c.new-pool.result) c.into_vec-files.ensures c.in-Err.ensures.outcome) in
    let gives : Gives no_contents batch back =
    subst (Gives no_contents batch) (sym c.from_vec.ensures)
    (subst (λ p. Gives p batch c.link_within.new.files.items) c.new-pool.ensures
    (subst (λ fs. Gives c.new-pool.result fs c.link_within.new.files.items) c.into_vec-files.ensures c.in-Err.ensures.back)) in
    if-ok c.by_error.result (λ verdict told. told_is most batch back error new verdict ends gives told) c.by_error.ensures
