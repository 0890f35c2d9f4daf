use Rattle.std.proofs.Common.{sym}
use Rattle.record_walk.specs.Faults.{named_files}
use Rattle.record_walk.proofs.Tells.{tells-as, tells-none}
use Rattle.name_pass.proofs.Distinct.{few}
use Rattle.name_pass.proofs.camel_case.check_fields.Goals as goal
use Rattle.name_pass.proofs.camel_case.check_fields.Goals.{then-fields-lt2-via-then-fields-lt2, then-fields-lt2-via-else-fields-lt2+in_ok-have_distinct_digests+then-branch}

-- fewer than two fields have no fault, and neither have those whose keys have other digests
pub returns-then-fields-lt2-clause-told : goal.returns-then-fields-lt2-clause-told
returns-then-fields-lt2-clause-told c =
    let files = named_files c.args.faults.now in
    elim c.then-fields-lt2.branch [
      | then-fields-lt2-via-then-fields-lt2 w ↦
          tells-as (sym (few c.args.fields.now w.if-fields-lt2.true files c.args.file c.args.path.now)) (tells-none c.args.faults.now)
      | then-fields-lt2-via-else-fields-lt2+in_ok-have_distinct_digests+then-branch w ↦
          tells-as (sym (w.in_ok-have_distinct_digests.ensures w.if-branch.true files c.args.file c.args.path.now)) (tells-none c.args.faults.now)
    ]

pub returns-clause-told : goal.returns-clause-told
returns-clause-told c = c.check_keys.ensures.told
