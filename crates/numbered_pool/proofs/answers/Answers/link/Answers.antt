use Rattle.std.proofs.Common.{rules, ◌≡◌, Some, IfOk, refl, ap, subst, ◌∙◌}
use Rattle.pool_types.specs.Contents.{files_of}
use Rattle.descriptor_pool.specs.Outcome.{IsLinked}
use Rattle.descriptor_pool.specs.Within.{IsRefusedWithin}
use Rattle.descriptor_pool.specs.Pool.{new_files}
use Rattle.numbered_pool.specs.Known.{added_by}
use Rattle.numbered_pool.specs.Reports.{refused_report}
use Rattle.numbered_pool.proofs.Told.{refused_told}
use Rattle.numbered_pool.proofs.answers.Answers.link.Goals as goal

-- the files are linked
pub returns-in-Ok : goal.returns-in-Ok
returns-in-Ok c =
    let old = c.args.self.now.pool in
    let new = c.link_within.new.self in
    let linked : IsLinked old c.into_vec-files.result.items new = search rules in
    record { linked = subst (λ files. IsLinked old files new) c.into_vec-files.ensures linked; limit = refl; counted = c.added_by-added.ensures ∙ ap (added_by old) c.as_slice.ensures; silent = c.requires.silent }

-- the files break rules, and the new ones came back
pub returns-in-Err-Descriptor : goal.returns-in-Err-Descriptor
returns-in-Err-Descriptor c =
    let old = c.args.self.now in
    let batch = c.into_vec-files.result.items in
    let middle = c.link_within.new.self in
    let back = c.link_within.new.files.items in
    let error = c.in-Err-Descriptor.error in
    let report = c.refused_report-report.result in
    let new = c.tell-in-Err-Descriptor.new.self in
    let result = c.tell-in-Err-Descriptor.result in
    let refused : IsRefusedWithin (Some old.max_faults) old.pool batch error middle = search rules in
    let given : back ≡ new_files old.pool batch = search rules in
    let made : IfOk report (λ r. r ≡ refused_report (files_of middle) back error.errors error.rest old.max_faults) = search rules in
    refused_told old c.args.batch error middle back report new result
    (subst (λ files. IsRefusedWithin (Some old.max_faults) old.pool files error middle) c.into_vec-files.ensures refused)
    (subst (λ files. back ≡ new_files old.pool files) c.into_vec-files.ensures given) made
    c.tell-in-Err-Descriptor.ensures.pool c.tell-in-Err-Descriptor.ensures.max_faults
    (c.tell-in-Err-Descriptor.ensures.added ∙ c.requires.uncounted) c.tell-in-Err-Descriptor.ensures.told
