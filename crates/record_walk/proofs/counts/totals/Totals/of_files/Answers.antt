use Rattle.std.proofs.Common.{rules, ◌≡◌, Some, None, ap, sym, ◌∙◌}
use Rattle.std.proofs.lemmas.List.{take_all}
use Rattle.record_walk.specs.Counts.{no_counts}
use Rattle.record_walk.specs.Totals.{both_sums}
use Rattle.record_walk.proofs.Tallies.{file_tally, files_tally, file-tally, declarations-tally}
use Rattle.record_walk.proofs.Saturated.{in_64, saturated-next, saturated-none}
use Rattle.record_walk.proofs.counts.totals.Totals.of_files.Goals as goal

pub returns-in_err-of_file : goal.returns-in_err-of_file
returns-in_err-of_file c =
    let f = c.file-item.result in
    let none : in_64 (file_tally f) ≡ None = sym (ap in_64 (file-tally no_counts f)) ∙ search rules in
    let left : c.from_residual.result ≡ None = search rules in
    left ∙ sym (ap in_64 (declarations-tally no_counts c.args.files.now)
    ∙ saturated-none file_tally c.args.files.now c.loop-file.file-index f c.loop-file-test.true c.file-item.is none)

pub loop-file-preserved : goal.loop-file-preserved
loop-file-preserved c =
    let f = c.file-item.result in
    let more : in_64 (file_tally f) ≡ Some c.in_ok-of_file.field-0 = sym (ap in_64 (file-tally no_counts f)) ∙ search rules in
    saturated-next file_tally c.args.files.now c.loop-file.file-index f c.loop-file-test.true c.file-item.is
    ∙ (λ i. both_sums (c.loop-file.invariant i) (more i))
    ∙ ap Some (sym c.plus-sum.ensures)

pub returns : goal.returns
returns c =
    sym (ap in_64 (declarations-tally no_counts c.args.files.now)
    ∙ ap (λ fs. in_64 (files_tally fs)) (sym (take_all c.loop-file.file-index c.args.files.now c.loop-file-test.false))
    ∙ c.loop-file.invariant)
