use Rattle.std.proofs.Common.{None, string_bytes, refl, sym, ap, ◌∙◌}
use Rattle.std.proofs.lemmas.List.{append-nil}
use Rattle.descriptor_linker.specs.Report.Session.{report}
use Rattle.descriptor_linker.proofs.Told.{reported, reported-end, has-fault, false-true}
use Rattle.descriptor_linker.proofs.report.report_of.Goals.{in-Ok, in-Err+in_ok-write_end-in-Err}
use Rattle.descriptor_linker.proofs.report.report_of.Goals as goal

pub returns-clause-text : goal.returns-clause-text
returns-clause-text c =
    let old = c.new-session.result in
    let new = c.obey-ended.new.to in
    elim c.match-ended.branch [
      | in-Ok w ↦
          ap string_bytes w.text-is ∙ sym (append-nil (string_bytes new.text))
          ∙ reported old new c.new.result None c.new-session.ensures w.in-Ok.ensures.0 w.in-Ok.ensures.1 ∙ ap report c.new.ensures
      | in-Err+in_ok-write_end-in-Err w ↦
          let failed = rw w.in-Err.is at c.obey-ended.ensures in
          ap string_bytes w.text-is
          ∙ reported-end old new c.new.result _ (string_bytes new.text) _ c.new-session.ensures failed refl w.in_ok-write_end-in-Err.ensures ∙ ap report c.new.ensures
    ]

pub returns-clause-fault : goal.returns-clause-fault
returns-clause-fault c =
    let old = c.new-session.result in
    let new = c.obey-ended.new.to in
    elim c.match-ended.branch [
      | in-Ok w ↦ (
        λ _. ap (λ s. s.fault) (sym c.new.ensures) ∙ w.in-Ok.ensures.1,
        λ t _. false-true (sym w.has_fault-is ∙ t),
      )
      | in-Err+in_ok-write_end-in-Err w ↦
          let failed = rw w.in-Err.is at c.obey-ended.ensures in (
            λ f. absurd (false-true (sym f ∙ w.has_fault-is)),
            λ _ none. has-fault old new c.new.result _ (string_bytes new.text) _ failed w.in_ok-write_end-in-Err.ensures (ap (λ s. s.fault) c.new.ensures ∙ none),
          )
    ]
