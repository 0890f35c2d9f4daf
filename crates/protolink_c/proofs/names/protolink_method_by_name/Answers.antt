use Rattle.std.proofs.Common.{ap, sym, ◌∙◌}
use Rattle.numbered_pool.specs.Items as spec
use Rattle.protolink_c.specs.Told.{written}
use Rattle.protolink_c.proofs.names.protolink_method_by_name.Goals.{in-Ok, in-Err}
use Rattle.protolink_c.proofs.names.protolink_method_by_name.Goals as goal

-- by how the look-up ended
pub returns-clause-text : goal.returns-clause-text
returns-clause-text c = λ is-text not-refused.
    let looked = c.method_named.ensures.text is-text in
    elim c.match-method_named.branch [
      | in-Ok w ↦
          let named = rw w.in-Ok.is at looked in
          let of-view = c.answers.ensures ∙ c.lend-lent.ensures.answers in
          ap (λ found. written found c.args.position.now)
          (sym (named ∙ ap (λ answers. spec.method_named answers.pool c.args.service c.args.name.now) of-view))
          ∙ w.write-status.ensures ∙ sym (λ i. (w.position-is i, w.status-is i))
      | in-Err w ↦ absurd (not-refused w.status-is)
    ]
