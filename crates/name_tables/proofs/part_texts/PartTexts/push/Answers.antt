use Rattle.std.proofs.Common.{◌≡◌, ◌++◌, ◌∷◌, [], refl, length, ◌∙◌, arith, length-append}
use Rattle.std.proofs.lemmas.Result.{err_from_is_err_and}
use Rattle.name_tables.specs.PartTexts.{cut_from, RiseFrom}
use Rattle.name_tables.proofs.PartTexts.{cut-inserted, cut-more, rise-wider}
use Rattle.name_tables.proofs.part_texts.PartTexts.push.Goals as goal

pub invariant_of-self : goal.invariant_of-self
invariant_of-self c = rw c.in_err-extend_from_slice.ensures.items (rw c.deref.ensures.value at c.trim.ensures.rises)

pub returns-in_err-extend_from_slice-clause-err : goal.returns-in_err-extend_from_slice-clause-err
returns-in_err-extend_from_slice-clause-err c =
    let error = err_from_is_err_and c.from_residual.result c.from_residual.ensures.1 in
    rw (error.1, c.in_err-extend_from_slice.ensures.items) ((rw c.deref.ensures.value at c.trim.ensures.same) ∙ c.self.view_is)

pub invariant_of-self-in_err-push : goal.invariant_of-self-in_err-push
invariant_of-self-in_err-push c =
    rw (c.in_err-push.ensures.items, c.in_ok-extend_from_slice.ensures.items)
    (rise-wider 0 c.self.inside.ends.items (length c.trim.new.bytes.items) (length (c.trim.new.bytes.items ++ c.args.text.now))
    (rw c.deref.ensures.value at c.trim.ensures.rises) (omega (arith, length-append c.trim.new.bytes.items c.args.text.now)))

pub returns-in_err-push-clause-err : goal.returns-in_err-push-clause-err
returns-in_err-push-clause-err c =
    let error = err_from_is_err_and c.from_residual-in_err-push.result c.from_residual-in_err-push.ensures.1 in
    rw (error.1, c.in_err-push.ensures.items, c.in_ok-extend_from_slice.ensures.items)
    (cut-more 0 c.trim.new.bytes.items c.args.text.now c.self.inside.ends.items (rw c.deref.ensures.value at c.trim.ensures.rises)
    ∙ (rw c.deref.ensures.value at c.trim.ensures.same) ∙ c.self.view_is)

-- the text that comes
added : (c : goal.In_ok-push) → RiseFrom 0 c.push.new.self.items (length c.extend_from_slice.new.self.items) × (cut_from 0 c.extend_from_slice.new.self.items c.push.new.self.items ≡ cut_from 0 c.trim.new.bytes.items c.self.inside.ends.items ++ c.args.text.now ∷ [])
added c =
    cut-inserted c.trim.new.bytes.items c.self.inside.ends.items c.args.text.now c.extend_from_slice.new.self.items c.push.new.self.items c.len.result
    (rw c.deref.ensures.value at c.trim.ensures.len) (rw c.deref.ensures.value at c.trim.ensures.rises)
    c.in_ok-extend_from_slice.ensures.items (c.len.ensures ∙ c.extend_from_slice.new.self.ok.0) c.in_ok-push.ensures.items

pub invariant_of-self-2 : goal.invariant_of-self-2
invariant_of-self-2 c = (added c).0

pub returns-clause-ok : goal.returns-clause-ok
returns-clause-ok c =
    (added c).1 ∙ rw (← c.self.view_is, ← (rw c.deref.ensures.value at c.trim.ensures.same)) refl
