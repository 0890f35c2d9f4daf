use Rattle.std.proofs.Common.{[], ap, sym, ◌∙◌, arith}
use Rattle.std.proofs.lemmas.Result.{err_from_is_err_and}
use Rattle.wire_format.specs.Fields.{fields}
use Rattle.wire_format.proofs.Steps.{begins, level, no_level, breaks, first-none, first-end, first-plain}
use Rattle.wire_format.proofs.fields.field_of_tokens.Goals as goal

pub returns-in_err-field-clause-first : goal.returns-in_err-field-clause-first
returns-in_err-field-clause-first c =
    let p = err_from_is_err_and c.from_residual.result c.from_residual.ensures.1 in
    rw (p.1, p.2) (c.loop-field.invariant.same ∙ breaks _ _ _ _ _ c.in_err-field.ensures.first)

pub returns-in_err-left-in-Group-clause-first : goal.returns-in_err-left-in-Group-clause-first
returns-in_err-left-in-Group-clause-first c =
    let first = rw c.in-Some.is at c.in_ok-field.ensures.first in
    let call = c.from_residual-in_err-left-in-Group in
    let p = err_from_is_err_and call.result call.ensures.1 in
    let none = c.in_err-left-in-Group.ensures in
    rw (p.1, p.2, none.1) (c.loop-field.invariant.same ∙ begins _ _ _ _ _ _ _ _ c.in-Group.is first ∙ no_level _ _ _ none.0)

pub returns-in_err-rest-in-Group-clause-first : goal.returns-in_err-rest-in-Group-clause-first
returns-in_err-rest-in-Group-clause-first c =
    let first = rw c.in-Some.is at c.in_ok-field.ensures.first in
    let call = c.from_residual-in_err-rest-in-Group in
    let p = err_from_is_err_and call.result call.ensures.1 in
    rw (p.1, p.2) (c.loop-field.invariant.same ∙ begins _ _ _ _ _ _ _ _ c.in-Group.is first ∙ level _ _ _ _ c.in_ok-left-in-Group.ensures ∙ c.in_err-rest-in-Group.ensures.on [])

pub loop-field-preserved : goal.loop-field-preserved
loop-field-preserved c =
    let first = rw c.in-Some.is at c.in_ok-field.ensures.first in
    let shorter = rw c.in-Some.is at c.in_ok-field.ensures.shorter in
    let left = c.in_ok-left-in-Group.ensures in
    let rest = c.in_ok-rest-in-Group in
    record {
      same = c.loop-field.invariant.same ∙ begins _ _ _ _ _ _ _ _ c.in-Group.is first ∙ level _ _ _ _ left ∙ rest.ensures.on []
          ∙ ap (λ levels. fields levels c.args.ends rest.rest.now) (sym left);
      shorter = omega (arith, shorter, rest.ensures.shorter, c.loop-field.invariant.shorter);
    }

pub returns-in-EndGroup-clause-first : goal.returns-in-EndGroup-clause-first
returns-in-EndGroup-clause-first c =
    let first = rw c.in-Some.is at c.in_ok-field.ensures.first in
    c.loop-field.invariant.same ∙ first-end _ _ _ _ _ _ _ c.in-EndGroup.is first

pub returns-in_default-value : goal.returns-in_default-value
returns-in_default-value c =
    let first = rw c.in-Some.is at c.in_ok-field.ensures.first in
    let shorter = rw c.in-Some.is at c.in_ok-field.ensures.shorter in
    record {
      first = c.loop-field.invariant.same ∙ first-plain _ _ _ _ _ _ (record { no_group = c.in_default-value.not-Group; no_end = c.in_default-value.not-EndGroup }) first;
      shorter = omega (arith, shorter, c.loop-field.invariant.shorter);
    }

pub returns-clause-first : goal.returns-clause-first
returns-clause-first c =
    let first = rw c.in_default.is at c.in_ok-field.ensures.first in
    c.loop-field.invariant.same ∙ first-none _ _ _ first
