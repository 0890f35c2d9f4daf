use Rattle.std.proofs.Common.{ap, sym, ◌∙◌, ◌∷◌, arith}
use Rattle.std.proofs.lemmas.Result.{err_from_is_err_and}
use Rattle.wire_format.specs.Fields.{fields_within, tokens}
use Rattle.wire_format.proofs.Steps.{begins, level, no_level, group-ends, other-ends, goes_on, breaks, unfinished}
use Rattle.wire_format.proofs.groups.+after_group.Goals as goal

pub returns-in_err-field-clause-on : goal.returns-in_err-field-clause-on
returns-in_err-field-clause-on t c =
    let p = err_from_is_err_and c.from_residual.result c.from_residual.ensures.1 in
    λ outer. rw (p.1, p.2) (c.loop-field.invariant.same outer ∙ breaks _ _ _ _ _ c.in_err-field.ensures.first)

pub returns-in_err-left-in-Group-clause-on : goal.returns-in_err-left-in-Group-clause-on
returns-in_err-left-in-Group-clause-on t c =
    let first = rw c.in-Some.is at c.in_ok-field.ensures.first in
    let call = c.from_residual-in_err-left-in-Group in
    let p = err_from_is_err_and call.result call.ensures.1 in
    let none = c.in_err-left-in-Group.ensures in
    λ outer. rw (p.1, p.2, none.1) (c.loop-field.invariant.same outer ∙ begins _ _ _ _ _ _ _ _ c.in-Group.is first ∙ no_level _ _ _ none.0)

pub returns-in_err-rest-in-Group-clause-on : goal.returns-in_err-rest-in-Group-clause-on
returns-in_err-rest-in-Group-clause-on t c =
    let first = rw c.in-Some.is at c.in_ok-field.ensures.first in
    let call = c.from_residual-in_err-rest-in-Group in
    let p = err_from_is_err_and call.result call.ensures.1 in
    λ outer. rw (p.1, p.2) (c.loop-field.invariant.same outer ∙ begins _ _ _ _ _ _ _ _ c.in-Group.is first ∙ level _ _ _ _ c.in_ok-left-in-Group.ensures ∙ c.in_err-rest-in-Group.ensures.on (c.args.number ∷ outer))

pub loop-field-preserved-in-Group : goal.loop-field-preserved-in-Group
loop-field-preserved-in-Group t c =
    let first = rw c.in-Some.is at c.in_ok-field.ensures.first in
    let shorter = rw c.in-Some.is at c.in_ok-field.ensures.shorter in
    let left = c.in_ok-left-in-Group.ensures in
    let rest = c.in_ok-rest-in-Group in
    record {
      same = λ outer. c.loop-field.invariant.same outer ∙ begins _ _ _ _ _ _ _ _ c.in-Group.is first ∙ level _ _ _ _ left ∙ rest.ensures.on (c.args.number ∷ outer)
          ∙ ap (λ levels. fields_within levels c.args.ends (c.args.number ∷ outer) (tokens c.args.ends rest.rest.now)) (sym left);
      shorter = omega (arith, shorter, rest.ensures.shorter, c.loop-field.invariant.shorter);
    }

pub returns-then-field-number-clause-on : goal.returns-then-field-number-clause-on
returns-then-field-number-clause-on t c =
    let first = rw c.in-Some.is at c.in_ok-field.ensures.first in
    λ outer. c.loop-field.invariant.same outer ∙ other-ends _ _ _ _ _ _ _ _ _ c.in-EndGroup.is c.if-field-number.true first

pub returns-in-EndGroup-clause-on : goal.returns-in-EndGroup-clause-on
returns-in-EndGroup-clause-on t c =
    let first = rw c.in-Some.is at c.in_ok-field.ensures.first in
    λ outer. c.loop-field.invariant.same outer ∙ group-ends _ _ _ _ _ _ _ _ _ c.in-EndGroup.is c.if-field-number.false first

pub loop-field-preserved : goal.loop-field-preserved
loop-field-preserved t c =
    let first = rw c.in-Some.is at c.in_ok-field.ensures.first in
    let shorter = rw c.in-Some.is at c.in_ok-field.ensures.shorter in
    record {
      same = λ outer. c.loop-field.invariant.same outer ∙ goes_on _ _ _ _ _ _ _ _ (record { no_group = c.in_default-value.not-Group; no_end = c.in_default-value.not-EndGroup }) first;
      shorter = omega (arith, shorter, c.loop-field.invariant.shorter);
    }

pub returns-clause-on : goal.returns-clause-on
returns-clause-on t c =
    let first = rw c.in_default.is at c.in_ok-field.ensures.first in
    λ outer. c.loop-field.invariant.same outer ∙ unfinished _ _ _ _ _ first
