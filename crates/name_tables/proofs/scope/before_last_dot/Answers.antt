use Rattle.std.proofs.Common.{inl, inr, refl}
use Rattle.name_tables.proofs.NameParts.{around-split, part-undotted}
use Rattle.name_tables.proofs.scope.before_last_dot.Goals as goal

pub returns-in-Some : goal.returns-in-Some
returns-in-Some c =
    let split = around-split c.args.text.now c.in-Some.outer.now c.in-Some.field-0-1.now c.in-Some.ensures.cases in
    inl (c.in-Some.field-0-1.now, split.0, split.1)

pub returns-in-None : goal.returns-in-None
returns-in-None c = inr (refl, part-undotted c.args.text.now c.in-None.ensures.cases)
