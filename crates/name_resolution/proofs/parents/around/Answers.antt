use Rattle.name_resolution.proofs.Fronts.{outer-split, outer-undotted, none-found}
use Rattle.name_resolution.proofs.parents.around.Goals as goal

pub returns-in-Some : goal.returns-in-Some
returns-in-Some c = outer-split c.args.scope.now c.in-Some.parent.now c.in-Some.field-0-1.now c.in-Some.ensures.cases

pub returns-in-None : goal.returns-in-None
returns-in-None c = outer-undotted c.args.scope.now (none-found c.args.scope.now c.in-None.ensures.cases)
