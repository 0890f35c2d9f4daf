use Rattle.verdict_texts.proofs.Dots.{split-after, split-before, undotted-after, undotted-before}
use Rattle.verdict_texts.proofs.scopes.at_last_dot.Goals as goal

pub returns-in-Some-clause-front : goal.returns-in-Some-clause-front
returns-in-Some-clause-front c = split-before c.args.name.now c.in-Some.parts.0.now c.in-Some.parts.1.now c.in-Some.ensures.cases

pub returns-in-Some-clause-last : goal.returns-in-Some-clause-last
returns-in-Some-clause-last c = split-after c.args.name.now c.in-Some.parts.0.now c.in-Some.parts.1.now c.in-Some.ensures.cases

pub returns-in-None-clause-front : goal.returns-in-None-clause-front
returns-in-None-clause-front c = undotted-before c.args.name.now c.in-None.ensures.cases

pub returns-in-None-clause-last : goal.returns-in-None-clause-last
returns-in-None-clause-last c = undotted-after c.args.name.now c.in-None.ensures.cases
