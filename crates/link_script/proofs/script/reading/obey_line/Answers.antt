use Rattle.std.proofs.Common.{refl, subst}
use Rattle.link_script.specs.Script.Answers.{IsTextOf, standing_in}
use Rattle.link_script.specs.Script.Obeying.{IsLineObeyed}
use Rattle.link_script.proofs.Reading.{line_said-text, line_said-broken}
use Rattle.link_script.proofs.script.reading.obey_line.Goals as goal

pub returns-in-Some : goal.returns-in-Some
returns-in-Some g c =
    let here = standing_in c.args.here.now in
    let whole = subst (λ text. IsTextOf text c.args.line.bytes.now) c.in-Some.is c.requires in
    subst (λ said. IsLineObeyed g.O.Obeys.obeys said here c.args.to.now c.obey_text.result (standing_in c.obey_text.new.here) c.obey_text.new.to)
    (line_said-text here c.args.line.bytes.now c.in-Some.text.now whole) c.obey_text.ensures

pub returns-in-None : goal.returns-in-None
returns-in-None g c =
    let broken = subst (λ text. IsTextOf text c.args.line.bytes.now) c.in-None.is c.requires in
    (line_said-broken (standing_in c.args.here.now) c.args.line.bytes.now broken, (refl, refl))
