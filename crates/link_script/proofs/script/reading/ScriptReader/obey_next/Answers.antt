use Rattle.std.proofs.Common.{◌+◌, ◌<◌, length, true, Ok, subst, ◌∙◌, arith}
use Rattle.link_script.specs.Script.Words.{lines}
use Rattle.link_script.specs.Script.Reading.{said_from}
use Rattle.link_script.specs.Script.Answers.{bytes_left, standing_in}
use Rattle.link_script.specs.Script.Obeying.{IsNextObeyed}
use Rattle.link_script.proofs.Obeying.{line-done, line-passed}
use Rattle.link_script.proofs.script.reading.ScriptReader.obey_next.Goals as goal

pub returns-then-obeyed : goal.returns-then-obeyed
returns-then-obeyed g c =
    let before = c.loop-line.self-inside in
    subst (λ old. IsNextObeyed g.O.Obeys.obeys c.args.self.now old (Ok true) (said_from (before.number + 1) (standing_in c.obey_line.new.here) (lines (bytes_left c.in-Some.line.rest))) c.obey_line.new.to) c.loop-line.invariant.none
    (line-done g.O.Obeys.obeys before.number (standing_in before.here) (standing_in c.obey_line.new.here) (bytes_left before.left) c.in-Some.line.bytes.now (bytes_left c.in-Some.line.rest)
    c.args.self.now c.loop-line.to c.obey_line.new.to c.in-Ok.obeyed c.if-obeyed.true c.in-Some.ensures.0 c.loop-line.invariant.same c.in-Ok.ensures)

pub loop-line-preserved : goal.loop-line-preserved
loop-line-preserved g c =
    let before = c.loop-line.self-inside in
    let passed = line-passed g.O.Obeys.obeys before.number (standing_in before.here) (standing_in c.obey_line.new.here) (bytes_left before.left) c.in-Some.line.bytes.now (bytes_left c.in-Some.line.rest)
    c.loop-line.to c.obey_line.new.to c.in-Ok.obeyed c.if-obeyed.false c.in-Some.ensures.0 c.in-Ok.ensures in
    let shorter : length (bytes_left c.in-Some.line.rest) < length (bytes_left before.left) = c.in-Some.ensures.1 in
    record {
      counted = omega (arith, shorter, c.loop-line.invariant.counted);
      same = passed.0 ∙ c.loop-line.invariant.same;
      none = passed.1 ∙ c.loop-line.invariant.none;
    }
