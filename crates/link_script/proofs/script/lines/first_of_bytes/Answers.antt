use Rattle.std.proofs.Common.{sym}
use Rattle.link_script.proofs.Words.{some-length}
use Rattle.link_script.proofs.FirstLines.{ended-within, whole}
use Rattle.link_script.proofs.script.lines.first_of_bytes.Goals as goal

pub returns-in-Some : goal.returns-in-Some
returns-in-Some c =
    ended-within c.args.bytes.now c.in-Some.end c.line_of_bytes.result (sym c.in-Some.ensures) c.line_of_bytes.ensures.bytes c.line_of_bytes.ensures.rest c.line_of_bytes.ensures.text

pub returns-in-None : goal.returns-in-None
returns-in-None c =
    whole c.args.bytes.now c.line_of_bytes-in-None.result (some-length _ _ c.is_empty.ensures c.if-is_empty.false) (sym c.in-None.ensures) c.line_of_bytes-in-None.ensures.bytes c.line_of_bytes-in-None.ensures.rest
    c.line_of_bytes-in-None.ensures.text
