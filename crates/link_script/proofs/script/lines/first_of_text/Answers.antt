use Rattle.std.proofs.Common.{◌≡◌, ◌∙◌, Some, None, ap, sym, arith}
use Rattle.std.specs.List.{position}
use Rattle.link_script.proofs.Words.{is_feed, byte-there, some-length}
use Rattle.link_script.proofs.FirstLines.{ended, whole}
use Rattle.link_script.proofs.script.lines.first_of_text.Goals as goal

pub parted-requires-clause-ascii : goal.parted-requires-clause-ascii
parted-requires-clause-ascii c =
    let placed : position is_feed c.args.text.now ≡ Some c.in-Some.end = ap (position is_feed) (sym c.as_bytes.ensures.value) ∙ sym c.in-Some.ensures in
    let there = byte-there 10 c.args.text.now c.in-Some.end placed in
    omega (arith, there.1)

pub returns-in-Some : goal.returns-in-Some
returns-in-Some c =
    let placed : position is_feed c.args.text.now ≡ Some c.in-Some.end = ap (position is_feed) (sym c.as_bytes.ensures.value) ∙ sym c.in-Some.ensures in
    ended c.args.text.now c.in-Some.end c.line_of_text.result placed (c.line_of_text.ensures.bytes ∙ c.parted.ensures.0) (c.line_of_text.ensures.rest ∙ c.parted.ensures.1) c.line_of_text.ensures.text

pub returns-in-None : goal.returns-in-None
returns-in-None c =
    let nowhere : position is_feed c.args.text.now ≡ None = ap (position is_feed) (sym c.as_bytes.ensures.value) ∙ sym c.in-None.ensures in
    whole c.args.text.now c.line_of_text-in-None.result (some-length _ _ c.is_empty.ensures c.if-is_empty.false) nowhere c.line_of_text-in-None.ensures.bytes c.line_of_text-in-None.ensures.rest c.line_of_text-in-None.ensures.text
