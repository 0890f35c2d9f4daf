use Rattle.std.proofs.Common.{◌≡◌, Some, None, eqb, ap, sym, ◌∙◌, arith}
use Rattle.std.specs.List.{position}
use Rattle.link_script.proofs.Words.{byte-there, not-cut}
use Rattle.link_script.proofs.script.cuts.cut_at.Goals as goal

pub returns-in_err-place : goal.returns-in_err-place
returns-in_err-place c =
    let nowhere : position (λ d. eqb d c.args.character) c.args.text.now ≡ None = ap (position (λ d. eqb d c.args.character)) (sym c.as_bytes.ensures.value) ∙ sym c.in_err-place.ensures in
    not-cut c.args.character c.args.text.now _ c.from_residual.ensures nowhere

pub parted-requires-clause-ascii : goal.parted-requires-clause-ascii
parted-requires-clause-ascii c =
    let placed : position (λ d. eqb d c.args.character) c.args.text.now ≡ Some c.in_ok-place.place = ap (position (λ d. eqb d c.args.character)) (sym c.as_bytes.ensures.value) ∙ sym c.in_ok-place.ensures in
    let there = byte-there c.args.character c.args.text.now c.in_ok-place.place placed in
    omega (arith, there.1, c.requires)
