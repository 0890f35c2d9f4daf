use Rattle.std.proofs.Common.{◌≡◌, ◌+◌, ◌∷◌, ◌-◌, suc, drop, take, ap, sym, ◌∙◌, arith}
use Rattle.std.specs.List.{position}
use Rattle.std.proofs.lemmas.Str.{IsCharBoundary-before_ascii, IsCharBoundary-after_ascii}
use Rattle.name_tables.specs.Parts.{parts}
use Rattle.name_tables.proofs.NameParts.{is_dot, dot-there, parts-first, parts-one}
use Rattle.name_tables.proofs.parts.first_and_rest.Goals as goal

pub range-requires-clause-end_boundary : goal.range-requires-clause-end_boundary
range-requires-clause-end_boundary c =
    let at = dot-there c.args.name.now c.in-Some.dot (ap (position is_dot) (sym c.as_bytes.ensures.value) ∙ sym c.in-Some.ensures) in
    IsCharBoundary-before_ascii c.args.name.now c.in-Some.dot at.0 at.1

pub range_from-requires : goal.range_from-requires
range_from-requires c more =
    let at = dot-there c.args.name.now c.in-Some.dot (ap (position is_dot) (sym c.as_bytes.ensures.value) ∙ sym c.in-Some.ensures) in
    IsCharBoundary-after_ascii c.args.name.now c.in-Some.dot c.utf8.name at.0 at.1

pub returns-in-Some : goal.returns-in-Some
returns-in-Some c =
    let name = c.args.name.now in
    let dot = c.in-Some.dot in
    let whole : dot - 0 ≡ dot = omega arith in
    let one : suc dot ≡ dot + 1 = omega arith in
    parts-first name dot (ap (position is_dot) (sym c.as_bytes.ensures.value) ∙ sym c.in-Some.ensures)
    ∙ (λ i. (ap (λ n. take n name) (sym whole) ∙ sym c.range.ensures.value) i ∷ parts ((ap (λ n. drop n name) one ∙ sym c.range_from.ensures.value) i))

pub returns-in-None : goal.returns-in-None
returns-in-None c = parts-one c.args.name.now (ap (position is_dot) (sym c.as_bytes.ensures.value) ∙ sym c.in-None.ensures)
