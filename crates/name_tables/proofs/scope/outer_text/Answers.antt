use Rattle.std.proofs.Common.{◌≡◌, ◌-◌, ap, sym, subst, take, ◌∙◌, arith}
use Rattle.name_tables.specs.Parts.{parts}
use Rattle.name_tables.specs.Scopes.{IsAround, IsBranchOf}
use Rattle.name_tables.proofs.NameParts.{parts-some}
use Rattle.name_tables.proofs.LastParts.{before-around, before-boundary, last-one, last-part, scope-descendant}
use Rattle.name_tables.proofs.Paths.{descendant-some}
use Rattle.name_tables.proofs.scope.outer_text.Goals as goal

pub part-part-requires : goal.part-part-requires
part-part-requires c =
    let branches = c.args.tree.now in
    let text = c.args.text.now in
    let down = scope-descendant branches text c.in-Some.at c.requires.some (subst (IsBranchOf branches text) c.in-Some.is c.requires.branch) in
    (descendant-some branches (parts text) 0 c.in-Some.at (parts-some text) down).1

pub range-requires-clause-end_boundary : goal.range-requires-clause-end_boundary
range-requires-clause-end_boundary c =
    let branches = c.args.tree.now in
    let text = c.args.text.now in
    let part = c.part-part.result.now in
    let down = scope-descendant branches text c.in-Some.at c.requires.some (subst (IsBranchOf branches text) c.in-Some.is c.requires.branch) in
    before-boundary text part c.saturating_sub.result c.saturating_sub.ensures c.utf8.text
    (last-part branches c.requires.tree c.in-Some.at part text c.part-part.ensures down)

pub returns-in-Some : goal.returns-in-Some
returns-in-Some c =
    let branches = c.args.tree.now in
    let text = c.args.text.now in
    let part = c.part-part.result.now in
    let down = scope-descendant branches text c.in-Some.at c.requires.some (subst (IsBranchOf branches text) c.in-Some.is c.requires.branch) in
    let all : c.saturating_sub.result ≡ c.saturating_sub.result - 0 = omega arith in
    subst (IsAround text) (ap (λ n. take n text) all ∙ sym c.range.ensures.value)
    (before-around text part c.saturating_sub.result c.saturating_sub.ensures
    (last-part branches c.requires.tree c.in-Some.at part text c.part-part.ensures down)
    (last-one branches c.requires.tree c.in-Some.at part text c.part-part.ensures down))
