use Rattle.std.proofs.Common.{◌≢◌, refl, arith}
use Rattle.name_tables.specs.Tree.{path}
use Rattle.name_tables.proofs.Counterparts.{found-more, none-behind, none-more, read-path}
use Rattle.name_tables.proofs.within.+counterpart.Goals as goal

pub returns-in_err-other-clause-none : goal.returns-in_err-other-clause-none
returns-in_err-other-clause-none t c = λ none.
    let branches = c.args.branches.now in
    let way = c.halfway-middle.ensures.above in
    none-behind c.args.others.now (path branches c.halfway-middle.result) way.1 (path branches c.args.at) way.2 (c.in_err-other.ensures.none refl)

pub returns-then-middle-pair-clause-found : goal.returns-then-middle-pair-clause-found
returns-then-middle-pair-clause-found t c =
    let branches = c.args.branches.now in
    let middle = c.halfway-middle.result in
    let part = c.part.result.now in
    let some : c.args.at ≢ 0 = omega (arith, c.halfway-middle.ensures.above.0) in
    let above = c.halfway-middle.ensures.next c.if-middle-pair.true in
    let is = read-path branches c.requires.paired.tree c.args.at middle part some above c.part.ensures in
    found-more c.args.others.now c.requires.paired.other_tree (path branches middle) (path branches c.args.at) part is c.in_ok-other.other c.find.result c.in_ok-other.ensures.found c.find.ensures.found

pub returns-then-middle-pair-clause-none : goal.returns-then-middle-pair-clause-none
returns-then-middle-pair-clause-none t c = λ none.
    let branches = c.args.branches.now in
    let middle = c.halfway-middle.result in
    let part = c.part.result.now in
    let some : c.args.at ≢ 0 = omega (arith, c.halfway-middle.ensures.above.0) in
    let above = c.halfway-middle.ensures.next c.if-middle-pair.true in
    let is = read-path branches c.requires.paired.tree c.args.at middle part some above c.part.ensures in
    none-more c.args.others.now c.requires.paired.other_tree (path branches middle) (path branches c.args.at) part is c.in_ok-other.other c.in_ok-other.ensures.found (c.find.ensures.none none)
