use Rattle.std.proofs.Common.{ℕ, Option, None, Some, IfSome, sym, subst, refl}
use Rattle.name_tables.specs.Tree.{IsChild, IsDescendant}
use Rattle.name_tables.specs.Parts.{parts}
use Rattle.name_tables.proofs.tree.NameTree.descend.Goals as goal

if-some : {P Q : ℕ → Type 0} (found : Option ℕ) → ((k : ℕ) → P k → Q k) → IfSome found P → IfSome found Q
if-some None as_well some = some
if-some (Some k) as_well some = as_well k some

-- a name of one part leads to a child
pub returns-then-is_part-clause-found : goal.returns-then-is_part-clause-found
returns-then-is_part-clause-found c =
    let tree = c.args.self.now in
    let one = c.is_part.ensures c.if-is_part.true in
    if-some {P = IsChild tree c.args.from c.as_bytes.result.now} {Q = IsDescendant tree c.args.from (parts c.args.text.now)} c.find.result
    (λ k child. subst (λ ps. IsDescendant tree c.args.from ps k) (sym one)
    (k, subst (λ part. IsChild tree c.args.from part k) c.as_bytes.ensures.value child, refl)) c.find.ensures.found

pub returns-then-is_part-clause-none : goal.returns-then-is_part-clause-none
returns-then-is_part-clause-none c = λ none k down.
    let tree = c.args.self.now in
    let one = c.is_part.ensures c.if-is_part.true in
    let here = subst (λ ps. IsDescendant tree c.args.from ps k) one down in
    c.find.ensures.none none here.0 (subst (λ part. IsChild tree c.args.from part here.0) (sym c.as_bytes.ensures.value) here.1)
