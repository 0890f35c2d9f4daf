use Rattle.std.proofs.Common.{◌≡◌, ◌++◌, ◌∷◌, [], ap, refl, sym, ◌∙◌}
use Rattle.std.proofs.lemmas.List.{append_assoc}
use Rattle.name_tables.specs.Parts.{parts}
use Rattle.name_tables.proofs.NameParts.{part-between}
use Rattle.name_tables.proofs.TreeChanges.{descendant-inserted, inserted-inside, keeps-all, keeps-inserted, keeps-more, tree-inserted}
use Rattle.name_tables.proofs.branches.insert_parts.Goals as goal

pub loop-part-init : goal.loop-part-init
loop-part-init c = (
  tt,
  tt,
  c.requires.tree,
  keeps-all c.args.tree.now,
  c.requires.from,
  [],
  c.into_iter-part-iterator.ensures.into_iter_gives ∙ c.new-part-items.ensures,
  refl,
)

pub loop-part-preserved : goal.loop-part-preserved
loop-part-preserved c =
    let was = c.loop-part.tree in
    let now = c.insert.new.self in
    let at = c.loop-part.at in
    let part = c.in-Some.part.now in
    let to = c.in_ok-at.at in
    let inserts = c.in_ok-at.ensures.ok in
    let tree = c.loop-part.invariant.2 in
    let inside = c.loop-part.invariant.4 in
    let so_far = c.loop-part.invariant.5 in
    let all : so_far ++ part ∷ c.next.new.self ≡ parts c.args.name.now = ap (λ left. so_far ++ left) (sym c.in-Some.ensures.steps) ∙ c.loop-part.invariant.6 in
    let whole = part-between c.args.name.now so_far part c.next.new.self all in (
      tt,
      tt,
      tree-inserted was now at part to inserts tree inside whole,
      keeps-more c.args.tree.now was now c.loop-part.invariant.3 (keeps-inserted was now at part to inserts),
      inserted-inside was now at part to inserts,
      so_far ++ part ∷ [],
      append_assoc so_far (part ∷ []) c.next.new.self ∙ all,
      descendant-inserted was now at part to inserts so_far c.args.from c.loop-part.invariant.7,
    )
