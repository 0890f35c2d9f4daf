use Rattle.std.proofs.Common.{◌≡◌, ◌<◌, ◌++◌, ◌∷◌, [], None, Some, length, ap, sym, ◌∙◌, arith}
use Rattle.std.proofs.lemmas.Bool.{false≢true, eqb-true, eq-eqb}
use Rattle.std.proofs.lemmas.Bool.Decides.{Decides-eqb}
use Rattle.std.proofs.lemmas.List.{append_cancel_right, nil_from_length}
use Rattle.std.proofs.lemmas.Slice.Eq.{strip_suffix_is}
use Rattle.name_tables.specs.Tree.{path}
use Rattle.name_tables.specs.Nodes.{rows, branches_of}
use Rattle.name_tables.specs.Parts.{name_of}
use Rattle.name_tables.proofs.LookUp.{before_part, before-dot, node-before, node-other, node-text, node-front}
use Rattle.name_tables.proofs.Rows.{node_at, read-at}
use Rattle.name_tables.proofs.nodes.has_name.Goals as goal

pub parts-smaller : goal.parts-smaller
parts-smaller c = node-before c.args.texts.now c.args.nodes.now c.requires.tree c.parts.at (node_at c.args.nodes.now c.parts.at) c.get.result.now c.parts.invariant.some c.parts.invariant.inside (read-at c.args.nodes.now c.parts.at c.parts.invariant.inside) c.get.ensures

-- a text that does not end with the part is another
pub returns-in_default : goal.returns-in_default
returns-in_default c = (
  λ yes. absurd (false≢true yes),
  λ is. absurd (node-other c.args.texts.now c.args.nodes.now c.requires.tree c.parts.at (node_at c.args.nodes.now c.parts.at) c.get.result.now c.parts.invariant.some c.parts.invariant.inside (read-at c.args.nodes.now c.parts.at c.parts.invariant.inside) c.get.ensures
      c.parts.left.now
      (strip_suffix_is Decides-eqb c.parts.left.now c.get.result.now None c.in_default.ensures.cases) (c.parts.invariant.if_so is)),
)

pub returns-then-node-eq0 : goal.returns-then-node-eq0
returns-then-node-eq0 c =
    let split : c.parts.left.now ≡ c.in-Some.front.now ++ c.get.result.now = strip_suffix_is Decides-eqb c.parts.left.now c.get.result.now (Some c.in-Some.front) c.in-Some.ensures.cases in
    let none : before_part (branches_of (rows c.args.texts.now c.args.nodes.now)) (node_at c.args.nodes.now c.parts.at).parent ≡ [] = ap (before_part (branches_of (rows c.args.texts.now c.args.nodes.now))) c.if-node-eq0.true in (
      λ yes. c.parts.invariant.only
          (node-text c.args.texts.now c.args.nodes.now c.requires.tree c.parts.at (node_at c.args.nodes.now c.parts.at) c.get.result.now c.parts.invariant.some c.parts.invariant.inside (read-at c.args.nodes.now c.parts.at c.parts.invariant.inside) c.get.ensures
          c.parts.left.now c.in-Some.front.now split
          (nil_from_length c.in-Some.front.now (eqb-true (length c.in-Some.front.now) 0 (sym c.is_empty.ensures ∙ yes)) ∙ sym none)),
      λ is. c.is_empty.ensures ∙ eq-eqb (length c.in-Some.front.now) 0 (ap length
          (node-front c.args.texts.now c.args.nodes.now c.requires.tree c.parts.at (node_at c.args.nodes.now c.parts.at) c.get.result.now c.parts.invariant.some c.parts.invariant.inside (read-at c.args.nodes.now c.parts.at c.parts.invariant.inside) c.get.ensures
          c.parts.left.now c.in-Some.front.now split (c.parts.invariant.if_so is) ∙ none)),
    )

-- a text without a dot before the part is another, where one stands before it
pub returns-in_default-strip_suffix : goal.returns-in_default-strip_suffix
returns-in_default-strip_suffix c =
    let split : c.parts.left.now ≡ c.in-Some.front.now ++ c.get.result.now = strip_suffix_is Decides-eqb c.parts.left.now c.get.result.now (Some c.in-Some.front) c.in-Some.ensures.cases in (
      λ yes. absurd (false≢true yes),
      λ is. absurd (strip_suffix_is Decides-eqb c.in-Some.front.now (46 ∷ []) None c.in_default-strip_suffix.ensures.cases
          (name_of (path (branches_of (rows c.args.texts.now c.args.nodes.now)) (node_at c.args.nodes.now c.parts.at).parent))
          (node-front c.args.texts.now c.args.nodes.now c.requires.tree c.parts.at (node_at c.args.nodes.now c.parts.at) c.get.result.now c.parts.invariant.some c.parts.invariant.inside (read-at c.args.nodes.now c.parts.at c.parts.invariant.inside) c.get.ensures
          c.parts.left.now c.in-Some.front.now split (c.parts.invariant.if_so is)
          ∙ before-dot (branches_of (rows c.args.texts.now c.args.nodes.now)) c.requires.tree (node_at c.args.nodes.now c.parts.at).parent c.if-node-eq0.false)),
    )

pub parts-preserved : goal.parts-preserved
parts-preserved c =
    let split : c.parts.left.now ≡ c.in-Some.front.now ++ c.get.result.now = strip_suffix_is Decides-eqb c.parts.left.now c.get.result.now (Some c.in-Some.front) c.in-Some.ensures.cases in
    let dotted : c.in-Some.front.now ≡ c.in-Some-strip_suffix.before.now ++ 46 ∷ [] =
    strip_suffix_is Decides-eqb c.in-Some.front.now (46 ∷ []) (Some c.in-Some-strip_suffix.before) c.in-Some-strip_suffix.ensures.cases in
    let above : before_part (branches_of (rows c.args.texts.now c.args.nodes.now)) (node_at c.args.nodes.now c.parts.at).parent ≡ name_of (path (branches_of (rows c.args.texts.now c.args.nodes.now)) (node_at c.args.nodes.now c.parts.at).parent) ++ 46 ∷ [] =
    before-dot (branches_of (rows c.args.texts.now c.args.nodes.now)) c.requires.tree (node_at c.args.nodes.now c.parts.at).parent c.if-node-eq0.false in
    let up : (node_at c.args.nodes.now c.parts.at).parent < c.parts.at = parts-smaller c in
    record {
      some = (let other = c.if-node-eq0.false in omega arith);
      inside = (let inside : c.parts.at < length c.args.nodes.now = c.parts.invariant.inside in omega arith);
      only = λ is. c.parts.invariant.only
          (node-text c.args.texts.now c.args.nodes.now c.requires.tree c.parts.at (node_at c.args.nodes.now c.parts.at) c.get.result.now c.parts.invariant.some c.parts.invariant.inside (read-at c.args.nodes.now c.parts.at c.parts.invariant.inside) c.get.ensures
          c.parts.left.now c.in-Some.front.now split (dotted ∙ ap (λ text. text ++ 46 ∷ []) is ∙ sym above));
      if_so = λ is.
          append_cancel_right c.in-Some-strip_suffix.before.now (name_of (path (branches_of (rows c.args.texts.now c.args.nodes.now)) (node_at c.args.nodes.now c.parts.at).parent)) (46 ∷ [])
          (sym dotted
          ∙ node-front c.args.texts.now c.args.nodes.now c.requires.tree c.parts.at (node_at c.args.nodes.now c.parts.at) c.get.result.now c.parts.invariant.some c.parts.invariant.inside (read-at c.args.nodes.now c.parts.at c.parts.invariant.inside) c.get.ensures
          c.parts.left.now c.in-Some.front.now split (c.parts.invariant.if_so is)
          ∙ above);
    }
