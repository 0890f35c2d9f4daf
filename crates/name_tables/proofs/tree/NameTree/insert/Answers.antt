use Rattle.std.proofs.Common.{◌≡◌, ◌<◌, ℕ, List, [], ◌∷◌, ◌++◌, Result, Ok, Err, None, length, refl, ap, sym, ◌∙◌, subst, inr, arith}
use Rattle.std.specs.List.{slice_get}
use Rattle.std.specs.Result.{IfOk}
use Rattle.name_tables.specs.Tree.{Branch, branch, IsChild, InsertsChild}
use Rattle.name_tables.specs.Nodes.{rows, branches_of, child_at, IsSlotOf}
use Rattle.name_tables.proofs.Rows.{length-rows}
use Rattle.name_tables.proofs.TreeBranches.{length-branches}
use Rattle.name_tables.proofs.Lists.{get-last}
use Rattle.name_tables.proofs.tree.NameTree.insert.Goals as goal

-- a branch that was added behind all others
inserted : {E : Type 0} (r : Result ℕ E) (old new : List Branch) (b : Branch) (n parent : ℕ) (part : List ℕ)
    → IfOk r (λ k. (k ≡ n) × (new ≡ old ++ b ∷ [])) → n ≡ length old → b ≡ branch parent part → 0 < n → ((j : ℕ) → IsChild old parent part j → ⊥)
    → IfOk r (λ k. InsertsChild old new parent part k)
inserted (Ok k) old new b n parent part (at, shows) counted is some none =
    let added : new ≡ old ++ branch parent part ∷ [] = shows ∙ ap (λ b. old ++ b ∷ []) is in (
      (subst (λ k. 0 < k) (sym at) some, branch parent part, ap (λ branches. slice_get branches k) added ∙ ap (slice_get (old ++ branch parent part ∷ [])) (at ∙ counted) ∙ get-last old (branch parent part), refl, refl),
      inr (added, none),
    )
inserted (Err e) old new b n parent part ok counted is some none = tt

pub child_digest-requires : goal.child_digest-requires
child_digest-requires c =
    let counted = length-branches c.self.inside.texts c.self.inside.nodes.items c.args.self.now c.self.view_is in
    subst (λ n. c.args.parent < n) (counted ∙ ap length (sym c.deref.ensures.value)) c.requires

pub find_slot-slot-requires-clause-parent : goal.find_slot-slot-requires-clause-parent
find_slot-slot-requires-clause-parent c =
    let counted = length-branches c.self.inside.texts c.self.inside.nodes.items c.args.self.now c.self.view_is in
    subst (λ n. c.args.parent < n) (counted ∙ ap length (sym c.deref-2.ensures.value)) c.requires

pub child-requires-clause-inside : goal.child-requires-clause-inside
child-requires-clause-inside c =
    let same = length-rows c.self.inside.texts c.deref-2.result.now ∙ ap length (c.deref-2.ensures.value ∙ sym c.deref-3.ensures.value) in
    subst (λ n. c.find_slot-slot.result.node < n) same c.find_slot-slot.ensures.inside

pub returns-clause-ok : goal.returns-clause-ok
returns-clause-ok c =
    let texts = c.self.inside.texts in
    let nodes = c.self.inside.nodes.items in
    let parent = c.args.parent in
    let text : List ℕ = c.as_bytes-part.result.now in
    let same : text ≡ c.args.part.now = c.as_bytes-part.ensures.value in
    let slot_of : IsSlotOf (rows texts nodes) parent text c.find_slot-slot.result =
    subst (λ nodes. IsSlotOf (rows texts nodes) parent text c.find_slot-slot.result) c.deref-2.ensures.value c.find_slot-slot.ensures in
    let counted : length c.args.self.now ≡ length nodes = length-branches texts nodes c.args.self.now c.self.view_is in
    let inside : parent < length c.args.self.now = c.requires in
    inserted c.insert.result c.args.self.now (branches_of (rows c.insert.new.texts c.insert.new.nodes.items)) (branch parent text) (length nodes) parent c.args.part.now
    (subst (λ old. IfOk c.insert.result (λ k. (k ≡ length nodes) × (branches_of (rows c.insert.new.texts c.insert.new.nodes.items) ≡ old ++ branch parent text ∷ []))) c.self.view_is c.insert.ensures.ok)
    (sym counted) (ap (branch parent) same) (omega arith)
    (λ j below. slot_of.none (sym (subst (λ nodes. None ≡ child_at (rows texts nodes) c.find_slot-slot.result) c.deref-3.ensures.value (c.in_default.ensures texts))) j
    (subst (λ text. IsChild (branches_of (rows texts nodes)) parent text j) (sym same) (subst (λ branches. IsChild branches parent c.args.part.now j) (sym c.self.view_is) below)))
