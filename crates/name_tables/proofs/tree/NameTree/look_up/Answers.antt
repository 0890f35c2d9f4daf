use Rattle.std.proofs.Common.{◌≡◌, ◌≢◌, ◌<◌, ℕ, None, Some, length, ap, refl, sym, ◌∙◌, subst, arith}
use Rattle.std.proofs.Math.Numerals.{add-one}
use Rattle.std.proofs.lemmas.Bool.{false≢true, eqb-true, eq-eqb}
use Rattle.std.proofs.lemmas.List.{length-map}
use Rattle.name_tables.proofs.Rows.{length-rows, row-some}
use Rattle.name_tables.proofs.TreeBranches.{length-branches}
use Rattle.name_tables.specs.Tree.{IsTree, IsDescendant, path}
use Rattle.name_tables.specs.Nodes.{rows, row, branches_of, branch_of, child_at, Key, key_at, key_of, digest_digit}
use Rattle.name_tables.specs.Parts.{name_of, parts}
use Rattle.name_tables.specs.declared.nodes.Slot.{Slot}
use Rattle.name_tables.proofs.LookUp.{named-descendant, ahead-first, apart-digest, apart-name, ahead-none, ahead-next}
use Rattle.name_tables.proofs.NameParts.{parts-some}
use Rattle.name_tables.proofs.Paths.{descendant-some}
use Rattle.name_tables.proofs.Slots.{key-of, rises-row}
use Rattle.name_tables.proofs.tree.NameTree.look_up.Goals as goal
use Rattle.name_tables.proofs.tree.NameTree.look_up.Goals.{else-index-digest-via-then-index-digest+else-has_name, else-index-digest-via-else-index-digest}

pub returns-then-is_empty-clause-none : goal.returns-then-is_empty-clause-none
returns-then-is_empty-clause-none c = λ none k down.
    let inside : k < length c.args.self.now = (descendant-some c.args.self.now (parts c.args.name.now) 0 k (parts-some c.args.name.now) down).1 in
    let counted : length c.args.self.now ≡ length c.self.inside.nodes.items = length-branches c.self.inside.texts c.self.inside.nodes.items c.args.self.now c.self.view_is in
    let ok = c.self.inside.nodes.ok.0 in
    let empty = eqb-true c.self.inside.nodes.len 0 (sym c.if-is_empty.ensures) in
    omega arith

pub loop-level-init : goal.loop-level-init
loop-level-init c =
    let all = rows c.self.inside.texts c.self.inside.nodes.items in
    let tree : IsTree (branches_of all) = subst IsTree (sym c.self.view_is) c.requires in
    let ok = c.self.inside.nodes.ok.0 in
    let some : c.self.inside.nodes.len ≢ 0 = λ none. false≢true (c.if-is_empty.ensures ∙ eq-eqb c.self.inside.nodes.len 0 none) in
    record {
      inside = omega arith;
      digested = c.digest_of-digest.ensures;
      ahead = ahead-first all c.self.invariant.trie tree c.args.name.now;
    }

pub returns-in_err-at-clause-none : goal.returns-in_err-at-clause-none
returns-in_err-at-clause-none c = λ none k down.
    let texts = c.self.inside.texts in
    let all = rows texts c.self.inside.nodes.items in
    let tree : IsTree (branches_of all) = subst IsTree (sym c.self.view_is) c.requires in
    let at_digit : ℕ → Slot = λ digit. record { node = c.loop-level.at; digit = digit } in
    let free : child_at all (at_digit (digest_digit c.digest_of-digest.result c.loop-level.level)) ≡ None =
    (λ i. child_at (rows texts (sym c.deref.ensures.value i)) (at_digit (sym c.digest_digit-digit.ensures.same i))) ∙ sym (c.in_err-at.ensures texts) in
    ahead-none all c.self.invariant.trie tree c.args.name.now c.digest_of-digest.result c.loop-level.level c.loop-level.at c.loop-level.invariant.digested (omega arith) c.loop-level.invariant.ahead
    free k (subst (λ bs. IsDescendant bs 0 (parts c.args.name.now) k) (sym c.self.view_is) down)

pub index-requires : goal.index-requires
index-requires c =
    let texts = c.self.inside.texts in
    let nodes = c.self.inside.nodes.items in
    let slot : Slot = record { node = c.loop-level.at; digit = c.digest_digit-digit.result } in
    let stands : child_at (rows texts nodes) slot ≡ Some c.in_ok-at.at = ap (λ ns. child_at (rows texts ns) slot) (sym c.deref.ensures.value) ∙ sym (c.in_ok-at.ensures texts) in
    let inside : c.in_ok-at.at < length nodes = (rises-row texts nodes slot c.in_ok-at.at c.self.invariant.trie stands).1 in
    let ok = c.self.inside.nodes.ok.0 in
    omega arith

pub has_name-requires-clause-inside : goal.has_name-requires-clause-inside
has_name-requires-clause-inside c =
    let texts = c.self.inside.texts in
    let nodes = c.self.inside.nodes.items in
    let slot : Slot = record { node = c.loop-level.at; digit = c.digest_digit-digit.result } in
    let stands : child_at (rows texts nodes) slot ≡ Some c.in_ok-at.at = ap (λ ns. child_at (rows texts ns) slot) (sym c.deref.ensures.value) ∙ sym (c.in_ok-at.ensures texts) in
    subst (λ ns. c.in_ok-at.at < length ns) (sym c.deref-then-index-digest.ensures.value) (rises-row texts nodes slot c.in_ok-at.at c.self.invariant.trie stands).1

pub returns-then-has_name-clause-found : goal.returns-then-has_name-clause-found
returns-then-has_name-clause-found c =
    let texts = c.self.inside.texts in
    let nodes = c.self.inside.nodes.items in
    let all = rows texts nodes in
    let tree : IsTree (branches_of all) = subst IsTree (sym c.self.view_is) c.requires in
    let slot : Slot = record { node = c.loop-level.at; digit = c.digest_digit-digit.result } in
    let stands : child_at all slot ≡ Some c.in_ok-at.at = ap (λ ns. child_at (rows texts ns) slot) (sym c.deref.ensures.value) ∙ sym (c.in_ok-at.ensures texts) in
    let rises : (c.loop-level.at < c.in_ok-at.at) × (c.in_ok-at.at < length nodes) = rises-row texts nodes slot c.in_ok-at.at c.self.invariant.trie stands in
    let is : c.args.name.now ≡ name_of (path (branches_of all) c.in_ok-at.at) =
    subst (λ ns. c.args.name.now ≡ name_of (path (branches_of (rows texts ns)) c.in_ok-at.at)) c.deref-then-index-digest.ensures.value (c.if-has_name.ensures.0 refl) in
    let inside : c.in_ok-at.at < length (branches_of all) = subst (λ n. c.in_ok-at.at < n) (sym (length-map all branch_of ∙ length-rows texts nodes)) rises.1 in
    let up = rises.0 in
    subst (λ bs. IsDescendant bs 0 (parts c.args.name.now) c.in_ok-at.at) c.self.view_is (named-descendant (branches_of all) tree c.args.name.now c.in_ok-at.at (omega arith) inside is)

pub loop-level-preserved : goal.loop-level-preserved
loop-level-preserved c =
    let texts = c.self.inside.texts in
    let nodes = c.self.inside.nodes.items in
    let all = rows texts nodes in
    let tree : IsTree (branches_of all) = subst IsTree (sym c.self.view_is) c.requires in
    let at_digit : ℕ → Slot = λ digit. record { node = c.loop-level.at; digit = digit } in
    let stands : child_at all (at_digit (digest_digit c.digest_of-digest.result c.loop-level.level)) ≡ Some c.in_ok-at.at =
    (λ i. child_at (rows texts (sym c.deref.ensures.value i)) (at_digit (sym c.digest_digit-digit.ensures.same i))) ∙ sym (c.in_ok-at.ensures texts) in
    let rises : (c.loop-level.at < c.in_ok-at.at) × (c.in_ok-at.at < length nodes) =
    rises-row texts nodes (at_digit (digest_digit c.digest_of-digest.result c.loop-level.level)) c.in_ok-at.at c.self.invariant.trie stands in
    let node = c.index.result.now in
    let some = row-some texts nodes c.in_ok-at.at node rises.1 c.index.ensures in
    let key : key_at all c.in_ok-at.at ≡ key_of (row some.0 node) = key-of all c.in_ok-at.at (row some.0 node) some.1 in
    let apart : (k : ℕ) → IsDescendant (branches_of all) 0 (parts c.args.name.now) k → key_at all c.in_ok-at.at ≢ key_at all k =
    elim c.else-index-digest.branch [
      | else-index-digest-via-then-index-digest+else-has_name w ↦
          apart-name all c.self.invariant.trie tree c.args.name.now c.in_ok-at.at (let up = rises.0 in omega arith) (subst (λ n. c.in_ok-at.at < n) (sym (length-rows texts nodes)) rises.1)
          (λ is. false≢true (w.if-has_name.ensures.1 (subst (λ ns. c.args.name.now ≡ name_of (path (branches_of (rows texts ns)) c.in_ok-at.at)) (sym w.deref-then-index-digest.ensures.value) is)))
      | else-index-digest-via-else-index-digest w ↦
          apart-digest all c.self.invariant.trie tree c.args.name.now c.digest_of-digest.result c.in_ok-at.at c.loop-level.invariant.digested
          (λ same. w.if-index-digest.false (ap (λ (by : Key). by.digest) (sym key) ∙ same))
    ] in
    record {
      inside = rises.1;
      digested = c.loop-level.invariant.digested;
      ahead = rw add-one
          (ahead-next all c.self.invariant.trie tree c.args.name.now c.digest_of-digest.result c.loop-level.level c.loop-level.at c.loop-level.invariant.digested (omega arith) c.loop-level.invariant.ahead
          c.in_ok-at.at stands apart);
    }
