use Rattle.std.proofs.Common.{◌≡◌, ◌≢◌, List, [], ◌∷◌, Result, Ok, Err, OnOk, OnErr, length, refl, ap, sym, subst, ◌∙◌, arith}
use Rattle.std.proofs.lemmas.Bool.{false≢true, eq-eqb, eqb-true}
use Rattle.name_tables.specs.Tree.{Branch, with_root}
use Rattle.name_tables.proofs.TreeBranches.{length-branches}
use Rattle.name_tables.specs.Nodes.{rows, IsTrie}
use Rattle.std.proofs.lemmas.List.{nil_from_length}
use Rattle.name_tables.proofs.Trie.{trie-root}
use Rattle.name_tables.proofs.tree.NameTree.insert_root.Goals as goal

rooted : (bs : List Branch) → length bs ≢ 0 → bs ≡ with_root bs
rooted [] some = absurd (some refl)
rooted (b ∷ bs) some = refl

pub returns-then-not-is_empty-clause-ok : goal.returns-then-not-is_empty-clause-ok
returns-then-not-is_empty-clause-ok c =
    let counted = length-branches c.self.inside.texts c.self.inside.nodes.items c.args.self.now c.self.view_is in
    rooted c.args.self.now (λ none. false≢true (c.if-not-is_empty.ensures ∙ eq-eqb c.self.inside.nodes.len 0 (c.self.inside.nodes.ok.0 ∙ sym counted ∙ none)))

either : {U E P Q R : Type 0} (result : Result U E) → OnOk result P → OnErr result Q → (P → R) → (Q → R) → R
either (Ok u) p q met missed = met p
either (Err e) p q met missed = missed q

pub invariant_of-self : goal.invariant_of-self
invariant_of-self c =
    let nodes = c.self.inside.nodes in
    let counted = nodes.ok.0 in
    let empty = eqb-true nodes.len 0 (sym c.if-not-is_empty.ensures) in
    let none : nodes.items ≡ [] = nil_from_length nodes.items (omega (arith, counted, empty)) in
    let even = c.push_leaf.ensures.even in
    either c.push_leaf.result c.push_leaf.ensures.pushed c.push_leaf.ensures.err
    (λ pushed. trie-root c.push_leaf.new.texts c.push_leaf.new.nodes.items _ _ (ap (rows c.self.inside.texts) none) even pushed)
    (λ same. record { even = even; trie = subst IsTrie (sym same) c.self.invariant.trie })
