use Rattle.std.proofs.Common.{◌≡◌, ◌≢◌, ◌<◌, ◌+◌, ℕ, Some, length, ap, sym, ◌∙◌, subst, arith}
use Rattle.std.proofs.Math.Numerals.{add-one}
use Rattle.std.proofs.lemmas.Bool.{both_ways}
use Rattle.std.proofs.lemmas.Bool.Decides.{Decides-eqb}
use Rattle.std.proofs.lemmas.Slice.Eq.{slice_eq-Decides}
use Rattle.std.specs.List.{slice_get}
use Rattle.name_tables.specs.Nodes.{row, rows, child_at, Key, as_key, key_of, key_at, child_key, digit_at, slot_at}
use Rattle.name_tables.specs.declared.nodes.Slot.{Slot}
use Rattle.name_tables.proofs.Rows.{length-rows, node_at, read-at, row-read, row-some}
use Rattle.name_tables.proofs.Slots.{IsSought, key-of, rises-row, sought-first, sought-next, slot-found, slot-none}
use Rattle.name_tables.proofs.nodes.find_slot.Goals as goal
use Rattle.name_tables.proofs.nodes.find_slot.Goals.{else-node-key-via-then-node-key+then-node-key-2+else-eq, else-node-key-via-then-node-key+else-node-key-2, else-node-key-via-else-node-key}

pub loop-at-init : goal.loop-at-init
loop-at-init c =
    let all = rows c.args.texts.now c.args.nodes.now in
    let by : Key = child_key all c.args.key.parent c.args.key.part.now in
    let counted = length-rows c.args.texts.now c.args.nodes.now in
    let parent : c.args.key.parent < length c.args.nodes.now = c.requires.parent in
    let same : c.digit_at.result ≡ digit_at by 0 = c.digit_at.ensures.same ∙ ap (λ digest. digit_at (as_key digest c.args.key.parent c.args.key.part.now) 0) c.requires.digest in
    let slot : ℕ → Slot = λ digit. record { node = 0; digit = digit } in
    record {
      inside = omega arith;
      sought = subst (λ digit. IsSought all by (slot digit) 0) (sym same) (sought-first all by (omega arith));
    }

pub bounds-nodes-at : goal.bounds-nodes-at
bounds-nodes-at c = (rises-row c.args.texts.now c.args.nodes.now c.loop-at.slot c.in-Some.at c.requires.trie.trie (sym (c.in-Some.ensures c.args.texts.now))).1

pub get-requires : goal.get-requires
get-requires c =
    subst (λ n. c.in-Some.at < n) (sym c.requires.trie.even) (rises-row c.args.texts.now c.args.nodes.now c.loop-at.slot c.in-Some.at c.requires.trie.trie (sym (c.in-Some.ensures c.args.texts.now))).1

pub returns-then-eq : goal.returns-then-eq
returns-then-eq c =
    let all = rows c.args.texts.now c.args.nodes.now in
    let node = node_at c.args.nodes.now c.in-Some.at in
    let stands : child_at all c.loop-at.slot ≡ Some c.in-Some.at = sym (c.in-Some.ensures c.args.texts.now) in
    let inside = (rises-row c.args.texts.now c.args.nodes.now c.loop-at.slot c.in-Some.at c.requires.trie.trie stands).1 in
    let read : slice_get all c.in-Some.at ≡ Some (row c.get.result.now node) = row-read c.args.texts.now c.args.nodes.now c.in-Some.at node inside (read-at c.args.nodes.now c.in-Some.at inside) c.get.result.now c.get.ensures in
    let named : c.get.result.now ≡ c.args.key.part.now = (slice_eq-Decides Decides-eqb c.get.result.now c.args.key.part.now c.eq.result c.eq.ensures).0 c.if-eq.true in
    let counted = length-rows c.args.texts.now c.args.nodes.now in
    let parent : c.args.key.parent < length c.args.nodes.now = c.requires.parent in
    slot-found all c.args.key.parent c.args.key.part.now c.loop-at.slot c.loop-at.level c.requires.trie.trie (omega arith) c.loop-at.invariant.sought c.in-Some.at stands
    (key-of all c.in-Some.at (row c.get.result.now node) read ∙ (λ i. as_key ((c.if-node-key.true ∙ c.requires.digest) i) (c.if-node-key-2.true i) (named i)))

-- the branch at the slot has another key
differs : (c : goal.After-digit_at-in-Some) → key_at (rows c.args.texts.now c.args.nodes.now) c.in-Some.at ≢ child_key (rows c.args.texts.now c.args.nodes.now) c.args.key.parent c.args.key.part.now
differs c same =
    let all = rows c.args.texts.now c.args.nodes.now in
    let node = node_at c.args.nodes.now c.in-Some.at in
    let inside = (rises-row c.args.texts.now c.args.nodes.now c.loop-at.slot c.in-Some.at c.requires.trie.trie (sym (c.in-Some.ensures c.args.texts.now))).1 in
    let some = row-some c.args.texts.now c.args.nodes.now c.in-Some.at node inside (read-at c.args.nodes.now c.in-Some.at inside) in
    let found : key_of (row some.0 node) ≡ child_key all c.args.key.parent c.args.key.part.now = sym (key-of all c.in-Some.at (row some.0 node) some.1) ∙ same in
    elim c.else-node-key.branch [
      | else-node-key-via-then-node-key+then-node-key-2+else-eq w ↦
          let read : slice_get all c.in-Some.at ≡ Some (row w.get.result.now node) = row-read c.args.texts.now c.args.nodes.now c.in-Some.at node inside (read-at c.args.nodes.now c.in-Some.at inside) w.get.result.now w.get.ensures in
          let named : w.get.result.now ≡ c.args.key.part.now = ap (λ (key : Key). key.part) (sym (key-of all c.in-Some.at (row w.get.result.now node) read) ∙ same) in
          both_ways w.eq.result w.if-eq.false ((slice_eq-Decides Decides-eqb w.get.result.now c.args.key.part.now w.eq.result w.eq.ensures).1 named)
      | else-node-key-via-then-node-key+else-node-key-2 w ↦ w.if-node-key-2.false (ap (λ (key : Key). key.parent) found)
      | else-node-key-via-else-node-key w ↦ w.if-node-key.false (ap (λ (key : Key). key.digest) found ∙ sym c.requires.digest)
    ]

pub loop-at-preserved : goal.loop-at-preserved
loop-at-preserved c =
    let all = rows c.args.texts.now c.args.nodes.now in
    let by : Key = child_key all c.args.key.parent c.args.key.part.now in
    let stands : child_at all c.loop-at.slot ≡ Some c.in-Some.at = sym (c.in-Some.ensures c.args.texts.now) in
    let next : IsSought all by (slot_at by (c.loop-at.level + 1) c.in-Some.at) (c.loop-at.level + 1) =
    rw add-one (sought-next all by c.loop-at.slot c.loop-at.level c.in-Some.at c.requires.trie.trie c.loop-at.invariant.sought stands (differs c)) in
    let same : c.digit_at-in-Some.result ≡ digit_at by (c.loop-at.level + 1) =
    c.digit_at-in-Some.ensures.same ∙ ap (λ digest. digit_at (as_key digest c.args.key.parent c.args.key.part.now) (c.loop-at.level + 1)) c.requires.digest in
    let slot : ℕ → Slot = λ digit. record { node = c.in-Some.at; digit = digit } in
    record {
      inside = (rises-row c.args.texts.now c.args.nodes.now c.loop-at.slot c.in-Some.at c.requires.trie.trie stands).1;
      sought = subst (λ digit. IsSought all by (slot digit) (c.loop-at.level + 1)) (sym same) next;
    }

pub returns : goal.returns
returns c =
    let counted = length-rows c.args.texts.now c.args.nodes.now in
    let parent : c.args.key.parent < length c.args.nodes.now = c.requires.parent in
    slot-none (rows c.args.texts.now c.args.nodes.now) c.args.key.parent c.args.key.part.now c.loop-at.slot c.loop-at.level c.requires.trie.trie (omega arith) c.loop-at.invariant.sought
    (sym (c.in_default.ensures c.args.texts.now))
