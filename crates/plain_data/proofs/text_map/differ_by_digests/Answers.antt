use Rattle.std.proofs.Common.{◌≡◌, ◌∙◌, ◌+◌, ◌<◌, ◌≤◌, ◌/◌, ◌%◌, ◌⊎◌, inl, inr, ℕ, Bool, true, false, IsTrue, List, length, [], take, get_or, set, sym, ap, arith, length-take}
use Rattle.std.proofs.lemmas.List.{get_or-take, get_or_read}
use Rattle.std.proofs.Math.ListN.{length-set}
use Rattle.std.proofs.lemmas.Grind.{common_steps}
use Rattle.plain_data.specs.TextEntries.{LacksFrom, Lacks, text_at}
use Rattle.plain_data.specs.Digests.{digest_of}
use Rattle.plain_data.proofs.text_map.differ_by_digests.Goals as goal
use Rattle.plain_data.proofs.text_map.differ_by_digests.Goals.{else-seen-bits-via-then-seen-bits+else-is_among, else-seen-bits-via-else-seen-bits}

-- one more, or the one at the end
one_more : (P : ℕ → Type 0) (at : ℕ) → ((j : ℕ) → j < at → P j) → P at → (j : ℕ) → j < at + 1 → P j
one_more P at below here j lt = grind (arith, below, here)

-- a text whose bits are not seen is none so far
unseen : (entries : List (List ℕ × ℕ)) (at d : ℕ) (key : List ℕ) (seen : List Bool) → ((j : ℕ) → j < at → get_or seen (digest_of (text_at entries j) / 8388608 % 512) false ≡ true)
    → d ≡ digest_of key → get_or seen (d / 8388608 % 512) false ≡ false → LacksFrom entries key 0 at
unseen entries at d key seen each is free i le lt same =
    let e : digest_of (text_at entries i) ≡ d = ap digest_of same ∙ sym is in
    let s : get_or seen (d / 8388608 % 512) false ≡ true = ap (λ (n : ℕ). get_or seen (n / 8388608 % 512) false) (sym e) ∙ each i lt in
    absurd cc

-- a text that no entry up to a position has
before : (entries : List (List ℕ × ℕ)) (at : ℕ) (key : List ℕ) → at ≤ length entries → Lacks (take at entries) key → LacksFrom entries key 0 at
before entries at key within lacks i le lt same =
    lacks i le (omega (arith, length-take at entries)) (ap (λ e. e.0) (get_or-take at entries i ([], 0) lt) ∙ same)

no_true : (b : Bool) (P : Type 0) → b ≡ false → IsTrue b ⊎ P → P
no_true b P is (inl holds) = absurd cc
no_true b P is (inr p) = p

kept : (seen : List Bool) (n m : ℕ) → n < length seen → get_or seen n false ≡ true → get_or (set seen m true) n false ≡ true
kept seen n m within is = grind (arith, common_steps)

marked : (seen : List Bool) (n m : ℕ) → n ≡ m → m < length seen → get_or (set seen m true) n false ≡ true
marked seen n m same within = grind (arith, common_steps)

pub loop-at-preserved : goal.loop-at-preserved
loop-at-preserved c =
    let entries = c.args.entries.now in
    let at = c.loop-at.at in
    let seen = c.loop-at.seen in
    let key = text_at entries at in
    let bits = c.digest.result / 8388608 % 512 in
    let read = get_or_read entries at c.index-entries-at.result (omega arith) c.index-entries-at.is ([], 0) in
    let text : c.as_bytes-text.result.now ≡ key = c.as_bytes-text.ensures.value ∙ c.as_str.ensures ∙ ap (λ e. e.0) (sym c.index-entries-at.is ∙ read) in
    let digest : c.digest.result ≡ digest_of key = c.digest.ensures ∙ ap digest_of text in
    let lacks : LacksFrom entries key 0 at =
    elim c.else-seen-bits.branch [
      | else-seen-bits-via-then-seen-bits+else-is_among w ↦
          before entries at key (omega arith) (rw text at (no_true _ _ w.if-is_among.false w.is_among.ensures))
      | else-seen-bits-via-else-seen-bits w ↦ unseen entries at _ key seen c.loop-at.invariant.seen digest w.if-seen-bits.false
    ] in
    let long = c.loop-at.invariant.long in
    let here = marked seen (digest_of key / 8388608 % 512) bits (ap (λ (n : ℕ). n / 8388608 % 512) (sym digest)) (omega (arith, long)) in
    record {
      apart = one_more (λ j. LacksFrom entries (text_at entries j) 0 j) at c.loop-at.invariant.apart lacks;
      seen = one_more (λ j. get_or (set seen bits true) (digest_of (text_at entries j) / 8388608 % 512) false ≡ true) at
          (λ j lt. kept seen _ bits (omega (arith, long)) (c.loop-at.invariant.seen j lt)) here;
      long = length-set seen bits true ∙ long;
    }
