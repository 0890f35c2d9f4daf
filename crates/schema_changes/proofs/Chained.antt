-- Pools that follow one another, and change nothing.
use Rattle.std.proofs.Common.{◌≡◌, ℕ, zero, suc, ◌+◌, Bool, true, false, ◌&&◌, List, [], ◌∷◌, Option, Some, None, option_map, slice_get, inl, inr, refl, ap, sym, subst, arith}
use Rattle.std.proofs.lemmas.Bool.{and_parts, and_from, or_cases, or_left, or_right, false≢true}
use Rattle.std.specs.List.{filter, list_any, enumerate_from}
use Rattle.pool_types.specs.Contents.{Contents}
use Rattle.message_values.specs.Values.{Numbered}
use Rattle.message_values.specs.Reading.{IsRead}
use Rattle.message_values.specs.Writing.{IsWritten}
use Rattle.message_values.specs.Kept.{KeepsAll}
use Rattle.message_values.specs.Carried.{AreCarried}
use Rattle.message_values.specs.Steps.{AreJoined, StaysRemoved}
use Rattle.message_values.proofs.Joined.{all-joined}
use Rattle.message_values.proofs.Step.{law, keeps-all-own}
use Rattle.schema_changes.specs.declared.change.MessageChange.{MessageChange}
use Rattle.schema_changes.specs.declared.entries.Entry.{Entry}
use Rattle.schema_changes.specs.Changes.{is_lossy}
use Rattle.schema_changes.specs.Parts.{parts_of}
use Rattle.schema_changes.specs.Pairs.{are_matched}
use Rattle.schema_changes.specs.Entries.{entry_at, field_seen, field_at, schema_of}
use Rattle.schema_changes.specs.Unchanged.{LookUp}
use Rattle.schema_changes.specs.Pools.{NamesMean}
use Rattle.schema_changes.specs.Chains.{last_of, goes_on, AllLookUp, NoneChanges}
use Rattle.schema_changes.proofs.Forms.{named_alike}
use Rattle.schema_changes.proofs.Keeping.{mapped, both-paired}
use Rattle.schema_changes.proofs.Free.{some-of, stays-free}
use Rattle.schema_changes.proofs.Named.{pool-kept}

any-at : {A : Type 0} (p : ℕ × A → Bool) (from i : ℕ) (xs : List A) (x : A) → slice_get xs i ≡ Some x → ((y : A) → p (from + i, y) ≡ true) → list_any p (enumerate_from from xs) ≡ true
any-at p from i [] x e h = absurd cc
any-at p from zero (y ∷ ys) x e h =
    let at : from + 0 ≡ from = omega arith in
    or_left (p (from, y)) (list_any p (enumerate_from (from + 1) ys)) (subst (λ k. p (k, y) ≡ true) at (h y))
any-at p from (suc i) (y ∷ ys) x e h =
    let at : from + suc i ≡ (from + 1) + i = omega arith in
    or_right (p (from, y)) (list_any p (enumerate_from (from + 1) ys)) (any-at p (from + 1) i ys x e (λ z. subst (λ k. p (k, z) ≡ true) at (h z)))

none-before : (p : Contents) (m i : ℕ) → field_at (parts_of p) m i ≡ None → entry_at (parts_of p) m i ≡ None
none-before p m i h = by (entry_at (parts_of p) m i) h
  where
    by : (o : Option Entry) → option_map (field_seen (parts_of p)) o ≡ None → o ≡ None
    by None e = refl
    by (Some f) e = absurd cc

joined : (p q : Contents) (qs : List Contents) → AreJoined (named_alike (λ m. true) (parts_of p) (parts_of q)) (goes_on q qs) (goes_on p (q ∷ qs))
unfolding goes_on
joined p q qs = record {
  between = λ m n h. let e = some-of (λ e. are_matched (parts_of p) m (parts_of q) e.0 && goes_on q qs e.0 n) (enumerate_from 0 q.messages) h in
      let both = and_parts (are_matched (parts_of p) m (parts_of q) (e.0).0) (goes_on q qs (e.0).0 n) e.1 in
      ((e.0).0, and_from true _ refl both.0, both.1);
  joined = λ m k n h i.
      let name = (and_parts true (are_matched (parts_of p) m (parts_of q) k) h).1 in
      let b = both-paired (parts_of p) (parts_of q) m k name in
      let at : 0 + k ≡ k = omega arith in
      any-at (λ e. are_matched (parts_of p) m (parts_of q) e.0 && goes_on q qs e.0 n) 0 k q.messages b.1 b.3
      (λ y. subst (λ j. (are_matched (parts_of p) m (parts_of q) j && goes_on q qs j n) ≡ true) (sym at) (and_from _ _ name i));
}

removed : (p q : Contents) (qs : List Contents) → AllLookUp p (q ∷ qs) → NoneChanges p (q ∷ qs) → StaysRemoved (named_alike (λ m. true) (parts_of p) (parts_of q)) (goes_on q qs) (schema_of (parts_of p)) (schema_of (parts_of q)) (schema_of (parts_of (last_of q qs)))
removed p q qs look none m k n i F pair on had gone =
    let f = mapped (field_seen (parts_of p)) _ F had in
    ap (option_map (field_seen (parts_of (last_of q qs)))) (stays-free p q qs look none m k n i f.0 (and_parts true (are_matched (parts_of p) m (parts_of q) k) pair).1 on f.1 (none-before q k i gone))

-- the pools that a list has look up
first-looks : (q : Contents) (qs : List Contents) → AllLookUp q qs → LookUp (parts_of q) × NamesMean q
first-looks q [] h = h
first-looks q (r ∷ rs) h = h.0

pub chain-kept : (p : Contents) (qs : List Contents) → AllLookUp p qs → NoneChanges p qs
    → KeepsAll (goes_on p qs) (λ m k. false) (schema_of (parts_of p)) (schema_of (parts_of (last_of p qs)))
unfolding goes_on
chain-kept p [] look none = keeps-all-own (schema_of (parts_of p))
chain-kept p (q ∷ qs) look none =
    let first = first-looks q qs look.1 in
    all-joined (schema_of (parts_of p)) (schema_of (parts_of q)) (schema_of (parts_of (last_of q qs))) (named_alike (λ m. true) (parts_of p) (parts_of q)) (goes_on q qs) (goes_on p (q ∷ qs))
    (λ m k. false) (λ m k. false) (λ m k. false)
    (pool-kept p q (λ m k. false) (look.0).0 first.0 first.1 (ap (filter (λ (c : MessageChange). is_lossy c.change.kind)) none.0) (λ m n k h same besides. absurd (false≢true besides)))
    (chain-kept q qs look.1 none.1) (joined p q qs) (removed p q qs look none) (λ m n i g pair e. refl)

pub chain : (p : Contents) (qs : List Contents) → AllLookUp p qs → NoneChanges p qs → (levels m n : ℕ) → goes_on p qs m n ≡ true → (vs : List Numbered) → IsWritten (schema_of (parts_of p)) (λ m k. false) levels m vs
    → IsRead (schema_of (parts_of (last_of p qs))) levels n vs × AreCarried (schema_of (parts_of p)) (schema_of (parts_of (last_of p qs))) levels m n vs
chain p qs look none levels m n on vs w =
    law (schema_of (parts_of p)) (schema_of (parts_of (last_of p qs))) (goes_on p qs) (λ m k. false) (chain-kept p qs look none) levels m n on vs w
