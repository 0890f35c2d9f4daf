-- One level of the law: what a message of an old schema has is taken by one that keeps it.
use Rattle.std.proofs.Common.{◌≡◌, ◌≢◌, ℕ, zero, suc, Bool, true, false, eqb, List, [], ◌∷◌, Option, Some, None, refl, ap, sym, subst, subst₂, ◌∙◌}
use Rattle.std.specs.List.{AllByRecursion}
use Rattle.std.proofs.lemmas.Bool.{eqb-true, eqb-false, eq-eqb, false≢true, and_left, or_from, false_from_ne_true}
use Rattle.message_values.specs.Values.{Value, Numbered}
use Rattle.message_values.specs.Schema.{Schema, Kind, Field, Cardinality, Optional, Required, Repeated}
use Rattle.message_values.specs.Numbers.{Coding, Form, form}
use Rattle.message_values.specs.Numbers as form
use Rattle.message_values.specs.Fields.{Item, Number, Bits, Text, Message, Taken, Items, items_in, is_repeated, in_one, clears, taken, items_from, merge_all, counted, value}
use Rattle.message_values.specs.Reading.{Fact, OfMessage, OfMessages, TakenWith, IsTaken, AreTaken, TooDeep, AreWellFormed, HasRequired, IsComplete, IsRead}
use Rattle.message_values.specs.Writing.{IsValue, Besides, IsValueOf, occurs, IsWrittenOver, IsWritten}
use Rattle.message_values.specs.Kept.{Pairs, KeepsForm, KeepsCardinality, KeepsField, KeepsMessage, KeepsAll}
use Rattle.message_values.specs.Carried.{FactOfBoth, OfBoth, Carries, NoLevel, AreCarried}
use Rattle.message_values.proofs.Lists.{all_map, all_both, all_of, all_own, all-left, all-right}
use Rattle.message_values.proofs.Taken.{BothTake, both_take}
use Rattle.message_values.proofs.Items.{own_items, LeavesAlone, items-of-own, items-none, own-same, each-occurs, own-parts, own-messages}
use Rattle.message_values.proofs.Parts.{Splits, OfItem, counted-parts, HoldsMessages}

-- ---- kinds

lift : (P Q : List Numbered → Type 0) → ((vs : List Numbered) → P vs → Q vs) → (x : Item) → OfItem P x → OfItem Q x
lift P Q f (Message vs) h = f vs h
lift P Q f (Number n) h = tt
lift P Q f (Bits n) h = tt
lift P Q f (Text t) h = tt

-- a form of messages with an index
record AtMessage (F : Form) (a : ℕ) : Type 1 where
  to : (P : Fact) (x : Item) → OfItem (P a) x → OfMessage P F x
  from : (P : Fact) (x : Item) → OfMessage P F x → OfItem (P a) x

at-message : (a : ℕ) → AtMessage (form.Message a) a
at-message a = record {
  to = λ P. elim [ Message vs ↦ λ h. h | Number n ↦ λ h. h | Bits n ↦ λ h. h | Text t ↦ λ h. h ];
  from = λ P. elim [ Message vs ↦ λ h. h | Number n ↦ λ h. h | Bits n ↦ λ h. h | Text t ↦ λ h. h ];
}

at-group : (a : ℕ) → AtMessage (form.Group a) a
at-group a = record {
  to = λ P. elim [ Message vs ↦ λ h. h | Number n ↦ λ h. h | Bits n ↦ λ h. h | Text t ↦ λ h. h ];
  from = λ P. elim [ Message vs ↦ λ h. h | Number n ↦ λ h. h | Bits n ↦ λ h. h | Text t ↦ λ h. h ];
}

-- the messages of an old and of a new form
record Pair (pairs : Pairs) (F G : Form) : Type 1 where
  a : ℕ
  b : ℕ
  pair : pairs a b ≡ true
  old : AtMessage F a
  new : AtMessage G b
  both : (B : FactOfBoth) (x : Item) → OfItem (B a b) x → OfBoth B F G x
  holds : HoldsMessages F

-- forms that have no messages
record Bare (F G : Form) : Type 1 where
  new : (P : Fact) (x : Item) → OfMessage P G x
  both : (B : FactOfBoth) (x : Item) → OfBoth B F G x

data Link (pairs : Pairs) (F G : Form) : Type 1 where
  IsBare : Bare F G → Link pairs F G
  IsPair : Pair pairs F G → Link pairs F G

linked : (pairs : Pairs) (s t : Schema) (k l : Kind) (F G : Form) → KeepsForm pairs s k F t l G → Link pairs F G
linked pairs s t k l (form.Number c) (form.Number d) h = IsBare (record { new = λ P x. tt; both = λ B x. tt })
linked pairs s t k l form.Text form.Text h = IsBare (record { new = λ P x. tt; both = λ B x. tt })
linked pairs s t k l (form.Message a) (form.Message b) h =
    IsPair (record { a = a; b = b; pair = h; old = at-message a; new = at-message b; both = λ B. elim [ Message vs ↦ λ h. h | Number n ↦ λ h. h | Bits n ↦ λ h. h | Text t ↦ λ h. h ]; holds = tt })
linked pairs s t k l (form.Group a) (form.Group b) h =
    IsPair (record { a = a; b = b; pair = h; old = at-group a; new = at-group b; both = λ B. elim [ Message vs ↦ λ h. h | Number n ↦ λ h. h | Bits n ↦ λ h. h | Text t ↦ λ h. h ]; holds = tt })
linked pairs s t k l _ _ h = absurd h

-- ---- cardinalities

card-kept : (F : Form) (c d : Cardinality) → KeepsCardinality F c d → is_repeated c ≡ true → is_repeated d ≡ true
card-kept (form.Message m) c d h e = sym h ∙ e
card-kept (form.Group m) c d h e = sym h ∙ e
card-kept (form.Number k) c d h e = h e
card-kept form.Text c d h e = h e

card-equal : (F : Form) (c d : Cardinality) → HoldsMessages F → KeepsCardinality F c d → is_repeated c ≡ is_repeated d
card-equal (form.Message m) c d a h = h
card-equal (form.Group m) c d a h = h
card-equal (form.Number k) c d a h = absurd a
card-equal form.Text c d a h = absurd a

single-again : (d : Cardinality) (x : Item) (xs : List Item) → counted Optional (counted d (x ∷ xs)) ≡ merge_all x xs ∷ []
single-again Repeated x xs = refl
single-again Optional x xs = refl
single-again Required x xs = refl

none-again : (d : Cardinality) → counted d [] ≡ []
none-again Repeated = refl
none-again Optional = refl
none-again Required = refl

counted-again : (c d : Cardinality) → (is_repeated c ≡ true → is_repeated d ≡ true) → (xs : List Item) → counted c xs ≡ counted c (counted d xs)
counted-again Repeated Repeated h xs = refl
counted-again Repeated Optional h xs = absurd (false≢true (h refl))
counted-again Repeated Required h xs = absurd (false≢true (h refl))
counted-again Optional d h [] = sym (ap (counted Optional) (none-again d))
counted-again Optional d h (x ∷ xs) = sym (single-again d x xs)
counted-again Required Repeated h xs = refl
counted-again Required Optional h [] = refl
counted-again Required Optional h (x ∷ xs) = refl
counted-again Required Required h [] = refl
counted-again Required Required h (x ∷ xs) = refl

counted-equal : (c d : Cardinality) → is_repeated c ≡ is_repeated d → (xs : List Item) → counted c xs ≡ counted d xs
counted-equal Repeated Repeated h xs = refl
counted-equal Repeated Optional h xs = absurd (false≢true (sym h))
counted-equal Repeated Required h xs = absurd (false≢true (sym h))
counted-equal Optional Repeated h xs = absurd (false≢true h)
counted-equal Required Repeated h xs = absurd (false≢true h)
counted-equal Optional Optional h xs = refl
counted-equal Required Required h xs = refl
counted-equal Optional Required h [] = refl
counted-equal Optional Required h (x ∷ xs) = refl
counted-equal Required Optional h [] = refl
counted-equal Required Optional h (x ∷ xs) = refl

-- ---- fields

value-known : (s : Schema) (b : Bool) (o : Option Field) (f : Field) (v : Value) → o ≡ Some f → IsValueOf s b o v → IsValue s f v
value-known s b o f v e h = subst (λ (p : Option Field). IsValueOf s b p v) e h

value-some : (s : Schema) (b : Bool) (o : Option Field) (v : Value) → b ≡ false → IsValueOf s b o v → (f : Field) × (o ≡ Some f)
value-some s b (Some f) v e h = (f, refl)
value-some s b None v e h = absurd (false≢true (sym e ∙ h))

some-same : (o : Option Field) (f g : Field) → o ≡ Some f → o ≡ Some g → f ≡ g
some-same o f g p q = cc

same_number : (s : Schema) (m a b : ℕ) (f : Field) → eqb a b ≡ true → s.field m b ≡ Some f → s.field m a ≡ Some f
same_number s m a b f e h = ap (s.field m) (eqb-true a b e) ∙ h

-- a number that no field has does not occur, unless it may besides
never : (s : Schema) (besides : Besides) (m k : ℕ) (vs : List Numbered) → s.field m k ≡ None → besides m k ≡ false → AllByRecursion (λ x. IsValueOf s (besides m x.number) (s.field m x.number) x.value) vs → occurs k vs ≡ false
never s besides m k [] e free h = refl
never s besides m k (x ∷ xs) e free h =
    or_from (eqb x.number k) (occurs k xs)
    (false_from_ne_true _ (λ same. let here : x.number ≡ k = eqb-true x.number k same in let o : s.field m x.number ≡ None = ap (s.field m) here ∙ e in
    let p = value-some s (besides m x.number) (s.field m x.number) x.value (ap (besides m) here ∙ free) h.0 in absurd cc))
    (never s besides m k xs e free h.1)

from-taken : (F : Fact) (k : Kind) (t : Taken) (xs : List Item) → t ≡ Items xs → OfMessages F k xs → TakenWith F k t
from-taken F k t xs e h = subst (TakenWith F k) (sym e) h

-- what is known of a message that is written, and of the message that keeps it
module _ (pairs : Pairs) (besides : Besides) (old new : Schema) (m n : ℕ) (keeps : KeepsMessage pairs besides old new m n) (inner : Fact) (vs : List Numbered) (w : IsWrittenOver inner old besides m vs) where
  known-occurs : AllByRecursion (λ x. IsValueOf old (besides m x.number) (old.field m x.number) x.value × (occurs x.number vs ≡ true)) vs
  known-occurs = all_both (λ x. IsValueOf old (besides m x.number) (old.field m x.number) x.value) (λ x. occurs x.number vs ≡ true) vs w.known (each-occurs vs)

  old-alone-at : (k : ℕ) (f : Field) (x : Numbered) (o : Option Field) → old.field m k ≡ Some f → occurs k vs ≡ true → old.field m x.number ≡ o → occurs x.number vs ≡ true
      → eqb x.number k ≡ false → clears old f o x.value ≡ false
  old-alone-at k f x None e occ ex occx other = refl
  old-alone-at k f x (Some g) e occ ex occx other =
      and_left (in_one f.oneof g.oneof) _ (false_from_ne_true _ (λ one. eqb-false x.number k other (sym (w.oneofs k x.number f g e ex one occ occx))))

  old-alone : (k : ℕ) (f : Field) → old.field m k ≡ Some f → occurs k vs ≡ true → AllByRecursion (LeavesAlone old m k f) vs
  old-alone k f e occ = all_map _ (LeavesAlone old m k f) (λ x h. old-alone-at k f x (old.field m x.number) e occ refl h.1) vs known-occurs

  new-alone-at : (k : ℕ) (f g : Field) (x : Numbered) (o : Option Field) → old.field m k ≡ Some f → new.field n k ≡ Some g → occurs k vs ≡ true → new.field n x.number ≡ o
      → IsValueOf old (besides m x.number) (old.field m x.number) x.value → occurs x.number vs ≡ true → eqb x.number k ≡ false → clears new g o x.value ≡ false
  new-alone-at k f g x None e eg occ ex known occx other = refl
  new-alone-at k f g x (Some g') e eg occ ex known occx other =
      let p = value-some old (besides m x.number) (old.field m x.number) x.value (keeps.left_out x.number g' ex) known in
      let apart : k ≢ x.number = λ same. eqb-false x.number k other (sym same) in
      and_left (in_one g.oneof g'.oneof) _
      (false_from_ne_true _ (λ one. apart (w.oneofs k x.number f p.0 e p.1 (keeps.oneofs k x.number f p.0 g g' e p.1 eg ex apart one) occ occx)))

  new-alone : (k : ℕ) (f g : Field) → old.field m k ≡ Some f → new.field n k ≡ Some g → occurs k vs ≡ true → AllByRecursion (LeavesAlone new n k g) vs
  new-alone k f g e eg occ = all_map _ (LeavesAlone new n k g) (λ x h. new-alone-at k f g x (new.field n x.number) e eg occ refl h.0 h.1) vs known-occurs

  take-both : (k : ℕ) (f g : Field) → old.field m k ≡ Some f → new.field n k ≡ Some g → (x : Numbered) → IsValueOf old (besides m x.number) (old.field m x.number) x.value → eqb x.number k ≡ true
      → BothTake (taken old f x.value) (taken new g x.value)
  take-both k f g e eg x known here = both_take pairs old new f g x.value (keeps.fields k f g e eg) (value-known old (besides m x.number) (old.field m x.number) f x.value (same_number old m x.number k f here e) known)

  items-same : (k : ℕ) (f g : Field) → old.field m k ≡ Some f → new.field n k ≡ Some g → items_from old m k f [] vs ≡ items_from new n k g [] vs
  items-same k f g e eg =
      items-of-own old m k f vs (old-alone k f e)
      ∙ own-same old new k f g vs (all_map _ (λ x. eqb x.number k ≡ true → items_in (taken old f x.value) ≡ items_in (taken new g x.value))
      (λ x known here. let b = take-both k f g e eg x known here in ap items_in b.1 ∙ sym (ap items_in b.2)) vs w.known)
      ∙ sym (items-of-own new n k g vs (new-alone k f g e eg))

  value-same : (k : ℕ) (f g : Field) → old.field m k ≡ Some f → new.field n k ≡ Some g → value old m k f vs ≡ counted f.cardinality (value new n k g vs)
  unfolding value
  value-same k f g e eg =
      ap (counted f.cardinality) (items-same k f g e eg)
      ∙ counted-again f.cardinality g.cardinality (card-kept (form f.kind) f.cardinality g.cardinality (keeps.fields k f g e eg).cardinality) (items_from new n k g [] vs)

  value-equal : (k : ℕ) (f g : Field) → old.field m k ≡ Some f → new.field n k ≡ Some g → HoldsMessages (form f.kind) → value old m k f vs ≡ value new n k g vs
  unfolding value
  value-equal k f g e eg holds =
      ap (counted f.cardinality) (items-same k f g e eg)
      ∙ counted-equal f.cardinality g.cardinality (card-equal (form f.kind) f.cardinality g.cardinality holds (keeps.fields k f g e eg).cardinality) (items_from new n k g [] vs)

  value-none : (k : ℕ) (g : Field) → old.field m k ≡ None → new.field n k ≡ Some g → value new n k g vs ≡ []
  unfolding value
  value-none k g e eg = ap (counted g.cardinality) (items-none new n k g vs (never old besides m k vs e (keeps.left_out k g eg) w.known)) ∙ none-again g.cardinality

  link : (k : ℕ) (f g : Field) → old.field m k ≡ Some f → new.field n k ≡ Some g → Link pairs (form f.kind) (form g.kind)
  link k f g e eg = linked pairs old new f.kind g.kind (form f.kind) (form g.kind) (keeps.fields k f g e eg).kind

  -- the messages that are items of an old field, by a fact of them
  old-messages : (k : ℕ) (f : Field) (a : ℕ) (P : List Numbered → Type 0) → old.field m k ≡ Some f → AtMessage (form f.kind) a → ((c : List Numbered) → inner a c → P c) → AllByRecursion (OfItem P) (value old m k f vs)
  old-messages k f a P e at fact = all_map (OfMessage inner (form f.kind)) (OfItem P) (λ x h. lift (inner a) P fact x (at.from inner x h)) (value old m k f vs) (w.within k f e)

  -- the same of each message that merges
  old-parts : (k : ℕ) (f : Field) (a : ℕ) (P : List Numbered → Type 0) → old.field m k ≡ Some f → AtMessage (form f.kind) a → HoldsMessages (form f.kind) → Splits P → ((c : List Numbered) → inner a c → P c)
      → AllByRecursion (λ x. eqb x.number k ≡ true → AllByRecursion (OfItem P) (items_in (taken old f x.value))) vs
  unfolding value
  old-parts k f a P e at holds splits fact =
      let own : items_from old m k f [] vs ≡ own_items old k f vs = items-of-own old m k f vs (old-alone k f e) in
      let all : AllByRecursion (OfItem P) (counted f.cardinality (own_items old k f vs)) = subst (λ (xs : List Item). AllByRecursion (OfItem P) (counted f.cardinality xs)) own (old-messages k f a P e at fact) in
      own-parts (OfItem P) old k f vs (counted-parts P splits f.cardinality (own_items old k f vs) (own-messages old k f vs holds) all)

  module _ (W C : Fact) (B : FactOfBoth) (splits : (b : ℕ) → Splits (W b)) (ih : (a b : ℕ) (c : List Numbered) → pairs a b ≡ true → inner a c → W b c × C b c × B a b c) where
    -- the values of a field with a number are taken
    taken-at : (k : ℕ) (o p : Option Field) → old.field m k ≡ o → new.field n k ≡ p → AllByRecursion (λ x. eqb x.number k ≡ true → IsTaken W new p x) vs
    taken-at k o None e eg = all_of (λ x. eqb x.number k ≡ true → IsTaken W new None x) (λ x here. tt) vs
    taken-at k None (Some g) e eg =
        all_map (λ x. IsValueOf old (besides m x.number) (old.field m x.number) x.value) (λ x. eqb x.number k ≡ true → IsTaken W new (Some g) x)
        (λ x known here. let none : old.field m x.number ≡ None = ap (old.field m) (eqb-true x.number k here) ∙ e in let p = value-some old (besides m x.number) (old.field m x.number) x.value (ap (besides m) (eqb-true x.number k here) ∙ keeps.left_out k g eg) known in absurd cc) vs w.known
    taken-at k (Some f) (Some g) e eg =
        elim (link k f g e eg) [
          | IsBare bare ↦ all_map (λ x. IsValueOf old (besides m x.number) (old.field m x.number) x.value) (λ x. eqb x.number k ≡ true → IsTaken W new (Some g) x)
              (λ x known here. let b = take-both k f g e eg x known here in from-taken W g.kind (taken new g x.value) b.0 b.2 (all_of (OfMessage W (form g.kind)) (bare.new W) b.0)) vs w.known
          | IsPair p ↦ all_map (λ x. IsValueOf old (besides m x.number) (old.field m x.number) x.value × (eqb x.number k ≡ true → AllByRecursion (OfItem (W p.b)) (items_in (taken old f x.value)))) (λ x. eqb x.number k ≡ true → IsTaken W new (Some g) x)
              (λ x h here. let b = take-both k f g e eg x h.0 here in
              let parts : AllByRecursion (OfItem (W p.b)) b.0 = subst (λ (t : Taken). AllByRecursion (OfItem (W p.b)) (items_in t)) b.1 (h.1 here) in
              from-taken W g.kind (taken new g x.value) b.0 b.2 (all_map (OfItem (W p.b)) (OfMessage W (form g.kind)) (p.new.to W) b.0 parts))
              vs (all_both _ _ vs w.known (old-parts k f p.a (W p.b) e p.old p.holds (splits p.b) (λ c h. (ih p.a p.b c p.pair h).0)))
        ]

    are-taken : AreTaken W new n vs
    are-taken =
        all_map (λ x. eqb x.number x.number ≡ true → IsTaken W new (new.field n x.number) x) (λ x. IsTaken W new (new.field n x.number) x) (λ x h. h (eq-eqb x.number x.number refl)) vs
        (all_own (λ k x. eqb x.number k ≡ true → IsTaken W new (new.field n k) x) (λ x. x.number) vs (λ k. taken-at k (old.field m k) (new.field n k) refl refl))

    required : (k : ℕ) (g : Field) → new.field n k ≡ Some g → g.cardinality ≡ Required → value new n k g vs ≢ []
    required k g eg req empty =
        let p = keeps.required k g eg req in
        w.required k p.0 p.1 p.2 (value-same k p.0 g p.1 eg ∙ ap (counted (p.0).cardinality) empty ∙ none-again (p.0).cardinality)

    within-at : (k : ℕ) (g : Field) (o : Option Field) → new.field n k ≡ Some g → old.field m k ≡ o → OfMessages C g.kind (value new n k g vs)
    within-at k g None eg e = subst (OfMessages C g.kind) (sym (value-none k g e eg)) tt
    within-at k g (Some f) eg e =
        elim (link k f g e eg) [
          | IsBare bare ↦ all_of (OfMessage C (form g.kind)) (bare.new C) (value new n k g vs)
          | IsPair p ↦ subst (OfMessages C g.kind) (value-equal k f g e eg p.holds)
              (all_map (OfItem (C p.b)) (OfMessage C (form g.kind)) (p.new.to C) (value old m k f vs) (old-messages k f p.a (C p.b) e p.old (λ c h. (ih p.a p.b c p.pair h).1)))
        ]

    has-required : HasRequired C new n vs
    has-required = record { required = required; within = λ k g eg. within-at k g (old.field m k) eg refl }

    carried-within : (k : ℕ) (f g : Field) → old.field m k ≡ Some f → new.field n k ≡ Some g → AllByRecursion (OfBoth B (form f.kind) (form g.kind)) (value old m k f vs)
    carried-within k f g e eg =
        elim (link k f g e eg) [
          | IsBare bare ↦ all_of (OfBoth B (form f.kind) (form g.kind)) (bare.both B) (value old m k f vs)
          | IsPair p ↦ all_map (OfItem (B p.a p.b)) (OfBoth B (form f.kind) (form g.kind)) (p.both B) (value old m k f vs) (old-messages k f p.a (B p.a p.b) e p.old (λ c h. (ih p.a p.b c p.pair h).2))
        ]

    carries : Carries B old new m n vs
    carries = record { same = value-same; within = carried-within; missing = value-none }

    step : AreTaken W new n vs × HasRequired C new n vs × Carries B old new m n vs
    step = (are-taken, has-required, carries)

-- ---- all levels

splits-taken : (inner : Fact) (s : Schema) (m : ℕ) → Splits (AreTaken inner s m)
splits-taken inner s m vs ws h = (all-left (λ x. IsTaken inner s (s.field m x.number) x) vs ws h, all-right (λ x. IsTaken inner s (s.field m x.number) x) vs ws h)

splits-well_formed : (s : Schema) (levels m : ℕ) → Splits (AreWellFormed s levels m)
unfolding AreWellFormed
splits-well_formed s zero m = splits-taken TooDeep s m
splits-well_formed s (suc levels) m = splits-taken (AreWellFormed s levels) s m

all-levels : (old new : Schema) (pairs : Pairs) (besides : Besides) → KeepsAll pairs besides old new → (levels m n : ℕ) → pairs m n ≡ true → (vs : List Numbered) → IsWritten old besides levels m vs
    → AreWellFormed new levels n vs × IsComplete new levels n vs × AreCarried old new levels m n vs
unfolding IsWritten AreWellFormed IsComplete AreCarried
all-levels old new pairs besides keeps zero m n pair vs w =
    step pairs besides old new m n (keeps m n pair) TooDeep vs w TooDeep TooDeep NoLevel (λ b vs ws h. absurd h) (λ a b c p h. absurd h)
all-levels old new pairs besides keeps (suc levels) m n pair vs w =
    step pairs besides old new m n (keeps m n pair) (IsWritten old besides levels) vs w (AreWellFormed new levels) (IsComplete new levels) (AreCarried old new levels) (splits-well_formed new levels) (λ a b c p h. all-levels old new pairs besides keeps levels a b p c h)

pub law : (old new : Schema) (pairs : Pairs) (besides : Besides) → KeepsAll pairs besides old new → (levels m n : ℕ) → pairs m n ≡ true → (vs : List Numbered) → IsWritten old besides levels m vs
    → IsRead new levels n vs × AreCarried old new levels m n vs
law old new pairs besides keeps levels m n pair vs w =
    let p = all-levels old new pairs besides keeps levels m n pair vs w in
    (record { well_formed = p.0; complete = p.1 }, p.2)

-- ---- a schema keeps itself

keeps-own-form : (s : Schema) (k : Kind) (F : Form) → KeepsForm eqb s k F s k F
keeps-own-form s k (form.Number c) = (refl, λ x h. h)
keeps-own-form s k form.Text = λ bytes h. h
keeps-own-form s k (form.Message m) = eq-eqb m m refl
keeps-own-form s k (form.Group m) = eq-eqb m m refl

keeps-own-cardinality : (F : Form) (c : Cardinality) → KeepsCardinality F c c
keeps-own-cardinality (form.Number k) c = λ h. h
keeps-own-cardinality form.Text c = λ h. h
keeps-own-cardinality (form.Message m) c = refl
keeps-own-cardinality (form.Group m) c = refl

keeps-same : (s : Schema) (f g : Field) → f ≡ g → KeepsField eqb s s f g
keeps-same s f g e = subst (KeepsField eqb s s f) e (record { kind = keeps-own-form s f.kind (form f.kind); cardinality = keeps-own-cardinality (form f.kind) f.cardinality })

keeps-itself : (s : Schema) (m : ℕ) → KeepsMessage eqb (λ m k. false) s s m m
keeps-itself s m = record {
  fields = λ k f g e eg. keeps-same s f g (some-same (s.field m k) f g e eg);
  required = λ k g e r. (g, e, r);
  oneofs = λ k l f f' g g' e e' eg eg' apart one. subst₂ (λ (a b : Field). in_one a.oneof b.oneof ≡ true) (some-same (s.field m k) g f eg e) (some-same (s.field m l) g' f' eg' e') one;
  left_out = λ k g e. refl;
}

pub keeps-all-own : (s : Schema) → KeepsAll eqb (λ m k. false) s s
keeps-all-own s m n pair = subst (λ (x : ℕ). KeepsMessage eqb (λ m k. false) s s m x) (eqb-true m n pair) (keeps-itself s m)

pub own : (s : Schema) (levels m : ℕ) (vs : List Numbered) → IsWritten s (λ m k. false) levels m vs → IsRead s levels m vs
own s levels m vs w = (law s s eqb (λ m k. false) (keeps-all-own s) levels m m (eq-eqb m m refl) vs w).0
