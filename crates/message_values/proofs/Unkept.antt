-- What is lost where a new schema does not keep a field of an old one.
use Rattle.std.proofs.Common.{◌≡◌, ◌≢◌, ℕ, zero, suc, Bool, true, false, cond, eqb, ◌&&◌, ◌||◌, List, [], ◌∷◌, ◌++◌, Option, Some, None, option_and_then, inl, inr, refl, ap, sym, subst, ◌∙◌}
use Rattle.std.proofs.lemmas.Bool.{eq-eqb, eqb-true, false_from_ne_true, false≢true, ne_eqb, or_cases, or_from, or_left, or_right}
use Rattle.std.specs.List.{AllByRecursion}
use Rattle.message_values.specs.Values.{Value, Numbered}
use Rattle.message_values.specs.Schema.{Schema, Field, Cardinality, Optional, Required, Repeated}
use Rattle.message_values.specs.Fields.{Item, Taken, Refused, Unknown, Items, items_in, is_known, is_repeated, in_one, clears, taken, item_step, items_from, counted, value}
use Rattle.message_values.specs.Reading.{Fact, OfMessages, IsComplete}
use Rattle.message_values.specs.Writing.{Besides, IsValue, IsValueOf, occurs, IsWrittenOver, IsWritten}
use Rattle.message_values.specs.Carried.{AreCarried}
use Rattle.message_values.specs.Unkept.{OneofsAreOptional, IsWrittenWithin, HasItem, OtherValueIsLost, NewRequiredIsLost, NoMoreRepeatedIsLost, JoinedIsLost}
use Rattle.message_values.proofs.Items.{items-none}
use Rattle.message_values.proofs.Replaced.{without, StandsIn, items-append, value-behind, value-stays, replaced-written}

abbrev at : ℕ → Value → Numbered
at n v = record { number = n; value = v }

-- values with one number
abbrev numbered : ℕ → List Value → List Numbered
numbered i [] = []
numbered i (v ∷ vs) = at i v ∷ numbered i vs

-- ---- levels

over : (s : Schema) (besides : Besides) (levels m : ℕ) (vs : List Numbered) → IsWritten s besides levels m vs → IsWrittenOver (IsWrittenWithin s besides levels) s besides m vs
unfolding IsWritten
over s besides zero m vs w = w
over s besides (suc levels) m vs w = w

of-over : (s : Schema) (besides : Besides) (levels m : ℕ) (vs : List Numbered) → IsWrittenOver (IsWrittenWithin s besides levels) s besides m vs → IsWritten s besides levels m vs
unfolding IsWritten
of-over s besides zero m vs w = w
of-over s besides (suc levels) m vs w = w

carried-same : (old new : Schema) (levels m n : ℕ) (vs : List Numbered) → AreCarried old new levels m n vs → (i : ℕ) (f g : Field) → old.field m i ≡ Some f → new.field n i ≡ Some g
    → value old m i f vs ≡ counted f.cardinality (value new n i g vs)
unfolding AreCarried
carried-same old new zero m n vs carried = carried.same
carried-same old new (suc levels) m n vs carried = carried.same

has-required : (new : Schema) (levels n : ℕ) (vs : List Numbered) → IsComplete new levels n vs → (i : ℕ) (g : Field) → new.field n i ≡ Some g → g.cardinality ≡ Required → value new n i g vs ≢ []
unfolding IsComplete
has-required new zero n vs complete = complete.required
has-required new (suc levels) n vs complete = complete.required

-- ---- values of one number

occurs-is : (n i : ℕ) (vs : List Value) → occurs n (numbered i vs) ≡ true → n ≡ i
occurs-is n i [] h = absurd (false≢true h)
occurs-is n i (v ∷ vs) h = elim (or_cases (eqb i n) (occurs n (numbered i vs)) h) [ inl here ↦ sym (eqb-true i n here) | inr later ↦ occurs-is n i vs later ]

none-counted : (c : Cardinality) → counted c [] ≡ []
none-counted Optional = refl
none-counted Required = refl
none-counted Repeated = refl

pub one-counted : (c : Cardinality) (x : Item) → counted c (x ∷ []) ≡ x ∷ []
one-counted Optional x = refl
one-counted Required x = refl
one-counted Repeated x = refl

value-none : (s : Schema) (m n : ℕ) (f : Field) (vs : List Numbered) → occurs n vs ≡ false → value s m n f vs ≡ []
unfolding value
value-none s m n f vs none = ap (counted f.cardinality) (items-none s m n f vs none) ∙ none-counted f.cardinality

-- one more value of a number
step-own : (s : Schema) (m i : ℕ) (f : Field) (items : List Item) (v : Value) → item_step s m i f items (at i v) ≡ items ++ items_in (taken s f v)
step-own s m i f items v = ap (λ b. cond b (items ++ items_in (taken s f v)) (cond (clears s f (s.field m i) v) [] items)) (eq-eqb i i refl)

value-one : (s : Schema) (m i : ℕ) (f : Field) (v : Value) → value s m i f (numbered i (v ∷ [])) ≡ counted f.cardinality (items_in (taken s f v))
unfolding value
value-one s m i f v = ap (counted f.cardinality) (step-own s m i f [] v)

value-two : (s : Schema) (m i : ℕ) (f : Field) (v w : Value) → value s m i f (numbered i (v ∷ w ∷ [])) ≡ counted f.cardinality (items_in (taken s f v) ++ items_in (taken s f w))
unfolding value
value-two s m i f v w = ap (counted f.cardinality) (step-own s m i f (item_step s m i f [] (at i v)) w ∙ ap (λ items. items ++ items_in (taken s f w)) (step-own s m i f [] v))

-- ---- a field gets other values

-- the oneof of the field with a number
abbrev oneof_at : Schema → ℕ → ℕ → Option ℕ
oneof_at s m k = option_and_then (λ (g : Field). g.oneof) (s.field m k)

-- whether a number is that of a field, or of one that is in one oneof with it
abbrev gives_way : Schema → ℕ → ℕ → Field → ℕ → Bool
gives_way s m i f k = eqb k i || in_one f.oneof (oneof_at s m k)

in-one-none : (o : Option ℕ) → in_one o None ≡ true → ⊥
in-one-none (Some a) h = false≢true h
in-one-none None h = false≢true h

some-same : (o : Option Field) (f g : Field) → o ≡ Some f → o ≡ Some g → f ≡ g
some-same o f g p q = cc

all-numbered : (P : Numbered → Type 0) (i : ℕ) (vs : List Value) → AllByRecursion (λ v. P (at i v)) vs → AllByRecursion P (numbered i vs)
all-numbered P i [] all = tt
all-numbered P i (v ∷ vs) all = (all.0, all-numbered P i vs all.1)

module _ (inner : Fact) (s : Schema) (besides : Besides) (m i : ℕ) (f : Field) (there : s.field m i ≡ Some f) (optional : OneofsAreOptional s m) (vs : List Value) (are : AllByRecursion (IsValue s f) vs)
    (holds : OfMessages inner f.kind (value s m i f (numbered i vs))) (some : value s m i f (numbered i vs) ≢ []) where
  abbrev more : List Numbered
  more = numbered i vs

  own-field : (n : ℕ) (g : Field) → n ≡ i → s.field m n ≡ Some g → f ≡ g
  own-field n g same e = some-same (s.field m i) f g there (ap (s.field m) (sym same) ∙ e)

  needed : (n : ℕ) (g : Field) → s.field m n ≡ Some g → gives_way s m i f n ≡ true → g.cardinality ≡ Required → value s m n g more ≢ []
  needed n g e way req =
      elim (or_cases (eqb n i) (in_one f.oneof (oneof_at s m n)) way) [
        | inl here ↦
            let same = eqb-true n i here in
            subst (λ (k : ℕ). value s m k g more ≢ []) (sym same) (subst (λ (h : Field). value s m i h more ≢ []) (own-field n g same e) some)
        | inr one ↦ absurd (in-one-none f.oneof (ap (in_one f.oneof) (sym (ap (option_and_then (λ (h : Field). h.oneof)) e ∙ optional n g e req)) ∙ one))
      ]

  holds-by : (n : ℕ) (g : Field) (b : Bool) → eqb n i ≡ b → s.field m n ≡ Some g → OfMessages inner g.kind (value s m n g more)
  holds-by n g true here e =
      let same = eqb-true n i here in
      subst (λ (k : ℕ). OfMessages inner g.kind (value s m k g more)) (sym same) (subst (λ (h : Field). OfMessages inner h.kind (value s m i h more)) (own-field n g same e) holds)
  holds-by n g false other e =
      let none : occurs n more ≡ false = false_from_ne_true (occurs n more) (λ occ. false≢true (sym other ∙ eq-eqb n i (occurs-is n i vs occ))) in
      subst (OfMessages inner g.kind) (sym (value-none s m n g more none)) tt

  stands-in : StandsIn inner s besides m (gives_way s m i f) more
  stands-in = record {
    known = all-numbered (λ x. IsValueOf s (besides m x.number) (s.field m x.number) x.value) i vs (by vs are);
    inside = λ n occ. or_left (eqb n i) (in_one f.oneof (oneof_at s m n)) (eq-eqb n i (occurs-is n i vs occ));
    oneofs = λ n k g h e e' one a b. occurs-is n i vs a ∙ sym (occurs-is k i vs b);
    apart = λ n k g h e e' one a.
        let own = own-field n g (occurs-is n i vs a) e in
        or_right (eqb k i) (in_one f.oneof (oneof_at s m k)) (ap (in_one f.oneof) (ap (option_and_then (λ (x : Field). x.oneof)) e') ∙ ap (λ (x : Field). in_one x.oneof h.oneof) own ∙ one);
    required = needed;
    within = λ n g e way. holds-by n g (eqb n i) refl e;
  }
    where
      by : (ws : List Value) → AllByRecursion (IsValue s f) ws → AllByRecursion (λ v. IsValueOf s (besides m i) (s.field m i) v) ws
      by [] all = tt
      by (w ∷ ws) all = (subst (λ (o : Option Field). IsValueOf s (besides m i) o w) (sym there) all.0, by ws all.1)

-- a field gives way to its own values
own-way : (s : Schema) (m i : ℕ) (f : Field) → gives_way s m i f i ≡ true
own-way s m i f = or_left (eqb i i) (in_one f.oneof (oneof_at s m i)) (eq-eqb i i refl)

item-there : (x : Item) → x ∷ [] ≢ []
item-there x e = absurd cc

-- ---- one value of a field, of which it takes one item, in place of its values

module _ (old : Schema) (besides : Besides) (m i : ℕ) (f : Field) (e : old.field m i ≡ Some f) (optional : OneofsAreOptional old m) (v : Value) (x : Item) (is_value : IsValue old f v) (is_taken : taken old f v ≡ Items (x ∷ []))
    (levels : ℕ) (within : OfMessages (IsWrittenWithin old besides levels) f.kind (x ∷ [])) (vs : List Numbered) (w : IsWrittenOver (IsWrittenWithin old besides levels) old besides m vs) where
  abbrev pub one : List Numbered
  one = without (gives_way old m i f) vs ++ numbered i (v ∷ [])

  own-one : value old m i f (numbered i (v ∷ [])) ≡ x ∷ []
  own-one = value-one old m i f v ∙ ap (λ t. counted f.cardinality (items_in t)) is_taken ∙ one-counted f.cardinality x

  stands-one : StandsIn (IsWrittenWithin old besides levels) old besides m (gives_way old m i f) (numbered i (v ∷ []))
  stands-one =
      stands-in (IsWrittenWithin old besides levels) old besides m i f e optional (v ∷ []) (is_value, tt)
      (subst (OfMessages (IsWrittenWithin old besides levels) f.kind) (sym own-one) within) (λ empty. item-there x (sym own-one ∙ empty))

  one-written : IsWrittenOver (IsWrittenWithin old besides levels) old besides m one
  one-written = replaced-written (IsWrittenWithin old besides levels) old besides m vs w (gives_way old m i f) (numbered i (v ∷ [])) stands-one

  one-value : value old m i f one ≡ x ∷ []
  one-value = value-behind old m i f (gives_way old m i f) vs (numbered i (v ∷ [])) (own-way old m i f) ∙ own-one

  one-stays : (k : ℕ) (g : Field) → old.field m k ≡ Some g → gives_way old m i f k ≡ false → value old m k g one ≡ value old m k g vs
  one-stays k g there stays = value-stays (IsWrittenWithin old besides levels) old besides m vs w (gives_way old m i f) (numbered i (v ∷ [])) stands-one k g there stays

  -- the value that another schema reads
  one-read : (new : Schema) (n : ℕ) (g : Field) → value new n i g one ≡ counted g.cardinality (items_in (taken new g v))
  one-read new n g = value-behind new n i g (gives_way old m i f) vs (numbered i (v ∷ [])) (own-way old m i f) ∙ value-one new n i g v

-- the same of a whole message
module _ (old : Schema) (besides : Besides) (m i : ℕ) (f : Field) (e : old.field m i ≡ Some f) (optional : OneofsAreOptional old m) (levels : ℕ) (has : HasItem old besides levels f) (vs : List Numbered) (w : IsWritten old besides levels m vs) where
  abbrev given : List Numbered
  given = one old besides m i f e optional has.writes.value has.item has.writes.is_value has.writes.is_taken levels (has.within, tt) vs (over old besides levels m vs w)

  given-written : IsWritten old besides levels m given
  given-written = of-over old besides levels m given (one-written old besides m i f e optional has.writes.value has.item has.writes.is_value has.writes.is_taken levels (has.within, tt) vs (over old besides levels m vs w))

  given-value : value old m i f given ≡ has.item ∷ []
  given-value = one-value old besides m i f e optional has.writes.value has.item has.writes.is_value has.writes.is_taken levels (has.within, tt) vs (over old besides levels m vs w)

  given-stays : (k : ℕ) (g : Field) → old.field m k ≡ Some g → gives_way old m i f k ≡ false → value old m k g given ≡ value old m k g vs
  given-stays = one-stays old besides m i f e optional has.writes.value has.item has.writes.is_value has.writes.is_taken levels (has.within, tt) vs (over old besides levels m vs w)

  given-read : (new : Schema) (n : ℕ) (g : Field) → value new n i g given ≡ counted g.cardinality (items_in (taken new g has.writes.value))
  given-read = one-read old besides m i f e optional has.writes.value has.item has.writes.is_value has.writes.is_taken levels (has.within, tt) vs (over old besides levels m vs w)

pub other-value : OtherValueIsLost
other-value old new besides m n i f g e e' optional other levels within vs w =
    let has : HasItem old besides levels f = record { item = other.item; writes = record { value = other.value; is_value = other.is_value; is_taken = other.is_taken }; within = within } in
    let ws = given old besides m i f e optional levels has vs w in
    record {
      values = ws;
      written = given-written old besides m i f e optional levels has vs w;
      lost = λ read carried. other.is_other (
          sym (given-value old besides m i f e optional levels has vs w)
          ∙ carried-same old new levels m n ws carried i f g e e'
          ∙ ap (counted f.cardinality) (given-read old besides m i f e optional levels has vs w new n g));
    }

-- ---- required

pub new-required : NewRequiredIsLost
new-required old new besides m n i g e' req never levels vs w =
    let out : ℕ → Bool = λ k. eqb k i in
    let written = over old besides levels m vs w in
    let stands : StandsIn (IsWrittenWithin old besides levels) old besides m out [] = record {
      known = tt;
      inside = λ k occ. absurd (false≢true occ);
      oneofs = λ k l f h e e' one a b. absurd (false≢true a);
      apart = λ k l f h e e' one a. absurd (false≢true a);
      required = λ k f e is needs. absurd (never f (ap (old.field m) (sym (eqb-true k i is)) ∙ e) needs);
      within = λ k f e is. subst (OfMessages (IsWrittenWithin old besides levels) f.kind) (sym (value-none old m k f [] refl)) tt;
    } in
    record {
      values = without out vs ++ [];
      written = of-over old besides levels m (without out vs ++ []) (replaced-written (IsWrittenWithin old besides levels) old besides m vs written out [] stands);
      lost = λ read carried. has-required new levels n (without out vs ++ []) read.complete i g e' req (value-behind new n i g out vs [] (eq-eqb i i refl) ∙ value-none new n i g [] refl);
    }

-- ---- cardinality

all-counted : (c : Cardinality) (xs : List Item) → is_repeated c ≡ true → counted c xs ≡ xs
all-counted Repeated xs h = refl
all-counted Optional xs h = absurd (false≢true h)
all-counted Required xs h = absurd (false≢true h)

two-no-more : (c : Cardinality) (x y : Item) (xs : List Item) → is_repeated c ≡ false → x ∷ y ∷ [] ≡ counted c xs → ⊥
two-no-more Repeated x y xs h e = false≢true (sym h)
two-no-more Optional x y [] h e = absurd cc
two-no-more Optional x y (z ∷ zs) h e = absurd cc
two-no-more Required x y [] h e = absurd cc
two-no-more Required x y (z ∷ zs) h e = absurd cc

pub no-more-repeated : NoMoreRepeatedIsLost
no-more-repeated old new besides m n i f g e e' optional was is levels has vs w =
    let v = has.writes.value in
    let x = has.item in
    let inner = IsWrittenWithin old besides levels in
    let out = gives_way old m i f in
    let more = numbered i (v ∷ v ∷ []) in
    let own : value old m i f more ≡ x ∷ x ∷ [] =
    value-two old m i f v v ∙ all-counted f.cardinality (items_in (taken old f v) ++ items_in (taken old f v)) was ∙ ap (λ t. items_in t ++ items_in t) has.writes.is_taken in
    let stands = stands-in inner old besides m i f e optional (v ∷ v ∷ []) (has.writes.is_value, (has.writes.is_value, tt)) (subst (OfMessages inner f.kind) (sym own) (has.within, (has.within, tt)))
    (λ empty. let none : x ∷ x ∷ [] ≡ [] = sym own ∙ empty in absurd cc) in
    let ws = without out vs ++ more in
    record {
      values = ws;
      written = of-over old besides levels m ws (replaced-written inner old besides m vs (over old besides levels m vs w) out more stands);
      lost = λ read carried. two-no-more g.cardinality x x (items_in (taken new g v) ++ items_in (taken new g v)) is (
          sym (value-behind old m i f out vs more (own-way old m i f) ∙ own)
          ∙ carried-same old new levels m n ws carried i f g e e'
          ∙ all-counted f.cardinality (value new n i g ws) was
          ∙ value-behind new n i g out vs more (own-way old m i f)
          ∙ value-two new n i g v v);
    }

-- ---- oneofs

in-one-turned : (o p : Option ℕ) → in_one o p ≡ false → in_one p o ≡ false
in-one-turned (Some a) (Some b) h = ne_eqb b a (λ same. false≢true (sym h ∙ eq-eqb a b (sym same)))
in-one-turned (Some a) None h = refl
in-one-turned None (Some b) h = refl
in-one-turned None None h = refl

-- a value that another field takes clears the items before it
cleared : (s : Schema) (m i j : ℕ) (f g : Field) (items : List Item) (v : Value) → s.field m j ≡ Some g → eqb j i ≡ false → in_one f.oneof g.oneof ≡ true → is_known (taken s g v) ≡ true
    → item_step s m i f items (at j v) ≡ []
cleared s m i j f g items v e other one known =
    ap (λ b. cond b (items ++ items_in (taken s f v)) (cond (clears s f (s.field m j) v) [] items)) other
    ∙ ap (λ b. cond b [] items) (ap (λ o. clears s f o v) e ∙ ap (λ b. b && is_known (taken s g v)) one ∙ known)

none-behind : (s : Schema) (m i : ℕ) (f : Field) (front : List Numbered) (j : ℕ) (v : Value) → item_step s m i f (items_from s m i f [] front) (at j v) ≡ [] → value s m i f (front ++ numbered j (v ∷ [])) ≡ []
unfolding value
none-behind s m i f front j v none = ap (counted f.cardinality) (items-append s m i f [] front (numbered j (v ∷ [])) ∙ none) ∙ none-counted f.cardinality

-- a value is known, or nothing is taken of it
known-or-none : (t : Taken) → (is_known t ≡ true → ⊥) → (items_in t ≡ [] → ⊥) → ⊥
known-or-none (Items xs) known unknown = known refl
known-or-none Refused known unknown = unknown refl
known-or-none Unknown known unknown = unknown refl

pub joined : JoinedIsLost
joined old new besides m n i j f g f' g' e e' e-new e-new' optional apart was is levels has has' vs w =
    let out = gives_way old m j f' in
    let first = given old besides m i f e optional levels has vs w in
    let first-written = given-written old besides m i f e optional levels has vs w in
    let ws = given old besides m j f' e' optional levels has' first first-written in
    let stays : out i ≡ false = or_from (eqb i j) (in_one f'.oneof (oneof_at old m i)) (ne_eqb i j apart)
    (ap (in_one f'.oneof) (ap (option_and_then (λ (h : Field). h.oneof)) e) ∙ in-one-turned f.oneof f'.oneof was) in
    let own : value old m i f ws ≡ has.item ∷ [] = given-stays old besides m j f' e' optional levels has' first first-written i f e stays ∙ given-value old besides m i f e optional levels has vs w in
    let own' : value old m j f' ws ≡ has'.item ∷ [] = given-value old besides m j f' e' optional levels has' first first-written in
    let v = has'.writes.value in
    let read' : value new n j g' ws ≡ counted g'.cardinality (items_in (taken new g' v)) = given-read old besides m j f' e' optional levels has' first first-written new n g' in
    let front = without out first in
    record {
      values = ws;
      written = given-written old besides m j f' e' optional levels has' first first-written;
      lost = λ read carried. known-or-none (taken new g' v)
          (λ known. item-there has.item (
          sym own ∙ carried-same old new levels m n ws carried i f g e e-new
          ∙ ap (counted f.cardinality) (none-behind new n i g front j v (cleared new n i j g g' (items_from new n i g [] front) v e-new' (ne_eqb j i (λ same. apart (sym same))) is known))
          ∙ none-counted f.cardinality))
          (λ unknown. item-there has'.item (
          sym own' ∙ carried-same old new levels m n ws carried j f' g' e' e-new'
          ∙ ap (counted f'.cardinality) (read' ∙ ap (counted g'.cardinality) unknown ∙ none-counted g'.cardinality) ∙ none-counted f'.cardinality));
    }
