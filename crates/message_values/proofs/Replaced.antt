-- A message as it is written, in which some numbers have other values.
use Rattle.std.proofs.Common.{◌≡◌, ◌≢◌, ℕ, Bool, true, false, cond, eqb, ◌||◌, List, [], ◌∷◌, ◌++◌, Option, Some, None, inl, inr, refl, ap, sym, subst, ◌∙◌, append_assoc, append-nil}
use Rattle.std.proofs.lemmas.Bool.{and_left, eqb-false, eqb-true, false_from_ne_true, false≢true, or_cases, or_from, or_left, or_right}
use Rattle.std.proofs.lemmas.List.Folds.{list_any-append}
use Rattle.std.specs.List.{AllByRecursion}
use Rattle.message_values.specs.Values.{Numbered}
use Rattle.message_values.specs.Schema.{Schema, Field, Required}
use Rattle.message_values.specs.Fields.{Item, items_in, in_one, clears, taken, item_step, items_from, counted, value}
use Rattle.message_values.specs.Reading.{Fact, OfMessages}
use Rattle.message_values.specs.Writing.{Besides, IsValueOf, occurs, IsWrittenOver}
use Rattle.message_values.proofs.Lists.{all_map, all-append}
use Rattle.message_values.proofs.Items.{own_items, LeavesAlone, items-none, items-of-own, own-none, each-occurs}

-- numbered values but those of some numbers
abbrev pub without : (ℕ → Bool) → List Numbered → List Numbered
without out [] = []
without out (x ∷ xs) = cond (out x.number) (without out xs) (x ∷ without out xs)

-- what holds of all values holds of those that stay
all-stay : (P : Numbered → Type 0) (out : ℕ → Bool) (vs : List Numbered) → AllByRecursion P vs → AllByRecursion P (without out vs)
all-stay P out [] all = tt
all-stay P out (x ∷ xs) all = by (out x.number) (all-stay P out xs all.1)
  where
    by : (b : Bool) → AllByRecursion P (without out xs) → AllByRecursion P (cond b (without out xs) (x ∷ without out xs))
    by true rest = rest
    by false rest = (all.0, rest)

-- a number that is left out does not occur, and another one occurs where it did
pub gone : (out : ℕ → Bool) (n : ℕ) (vs : List Numbered) → out n ≡ true → occurs n (without out vs) ≡ false
gone out n [] is = refl
gone out n (x ∷ xs) is = by (out x.number) refl (gone out n xs is)
  where
    by : (b : Bool) → out x.number ≡ b → occurs n (without out xs) ≡ false → occurs n (cond b (without out xs) (x ∷ without out xs)) ≡ false
    by true e rest = rest
    by false e rest =
        or_from (eqb x.number n) (occurs n (without out xs))
        (false_from_ne_true (eqb x.number n) (λ same. false≢true (sym e ∙ ap out (eqb-true x.number n same) ∙ is))) rest

was-there : (out : ℕ → Bool) (n : ℕ) (vs : List Numbered) → occurs n (without out vs) ≡ true → occurs n vs ≡ true
was-there out n [] h = h
was-there out n (x ∷ xs) h = by (out x.number) (was-there out n xs) h
  where
    by : (b : Bool) → (occurs n (without out xs) ≡ true → occurs n xs ≡ true) → occurs n (cond b (without out xs) (x ∷ without out xs)) ≡ true → (eqb x.number n || occurs n xs) ≡ true
    by true rest k = or_right (eqb x.number n) (occurs n xs) (rest k)
    by false rest k =
        elim (or_cases (eqb x.number n) (occurs n (without out xs)) k) [
          | inl here ↦ or_left (eqb x.number n) (occurs n xs) here
          | inr later ↦ or_right (eqb x.number n) (occurs n xs) (rest later)
        ]

-- the own items of a field whose number stays
own-stay : (s : Schema) (out : ℕ → Bool) (n : ℕ) (f : Field) (vs : List Numbered) → out n ≡ false → own_items s n f (without out vs) ≡ own_items s n f vs
own-stay s out n f [] is = refl
own-stay s out n f (x ∷ xs) is = by (out x.number) refl (own-stay s out n f xs is)
  where
    by : (b : Bool) → out x.number ≡ b → own_items s n f (without out xs) ≡ own_items s n f xs
        → own_items s n f (cond b (without out xs) (x ∷ without out xs)) ≡ cond (eqb x.number n) (items_in (taken s f x.value)) [] ++ own_items s n f xs
    by true e rest =
        let other : eqb x.number n ≡ false = false_from_ne_true (eqb x.number n) (λ same. false≢true (sym is ∙ sym (ap out (eqb-true x.number n same)) ∙ e)) in
        rest ∙ ap (λ b. cond b (items_in (taken s f x.value)) [] ++ own_items s n f xs) (sym other)
    by false e rest = ap (λ ys. cond (eqb x.number n) (items_in (taken s f x.value)) [] ++ ys) rest

own-append : (s : Schema) (n : ℕ) (f : Field) (xs ys : List Numbered) → own_items s n f (xs ++ ys) ≡ own_items s n f xs ++ own_items s n f ys
own-append s n f [] ys = refl
own-append s n f (x ∷ xs) ys =
    let here = cond (eqb x.number n) (items_in (taken s f x.value)) [] in
    ap (λ zs. here ++ zs) (own-append s n f xs ys) ∙ sym (append_assoc here (own_items s n f xs) (own_items s n f ys))

-- items behind those of a front
pub items-append : (s : Schema) (m n : ℕ) (f : Field) (items : List Item) (xs ys : List Numbered) → items_from s m n f items (xs ++ ys) ≡ items_from s m n f (items_from s m n f items xs) ys
items-append s m n f items [] ys = refl
items-append s m n f items (x ∷ xs) ys = items-append s m n f (item_step s m n f items x) xs ys

-- the value of a field whose number is left out is that of the values behind
pub value-behind : (s : Schema) (m n : ℕ) (f : Field) (out : ℕ → Bool) (vs more : List Numbered) → out n ≡ true → value s m n f (without out vs ++ more) ≡ value s m n f more
unfolding value
value-behind s m n f out vs more is =
    ap (counted f.cardinality) (items-append s m n f [] (without out vs) more ∙ ap (λ (items : List Item). items_from s m n f items more) (items-none s m n f (without out vs) (gone out n vs is)))

-- of the fields of a oneof one occurs at most
abbrev pub OneOccurs : Schema → ℕ → List Numbered → Type 0
OneOccurs s m vs = (n k : ℕ) (f g : Field) → s.field m n ≡ Some f → s.field m k ≡ Some g → in_one f.oneof g.oneof ≡ true → occurs n vs ≡ true → occurs k vs ≡ true → n ≡ k

alone-at : (s : Schema) (m : ℕ) (vs : List Numbered) → OneOccurs s m vs → (k : ℕ) (f : Field) (x : Numbered) (o : Option Field) → s.field m k ≡ Some f → occurs k vs ≡ true → s.field m x.number ≡ o
    → occurs x.number vs ≡ true → eqb x.number k ≡ false → clears s f o x.value ≡ false
alone-at s m vs one k f x None e occ ex occx other = refl
alone-at s m vs one k f x (Some g) e occ ex occx other =
    and_left (in_one f.oneof g.oneof) _ (false_from_ne_true _ (λ both. eqb-false x.number k other (sym (one k x.number f g e ex both occ occx))))

value-own : (s : Schema) (m : ℕ) (vs : List Numbered) → OneOccurs s m vs → (k : ℕ) (f : Field) → s.field m k ≡ Some f → value s m k f vs ≡ counted f.cardinality (own_items s k f vs)
unfolding value
value-own s m vs one k f e =
    ap (counted f.cardinality) (items-of-own s m k f vs (λ occ.
    all_map _ (LeavesAlone s m k f) (λ x occx. alone-at s m vs one k f x (s.field m x.number) e occ refl occx) vs (each-occurs vs)))

in-one-turned : (o p : Option ℕ) → in_one o p ≡ true → in_one p o ≡ true
in-one-turned (Some a) (Some b) h = let same : a ≡ b = eqb-true a b h in subst (λ c. eqb b c ≡ true) (sym same) (subst (λ c. eqb c b ≡ true) same h)
in-one-turned None p h = absurd (false≢true h)
in-one-turned (Some a) None h = absurd (false≢true h)

-- values that stand in place of those of some numbers: each is a value of a field with such a number, and those with which it is in one oneof are left out
pub record StandsIn (inner : Fact) (s : Schema) (besides : Besides) (m : ℕ) (out : ℕ → Bool) (more : List Numbered) : Type 0 where
  pub known : AllByRecursion (λ x. IsValueOf s (besides m x.number) (s.field m x.number) x.value) more
  pub inside : (n : ℕ) → occurs n more ≡ true → out n ≡ true
  pub oneofs : OneOccurs s m more
  pub apart : (n k : ℕ) (f g : Field) → s.field m n ≡ Some f → s.field m k ≡ Some g → in_one f.oneof g.oneof ≡ true → occurs n more ≡ true → out k ≡ true
  pub required : (n : ℕ) (f : Field) → s.field m n ≡ Some f → out n ≡ true → f.cardinality ≡ Required → value s m n f more ≢ []
  pub within : (n : ℕ) (f : Field) → s.field m n ≡ Some f → out n ≡ true → OfMessages inner f.kind (value s m n f more)

module _ (inner : Fact) (s : Schema) (besides : Besides) (m : ℕ) (vs : List Numbered) (w : IsWrittenOver inner s besides m vs) (out : ℕ → Bool) (more : List Numbered) (stands : StandsIn inner s besides m out more) where
  abbrev pub replaced : List Numbered
  replaced = without out vs ++ more

  occurs-either : (n : ℕ) → occurs n replaced ≡ (occurs n (without out vs) || occurs n more)
  occurs-either n = list_any-append (λ (x : Numbered). eqb x.number n) (without out vs) more

  one-occurs : OneOccurs s m replaced
  one-occurs n k f g e e' one a b =
      elim (or_cases (occurs n (without out vs)) (occurs n more) (sym (occurs-either n) ∙ a)) [
        | inl old ↦ elim (or_cases (occurs k (without out vs)) (occurs k more) (sym (occurs-either k) ∙ b)) [
          | inl old' ↦ w.oneofs n k f g e e' one (was-there out n vs old) (was-there out k vs old')
          | inr new' ↦ absurd (false≢true (sym (gone out n vs (stands.apart k n g f e' e (in-one-turned f.oneof g.oneof one) new')) ∙ old))
        ]
        | inr new ↦ elim (or_cases (occurs k (without out vs)) (occurs k more) (sym (occurs-either k) ∙ b)) [
          | inl old' ↦ absurd (false≢true (sym (gone out k vs (stands.apart n k f g e e' one new)) ∙ old'))
          | inr new' ↦ stands.oneofs n k f g e e' one new new'
        ]
      ]

  -- the value of a field whose number stays is as it was
  pub value-stays : (n : ℕ) (f : Field) → s.field m n ≡ Some f → out n ≡ false → value s m n f replaced ≡ value s m n f vs
  value-stays n f e stays =
      let none : occurs n more ≡ false = false_from_ne_true (occurs n more) (λ there. false≢true (sym stays ∙ stands.inside n there)) in
      value-own s m replaced one-occurs n f e
      ∙ ap (counted f.cardinality) (own-append s n f (without out vs) more ∙ ap (λ xs. own_items s n f (without out vs) ++ xs) (own-none s n f more none) ∙ append-nil (own_items s n f (without out vs)) ∙ own-stay s out n f vs stays)
      ∙ sym (value-own s m vs w.oneofs n f e)

  required-by : (n : ℕ) (f : Field) (b : Bool) → out n ≡ b → s.field m n ≡ Some f → f.cardinality ≡ Required → value s m n f replaced ≢ []
  required-by n f true is e req empty = stands.required n f e is req (sym (value-behind s m n f out vs more is) ∙ empty)
  required-by n f false is e req empty = w.required n f e req (sym (value-stays n f e is) ∙ empty)

  within-by : (n : ℕ) (f : Field) (b : Bool) → out n ≡ b → s.field m n ≡ Some f → OfMessages inner f.kind (value s m n f replaced)
  within-by n f true is e = subst (OfMessages inner f.kind) (sym (value-behind s m n f out vs more is)) (stands.within n f e is)
  within-by n f false is e = subst (OfMessages inner f.kind) (sym (value-stays n f e is)) (w.within n f e)

  pub replaced-written : IsWrittenOver inner s besides m replaced
  replaced-written = record {
    known = all-append (λ x. IsValueOf s (besides m x.number) (s.field m x.number) x.value) (without out vs) more (all-stay (λ x. IsValueOf s (besides m x.number) (s.field m x.number) x.value) out vs w.known) stands.known;
    oneofs = one-occurs;
    required = λ n f e req. required-by n f (out n) refl e req;
    within = λ n f e. within-by n f (out n) refl e;
  }
