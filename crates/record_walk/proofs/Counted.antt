-- The counts of declarations, of two lists in a row.
use Rattle.std.proofs.Common.{◌≡◌, ℕ, ◌+◌, Bool, true, false, ◌&&◌, Option, Some, None, List, [], ◌∷◌, ◌++◌, length, take, get_or, ◌<◌, zero, suc, cond, refl, ap, sym, ◌∙◌, arith}
use Rattle.std.proofs.lemmas.List.{take_more}
use Rattle.std.specs.List.{list_all}
use Rattle.record_walk.specs.declared.counts.Counts.{Counts}
use Rattle.record_walk.specs.Protos.{Proto, of_file, of_message, of_field, of_oneof, of_service, of_method, of_enum, of_value, of_extension}
use Rattle.record_walk.specs.Shown.{Shown}
use Rattle.record_walk.specs.Counts.{no_counts, counted, counting, plus, lists_fit}
use Rattle.record_walk.specs.Totals.{tally}

pub counted-append : (c : Counts) (ds es : List Shown) → counted c (ds ++ es) ≡ counted (counted c ds) es
counted-append c [] es = refl
counted-append c (d ∷ ds) es = counted-append (counting c d.proto) ds es

-- equal parts make equal counts
pub counts_are : (a b : Counts) → a.files ≡ b.files → a.messages ≡ b.messages → a.enums ≡ b.enums → a.services ≡ b.services → a.extensions ≡ b.extensions → a ≡ b
counts_are a b f m e s x = λ i. record { files = f i; messages = m i; enums = e i; services = s i; extensions = x i }

pub plus-assoc : (a b c : Counts) → plus (plus a b) c ≡ plus a (plus b c)
plus-assoc a b c = counts_are _ _ (omega arith) (omega arith) (omega arith) (omega arith) (omega arith)

pub plus-comm : (a b : Counts) → plus a b ≡ plus b a
plus-comm a b = counts_are _ _ (omega arith) (omega arith) (omega arith) (omega arith) (omega arith)

pub plus-nothing : (c : Counts) → plus no_counts c ≡ c
plus-nothing c = counts_are _ _ (omega arith) (omega arith) (omega arith) (omega arith) (omega arith)

-- one more, as a sum
counting-plus : (c : Counts) (p : Proto) → counting c p ≡ plus c (counting no_counts p)
counting-plus c (of_file f) = counts_are _ _ (omega arith) (omega arith) (omega arith) (omega arith) (omega arith)
counting-plus c (of_message m) = counts_are _ _ (omega arith) (omega arith) (omega arith) (omega arith) (omega arith)
counting-plus c (of_enum e) = counts_are _ _ (omega arith) (omega arith) (omega arith) (omega arith) (omega arith)
counting-plus c (of_service s) = counts_are _ _ (omega arith) (omega arith) (omega arith) (omega arith) (omega arith)
counting-plus c (of_extension x) = counts_are _ _ (omega arith) (omega arith) (omega arith) (omega arith) (omega arith)
counting-plus c (of_field f) = counts_are _ _ (omega arith) (omega arith) (omega arith) (omega arith) (omega arith)
counting-plus c (of_oneof o) = counts_are _ _ (omega arith) (omega arith) (omega arith) (omega arith) (omega arith)
counting-plus c (of_method m) = counts_are _ _ (omega arith) (omega arith) (omega arith) (omega arith) (omega arith)
counting-plus c (of_value v) = counts_are _ _ (omega arith) (omega arith) (omega arith) (omega arith) (omega arith)

pub counted-plus : (c : Counts) (ds : List Shown) → counted c ds ≡ plus c (counted no_counts ds)
counted-plus c [] = sym (plus-comm c no_counts ∙ plus-nothing c)
counted-plus c (d ∷ ds) =
    counted-plus (counting c d.proto) ds
    ∙ ap (λ e. plus e (counted no_counts ds)) (counting-plus c d.proto)
    ∙ plus-assoc c (counting no_counts d.proto) (counted no_counts ds)
    ∙ ap (plus c) (sym (counted-plus (counting no_counts d.proto) ds))

-- the sum of two counts, where both are there
abbrev pub both : Option Counts → Option Counts → Option Counts
both (Some a) (Some b) = Some (plus a b)
both (Some _) None = None
both None _ = None

pub both-nothing : (x : Option Counts) → both (Some no_counts) x ≡ x
both-nothing (Some c) = ap Some (plus-nothing c)
both-nothing None = refl

pub both-assoc : (x y z : Option Counts) → both (both x y) z ≡ both x (both y z)
both-assoc (Some a) (Some b) (Some c) = ap Some (plus-assoc a b c)
both-assoc (Some a) (Some b) None = refl
both-assoc (Some a) None z = refl
both-assoc None y z = refl

pub both-comm : (x y : Option Counts) → both x y ≡ both y x
both-comm (Some a) (Some b) = ap Some (plus-comm a b)
both-comm (Some a) None = refl
both-comm None (Some b) = refl
both-comm None None = refl

abbrev each_fits : List Shown → Bool
each_fits ds = list_all (λ d. lists_fit d.proto) ds

fits-append : (xs ys : List Shown) → each_fits (xs ++ ys) ≡ (each_fits xs && each_fits ys)
fits-append [] ys = refl
fits-append (x ∷ xs) ys = elim (lists_fit x.proto) as (λ b. (b && each_fits (xs ++ ys)) ≡ ((b && each_fits xs) && each_fits ys))
    [ true ↦ fits-append xs ys | false ↦ refl ]

both-cond : (p q : Bool) (a b : Counts) → cond (p && q) (Some (plus a b)) None ≡ both (cond p (Some a) None) (cond q (Some b) None)
both-cond true true a b = refl
both-cond true false a b = refl
both-cond false q a b = refl

pub tally-append : (xs ys : List Shown) → tally (xs ++ ys) ≡ both (tally xs) (tally ys)
tally-append xs ys =
    (λ i. cond (fits-append xs ys i) (Some ((counted-append no_counts xs ys ∙ counted-plus (counted no_counts xs) ys) i)) None)
    ∙ both-cond (each_fits xs) (each_fits ys) (counted no_counts xs) (counted no_counts ys)

-- the counts of one declaration, without what stands in it
abbrev pub one : Proto → Option Counts
one p = cond (lists_fit p) (Some (counting no_counts p)) None

pub tally-cons : (d : Shown) (ds : List Shown) → tally (d ∷ ds) ≡ both (one d.proto) (tally ds)
tally-cons d ds =
    ap (λ c. cond (lists_fit d.proto && each_fits ds) (Some c) None) (counted-plus (counting no_counts d.proto) ds)
    ∙ both-cond (lists_fit d.proto) (each_fits ds) (counting no_counts d.proto) (counted no_counts ds)

-- the sum over a list
abbrev pub summed : {X : Type 0} → (X → Option Counts) → List X → Option Counts
summed f [] = Some no_counts
summed f (x ∷ xs) = both (f x) (summed f xs)

summed-append : {X : Type 0} (f : X → Option Counts) (xs ys : List X) → summed f (xs ++ ys) ≡ both (summed f xs) (summed f ys)
summed-append f [] ys = sym (both-nothing (summed f ys))
summed-append f (x ∷ xs) ys = ap (both (f x)) (summed-append f xs ys) ∙ sym (both-assoc (f x) (summed f xs) (summed f ys))

pub summed-next : {X : Type 0} (f : X → Option Counts) (xs : List X) (i : ℕ) (x : X) → i < length xs → x ≡ get_or xs i x
    → summed f (take (i + 1) xs) ≡ both (summed f (take i xs)) (f x)
summed-next f xs i x within is =
    ap (summed f) (take_more xs i x within ∙ ap (λ y. take i xs ++ y ∷ []) (sym is))
    ∙ summed-append f (take i xs) (x ∷ [])
    ∙ ap (both (summed f (take i xs))) (both-comm (f x) (Some no_counts) ∙ both-nothing (f x))

pub summed-none : {X : Type 0} (f : X → Option Counts) (xs : List X) (i : ℕ) (x : X) → i < length xs → x ≡ get_or xs i x → f x ≡ None → summed f xs ≡ None
summed-none f [] i x within is none = absurd (omega arith)
summed-none f (y ∷ ys) zero x within is none = ap (λ z. both (f z) (summed f ys)) (sym is) ∙ ap (λ z. both z (summed f ys)) none
summed-none f (y ∷ ys) (suc i) x within is none = ap (both (f y)) (summed-none f ys i x (omega arith) is none) ∙ both-comm (f y) None
