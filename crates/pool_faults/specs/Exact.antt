-- `==` of labels and of faults tells whether two of them are one.
use Rattle.std.proofs.Common.{rules, Bool, true, false, refl, ap, ◌⊎◌, inl, inr}
use Rattle.plain_data.specs.Exact.{Exact, ◌and◌, by-parts, given, text-exact, numbers-exact}
use Rattle.pool_faults.specs.contracts.label.LabelPartialEq.TheImpl as label
use Rattle.std.specs.Cmp.{signed_Decides}
use Rattle.std.proofs.lemmas.Bool.Decides.{Decides-like}
use Rattle.pool_faults.specs.contracts.fault.DescriptorErrorKind.{enum}
use Rattle.pool_faults.specs.contracts.fault.DescriptorErrorKindPartialEq.TheImpl as fault
use mathlib.Core.Logic.{⊎_elim}
use denote.Enum.Declared.{values_one, left_or, right_or}

-- `==` of labels is exact
pub label-exact : Exact label.ghosts.eq
label-exact = by-parts (λ l. (l.file, (l.path, l.span))) (λ a b e. search rules)
    (text-exact and numbers-exact and given numbers-exact)

infixr 30 ◌or◌
-- a test of two variants is exact where the test of one is, and the test of the further ones
pub ◌or◌ : {A B : Type 0} {E : A → A → Bool} {F : B → B → Bool} → Exact E → Exact F
    → Exact (λ (c d : A ⊎ B). ⊎_elim (λ x. ⊎_elim (λ y. E x y) (λ _. false) d)
    (λ x. ⊎_elim (λ _. false) (λ y. F x y) d) c)
◌or◌ {E = E} first further (inl x) (inl y) =
    Decides-like (E x y) (ap inl) (ap (left_or x)) (first x y)
◌or◌ first further (inl x) (inr y) = (λ e. absurd (cc), λ e. absurd (cc))
◌or◌ first further (inr x) (inl y) = (λ e. absurd (cc), λ e. absurd (cc))
◌or◌ {F = F} first further (inr x) (inr y) =
    Decides-like (F x y) (ap inr) (ap (right_or x)) (further x y)

-- no further variant
nothing : Exact (λ (c d : ⊥). absurd c)
nothing c d = absurd c

-- the last part of a variant, and a variant without parts
last : {A : Type 0} {E : A → A → Bool} → Exact E → Exact (λ (p q : A × Unit {0}). E p.0 q.0)
last {E = E} exact p q = Decides-like (E p.0 q.0) (λ e i. (e i, tt)) (ap (λ r. r.0)) (exact p.0 q.0)

alone : Exact (λ (p q : Unit {0}). true)
alone p q = (λ e. refl, λ e. refl)

-- `==` of faults is exact
pub fault-exact : Exact fault.ghosts.eq
fault-exact a b = Decides-like (fault.ghosts.eq a b) (values_one enum a b) (ap enum.as_values)
    ((
    last label-exact
    or text-exact and last label-exact
    or last text-exact
    or text-exact and last label-exact
    or alone
    or alone
    or text-exact and label-exact and last label-exact
    or signed_Decides and label-exact and last label-exact
    or text-exact and label-exact and last label-exact
    or text-exact and text-exact and label-exact and last label-exact
    or signed_Decides and last label-exact
    or signed_Decides and signed_Decides and signed_Decides and label-exact and last label-exact
    or signed_Decides and signed_Decides and signed_Decides and label-exact and last label-exact
    or signed_Decides and text-exact and last label-exact
    or signed_Decides and text-exact and label-exact and last label-exact
    or text-exact and last label-exact
    or text-exact and text-exact and last label-exact
    or text-exact and text-exact and label-exact and last label-exact
    or text-exact and text-exact and last label-exact
    or last label-exact
    or last label-exact
    or signed_Decides and label-exact and last label-exact
    or signed_Decides and signed_Decides and signed_Decides and label-exact and last label-exact
    or nothing) (enum.as_values a) (enum.as_values b))
