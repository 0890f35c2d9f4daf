-- Which numbers of values an enum has.
use Rattle.std.proofs.Common.{◌≡◌, ◌||◌, ℕ, true, false, List, [], ◌∷◌, refl, ap}
use Rattle.std.proofs.lemmas.Bool.{and_from, or_left}
use Rattle.std.specs.List.{list_all}
use Rattle.pool_types.specs.declared.contents.enumeration.EnumValueDescriptorInner.{EnumValueDescriptorInner}
use Rattle.pool_types.specs.declared.kinds.KindIndex.TheVariants as index
use Rattle.schema_changes.specs.Kinds.{holds}
use Rattle.schema_changes.specs.Parts.{Parts, has_value, is_open, values_of}

-- an open enum has all
pub open_holds : (p : Parts) (e : ℕ) (vs : List EnumValueDescriptorInner) → is_open p e ≡ true → list_all (λ v. holds p (index.Enum e) v.number) vs ≡ true
unfolding holds
open_holds p e [] is = refl
open_holds p e (v ∷ vs) is =
    and_from (is_open p e || has_value (values_of p e) v.number) (list_all (λ w. holds p (index.Enum e) w.number) vs)
    (or_left (is_open p e) (has_value (values_of p e) v.number) is) (open_holds p e vs is)

-- a closed one has those of its values
pub closed_holds : (p : Parts) (e : ℕ) (vs : List EnumValueDescriptorInner) → is_open p e ≡ false
    → list_all (λ v. holds p (index.Enum e) v.number) vs ≡ list_all (λ v. has_value (values_of p e) v.number) vs
unfolding holds
closed_holds p e vs is = ap (λ b. list_all (λ v. b || has_value (values_of p e) v.number) vs) is
