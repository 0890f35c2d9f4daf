-- The earliest value of each number, one value more at a time.
use Rattle.std.proofs.Common.{◌≡◌, ◌<◌, ℕ, ℤ, ◌+◌, Bool, true, false, cond, List, [], ◌∷◌, ◌++◌, length, take, get_or, find, Option, None, Some, IfSome, unwrap_or, refl, ap, sym, ◌∙◌, arith}
use Rattle.std.proofs.lemmas.List.Folds.{find-append}
use Rattle.std.specs.Cmp.{int_eq_equiv, signed_Decides}
use Rattle.std.specs.List.{enumerate_from}
use Rattle.std.specs.Option.{option_map, option_or}
use Rattle.std.specs.Ordering.{int_eq}
use Rattle.proto_types.specs.declared.records.enumeration.EnumValueDescriptorProto.{EnumValueDescriptorProto}
use Rattle.plain_data.specs.Lists.{listed}
use Rattle.proto_types.specs.Readers.{number_of}
use Rattle.plain_data.proofs.Enumerated.{entries-next}

abbrev Entry : Type 0
Entry = ℕ × EnumValueDescriptorProto

entered : (found : Option Entry) (e : Entry) → Some (unwrap_or (option_map (λ x. x.0) found) e.0) ≡ option_map (λ x. x.0) (option_or found (Some e))
entered None e = refl
entered (Some x) e = refl

kept : (found : Option Entry) → option_map (λ x. x.0) found ≡ option_map (λ x. x.0) (option_or found None)
kept None = refl
kept (Some x) = refl

-- the earliest entry with a number
abbrev pub earliest : List Entry → ℤ → Option Entry
earliest es n = find (λ e. int_eq (number_of e.1.number) n) es

-- what a fault tells of it, by its position
pub told-earliest : {Y : Type 0} (f : ℕ → Y) (found : Option Entry) → listed (option_map (λ e. f e.0) found) ≡ listed (option_map f (option_map (λ e. e.0) found))
told-earliest f None = refl
told-earliest f (Some e) = refl

module _ (seen : List Entry) (e : Entry) (old : ℤ → Option ℕ) (held : (n : ℤ) → old n ≡ option_map (λ x. x.0) (earliest seen n)) where
  one-more : (n : ℤ) (b : Bool) → int_eq n (number_of e.1.number) ≡ b
      → cond b (Some (unwrap_or (old (number_of e.1.number)) e.0)) (old n) ≡ option_map (λ x. x.0) (option_or (earliest seen n) (cond b (Some e) None))
  one-more n true is =
      let same : n ≡ number_of e.1.number = (signed_Decides n (number_of e.1.number)).0 is in
      ap (λ m. Some (unwrap_or (old m) e.0)) (sym same) ∙ ap (λ o. Some (unwrap_or o e.0)) (held n) ∙ entered (earliest seen n) e
  one-more n false is = held n ∙ kept (earliest seen n)

  with-one : (new : ℤ → Option ℕ) (number : ℤ) → number ≡ number_of e.1.number
      → ((n : ℤ) → new n ≡ cond (int_eq n number) (Some (unwrap_or (old number) e.0)) (old n))
      → (n : ℤ) → new n ≡ option_map (λ x. x.0) (earliest (seen ++ e ∷ []) n)
  with-one new number number_is after n =
      after n ∙ ap (λ m. cond (int_eq n m) (Some (unwrap_or (old m) e.0)) (old n)) number_is
      ∙ one-more n (int_eq n (number_of e.1.number)) refl
      ∙ ap (λ b. option_map (λ x. x.0) (option_or (earliest seen n) (cond b (Some e) None))) (int_eq_equiv.symm n (number_of e.1.number))
      ∙ ap (option_map (λ x. x.0)) (sym (find-append (λ x. int_eq (number_of x.1.number) n) seen (e ∷ [])))

module _ (values : List EnumValueDescriptorProto) (i : ℕ) (v : EnumValueDescriptorProto) (below : i < length values) (is : v ≡ get_or values i v) where
  pub positions-next : (old new : ℤ → Option ℕ) (number : ℤ) → number ≡ number_of v.number
      → ((n : ℤ) → old n ≡ option_map (λ x. x.0) (earliest (enumerate_from 0 (take i values)) n))
      → ((n : ℤ) → new n ≡ cond (int_eq n number) (Some (unwrap_or (old number) i)) (old n))
      → (n : ℤ) → new n ≡ option_map (λ x. x.0) (earliest (enumerate_from 0 (take (i + 1) values)) n)
  positions-next old new number number_is held after n =
      with-one (enumerate_from 0 (take i values)) (i, v) old held new number number_is after n
      ∙ ap (λ es. option_map (λ x. x.0) (earliest es n)) (sym (entries-next values i v below is))

-- positions so far are below the next one
further : (i : ℕ) (o : Option ℕ) → IfSome o (λ first. first < i) → IfSome o (λ first. first < i + 1)
further i None low = tt
further i (Some first) low = omega (arith, low)

either : (i : ℕ) (o p : Option ℕ) (b : Bool) → IfSome o (λ first. first < i) → IfSome p (λ first. first < i) → IfSome (cond b (Some (unwrap_or o i)) p) (λ first. first < i + 1)
either i None p true low_o low_p = omega arith
either i (Some first) p true low_o low_p = omega (arith, low_o)
either i o p false low_o low_p = further i p low_p

pub below-next : (i : ℕ) (old new : ℤ → Option ℕ) (number : ℤ) → ((n : ℤ) → IfSome (old n) (λ first. first < i))
    → ((n : ℤ) → new n ≡ cond (int_eq n number) (Some (unwrap_or (old number) i)) (old n)) → (n : ℤ) → IfSome (new n) (λ first. first < i + 1)
below-next i old new number low after n = rw (after n) (either i (old number) (old n) (int_eq n number) (low number) (low n))
