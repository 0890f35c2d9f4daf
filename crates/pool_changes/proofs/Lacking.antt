-- Each enum of a pool lacks a number of 32 bits, since it has fewer values.
use Rattle.std.proofs.Common.{◌≡◌, ◌≤◌, ◌<◌, ◌^◌, ◌||◌, ℕ, ℤ, zero, suc, pos, Bool, true, false, cond, ◌⊎◌, ◌-◌, Option, Some, None, List, [], ◌∷◌, ◌++◌, length, option_map, slice_get, unwrap_or, inl, inr, refl, ap, sym, subst, ◌∙◌, arith}
use Rattle.std.proofs.lemmas.Bool.{and_parts, false_from_ne_true, false≢true, leb-true, lt-ltb, or_cases, or_left, or_right}
use Rattle.std.proofs.lemmas.Bool.Decides.{Decides-int_eq}
use Rattle.std.proofs.lemmas.List.Elements.{All-append, All-from_recursion, All-nil}
use Rattle.std.specs.List.{All, AllByRecursion, list_all}
use Rattle.std.specs.Ordering.{int_eq}
use Rattle.plain_data.specs.Each.{map_enumerated}
use Rattle.proto_types.specs.declared.file.FileDescriptorProto.{FileDescriptorProto}
use Rattle.pool_types.specs.Contents.{Contents, no_contents}
use Rattle.pool_types.specs.declared.contents.enumeration.EnumDescriptorInner.{EnumDescriptorInner}
use Rattle.pool_types.specs.declared.contents.enumeration.EnumValueDescriptorInner.{EnumValueDescriptorInner}
use Rattle.pool_types.specs.declared.kinds.KindIndex.{KindIndex}
use Rattle.pool_types.specs.declared.kinds.KindIndex.TheVariants as index
use Rattle.field_rules.specs.EnumItems.{enum_item}
use Rattle.record_walk.specs.Counts.{counts_in, fits_list, lists_fit}
use Rattle.record_walk.specs.Protos.{Proto, of_file, of_message, of_field, of_oneof, of_service, of_method, of_enum, of_value, of_extension}
use Rattle.record_walk.specs.Shown.{Shown}
use Rattle.record_walk.proofs.Room.{room-fits}
use Rattle.reference_pass.specs.Items.{enum_items}
use Rattle.pool_contents.proofs.Each.{length-each}
use Rattle.message_values.specs.Numbers.{is_signed}
use Rattle.descriptor_pool.specs.Build.{declared_with, with_batch}
use Rattle.descriptor_pool.specs.Invariant.{IsPool}
use Rattle.descriptor_pool.specs.Pool.{Fits, Made, empty, linked_to, new_files}
use Rattle.schema_changes.specs.Lost.{LacksOne}
use Rattle.schema_changes.specs.Parts.{has_value, parts_of, values_of}
use Rattle.pool_changes.proofs.Looking.{one-of}

-- ---- a list of values lacks one of as many numbers as it has values, and one more

-- the values that have another number
abbrev others : ℤ → List EnumValueDescriptorInner → List EnumValueDescriptorInner
others x [] = []
others x (v ∷ vs) = cond (int_eq v.number x) (others x vs) (v ∷ others x vs)

fewer : (x : ℤ) (vs : List EnumValueDescriptorInner) → length (others x vs) ≤ length vs
fewer x [] = omega arith
fewer x (v ∷ vs) = by (int_eq v.number x) (fewer x vs)
  where
    by : (b : Bool) → length (others x vs) ≤ length vs → length (cond b (others x vs) (v ∷ others x vs)) ≤ suc (length vs)
    by true rest = omega arith
    by false rest = omega arith

less : (x : ℤ) (vs : List EnumValueDescriptorInner) → has_value vs x ≡ true → length (others x vs) < length vs
less x [] has = absurd (false≢true has)
less x (v ∷ vs) has = by (int_eq v.number x) has (fewer x vs) (less x vs)
  where
    by : (b : Bool) → (b || has_value vs x) ≡ true → length (others x vs) ≤ length vs → (has_value vs x ≡ true → length (others x vs) < length vs) → length (cond b (others x vs) (v ∷ others x vs)) < suc (length vs)
    by true is most rest = omega arith
    by false is most rest = let one = rest is in omega arith

still : (x y : ℤ) (vs : List EnumValueDescriptorInner) → (x ≡ y → ⊥) → has_value vs y ≡ true → has_value (others x vs) y ≡ true
still x y [] apart has = has
still x y (v ∷ vs) apart has = by (int_eq v.number x) refl (still x y vs apart) (or_cases (int_eq v.number y) (has_value vs y) has)
  where
    by : (b : Bool) → int_eq v.number x ≡ b → (has_value vs y ≡ true → has_value (others x vs) y ≡ true) → (int_eq v.number y ≡ true) ⊎ (has_value vs y ≡ true) → has_value (cond b (others x vs) (v ∷ others x vs)) y ≡ true
    by true is rest (inl here) = absurd (apart (sym ((Decides-int_eq v.number x).0 is) ∙ (Decides-int_eq v.number y).0 here))
    by true is rest (inr later) = rest later
    by false is rest (inl here) = or_left (int_eq v.number y) (has_value (others x vs) y) here
    by false is rest (inr later) = or_right (int_eq v.number y) (has_value (others x vs) y) (rest later)

lacks-below : (n : ℕ) (vs : List EnumValueDescriptorInner) → length vs < n → (x : ℕ) × (x < n) × (has_value vs (pos x) ≡ false)
lacks-below zero vs short = absurd (omega (arith, short))
lacks-below (suc n) vs short = by (has_value vs (pos n)) refl (lacks-below n (others (pos n) vs))
  where
    by : (b : Bool) → has_value vs (pos n) ≡ b → (length (others (pos n) vs) < n → (x : ℕ) × (x < n) × (has_value (others (pos n) vs) (pos x) ≡ false)) → (x : ℕ) × (x < suc n) × (has_value vs (pos x) ≡ false)
    by false is rest = (n, omega arith, is)
    by true is rest =
        let one = less (pos n) vs is in
        let found = rest (omega (arith, short, one)) in (
          found.0,
          omega (arith, found.1),
          false_from_ne_true (has_value vs (pos found.0)) (λ has. false≢true (sym found.2
              ∙ still (pos n) (pos found.0) vs (λ same. let numbers : n ≡ found.0 = cc in absurd (omega (arith, found.1, numbers))) has)),
        )

-- ---- the values of enums are as many as those of their records

abbrev IsShort : EnumDescriptorInner → Type 0
IsShort e = length e.values < 2 ^ 31

one-short : (file : ℕ) (parent : Option ℕ) (index : ℕ) (path : List ℤ) (full_name : List ℕ) (p : Proto) (ds : List Shown)
    → let d : Shown = record { file = file; parent = parent; index = index; path = path; full_name = full_name; proto = p } in
    lists_fit p ≡ true → AllByRecursion IsShort (enum_items ds) → AllByRecursion IsShort (enum_items (d ∷ ds))
one-short file parent index path full_name (of_enum e) ds fits rest =
    let d : Shown = record { file = file; parent = parent; index = index; path = path; full_name = full_name; proto = of_enum e } in
    let many : length (enum_item d e).values ≡ length e.value = length-each _ 0 e.value in
    let few = leb-true (length e.value) (2 ^ 31 - 1) (and_parts (fits_list e.value) (fits_list e.reserved_range) fits).0 in
    (omega (arith, many, few), rest)
one-short file parent index path full_name (of_file f) ds fits rest = rest
one-short file parent index path full_name (of_message m) ds fits rest = rest
one-short file parent index path full_name (of_field f) ds fits rest = rest
one-short file parent index path full_name (of_oneof o) ds fits rest = rest
one-short file parent index path full_name (of_service v) ds fits rest = rest
one-short file parent index path full_name (of_method m) ds fits rest = rest
one-short file parent index path full_name (of_value v) ds fits rest = rest
one-short file parent index path full_name (of_extension x) ds fits rest = rest

all-short : (ds : List Shown) → list_all (λ d. lists_fit d.proto) ds ≡ true → AllByRecursion IsShort (enum_items ds)
all-short [] fits = tt
all-short (d ∷ ds) fits =
    let both = and_parts (lists_fit d.proto) (list_all (λ e. lists_fit e.proto) ds) fits in
    one-short d.file d.parent d.index d.path d.full_name d.proto ds both.0 (all-short ds both.1)

made-short : (p : Contents) → Made p → All IsShort p.enums
made-short p (empty is) = subst (λ (c : Contents). All IsShort c.enums) (sym is) (All-nil IsShort)
made-short p (linked_to {q = q} batch made accepts fits is) =
    let new = new_files q batch in
    let ds = declared_with q new in
    subst (λ (c : Contents). All IsShort c.enums) (sym is)
    (All-append IsShort q.enums (enum_items ds) (made-short q made) (All-from_recursion IsShort (enum_items ds) (all-short ds (room-fits (counts_in q) new fits).short)))

values-short : (p : Contents) → IsPool p → (e : ℕ) → length (values_of (parts_of p) e) < 2 ^ 31
unfolding values_of
values-short p pool e = by (slice_get p.enums e) refl
  where
    by : (got : Option EnumDescriptorInner) → slice_get p.enums e ≡ got → length (unwrap_or (option_map (λ (x : EnumDescriptorInner). x.values) got) []) < 2 ^ 31
    by None is = omega arith
    by (Some x) is = one-of IsShort p.enums e x (made-short p pool.made) is

pub lacks-one : (p : Contents) → IsPool p → (k : KindIndex) → LacksOne (parts_of p) k
lacks-one p pool (index.Enum e) =
    let found = lacks-below (2 ^ 31) (values_of (parts_of p) e) (values-short p pool e) in
    (pos found.0, lt-ltb found.0 (2 ^ 31) found.1, found.2)
lacks-one p pool _ = tt
