-- The reserved ranges of an enum, each with the number behind its end, hold what the ranges hold.
use Rattle.std.proofs.Common.{◌≡◌, ◌∙◌, ◌<ℤ◌, ℕ, ℤ, pos, Bool, false, ◌&&◌, List, Option, ap, sym, arith}
use Rattle.std.specs.Prelude.{int_le, int_lt}
use Rattle.std.proofs.lemmas.Int.{ints}
use Rattle.proto_types.specs.Readers.{number_of}
use Rattle.proto_types.specs.declared.records.enumeration.EnumReservedRange.{EnumReservedRange}
use Rattle.field_rules.specs.NumberRanges.{holds, first_from}
use Rattle.field_rules.proofs.Firsts.{first-map}
use Rattle.field_rules.specs.EnumRanges.{enum_bounds, number_behind, reserves}

-- whether a range holds a number, seen by the number behind its end
abbrev pub reserves_before : ℤ → EnumReservedRange → Bool
reserves_before n range = holds n (number_of range.start, number_behind (number_of range.«end»))

held-before : (n s e : ℤ) → n <ℤ pos 2147483647 → (int_le s n && int_lt n (number_behind e)) ≡ false → (int_le s n && int_le n e) ≡ false
held-before n s e below free = grind (arith, ints)

-- below the greatest number, a range that does not hold a number so does not hold it
pub none-before : (n : ℤ) (range : EnumReservedRange) → n <ℤ pos 2147483647 → reserves_before n range ≡ false → reserves n range ≡ false
none-before n range below free = held-before n (number_of range.start) (number_of range.«end») below free

-- the first of the ranges in order is the first of the list
pub first-before : (n : ℤ) (ranges : List EnumReservedRange) (bounds : List (ℤ × ℤ)) (from : ℕ) (found : Option ℕ) → bounds ≡ enum_bounds ranges → found ≡ first_from (holds n) from bounds
    → first_from (reserves_before n) from ranges ≡ found
first-before n ranges bounds from found is first =
    sym (first ∙ ap (first_from (holds n) from) is ∙ first-map (λ r. (number_of r.start, number_behind (number_of r.«end»))) (holds n) ranges from)
