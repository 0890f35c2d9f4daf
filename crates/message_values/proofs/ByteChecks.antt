-- What bytes say.
use Rattle.std.proofs.Common.{◌≡◌, [], ◌∷◌, Some, None, refl}
use Rattle.wire_format.specs.Varints.{varint, tag}
use Rattle.wire_format.specs.Tokens.{fixed, delimited, value, token}
use Rattle.wire_format.specs.Fields.{first_tokens}
use Rattle.message_values.specs.Values.{Varint, Bytes, Group, Nothing, More, levels, values}

two-numbers : values (8 ∷ 150 ∷ 1 ∷ 18 ∷ 1 ∷ 7 ∷ []) ≡ Some (record { number = 1; value = Varint 150 } ∷ record { number = 2; value = Bytes (7 ∷ []) } ∷ [])
unfolding values levels first_tokens token tag varint value delimited fixed
two-numbers = refl

a-group : values (11 ∷ 8 ∷ 5 ∷ 12 ∷ []) ≡ Some (record { number = 1; value = Group (More 1 (Varint 5) Nothing) } ∷ [])
unfolding values levels first_tokens token tag varint value delimited fixed
a-group = refl

-- a group that another ends, and one that none ends
crossed : values (11 ∷ 20 ∷ []) ≡ None
unfolding values levels first_tokens token tag varint value delimited fixed
crossed = refl

unended : values (11 ∷ 8 ∷ 5 ∷ []) ≡ None
unfolding values levels first_tokens token tag varint value delimited fixed
unended = refl
