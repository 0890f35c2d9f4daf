-- The fields of a message: tokens, without what is in groups.
use Rattle.std.specs.Prelude.{◌≡◌, Option, None, Some, ℕ, zero, suc, List, [], ◌∷◌, length, Result}
use Rattle.std.specs.Prelude.{Ok, Err, ◌==◌, if◌then◌else◌}
use Rattle.wire_format.specs.declared.fault.WireFault.{WireFault}
use Rattle.wire_format.specs.declared.fault.WireFaultKind.TheVariants as kind
use Rattle.wire_format.specs.Tokens.{Value, Group, EndGroup, Field, token}

-- numbered values, and then the end, or the first fault
pub data Fields : Type 0 where
  End : Fields
  Broken : WireFault → Fields
  Then : ℕ → Value → Fields → Fields

-- a token in front of others, if it could be read
abbrev pub in_front : Result (Field × List ℕ) WireFault → (List ℕ → Fields) → Fields
in_front (Ok (f, rest)) others = Then f.number f.value (others rest)
in_front (Err f) others = Broken f

-- at most so many tokens
unfoldable pub first_tokens : ℕ → ℕ → List ℕ → Fields
first_tokens n ends [] = End
first_tokens zero ends (b ∷ bytes) = End
first_tokens (suc n) ends (b ∷ bytes) = in_front (token ends (b ∷ bytes)) (first_tokens n ends)

-- all tokens of bytes that end at an offset of the input: each has a byte or more
abbrev pub tokens : ℕ → List ℕ → Fields
tokens ends bytes = first_tokens (length bytes) ends bytes

-- what is one level further in, where a level is left; it begins at an offset
abbrev pub deeper : ℕ → ℕ → (ℕ → Fields) → Fields
deeper zero at inner = Broken (record { kind = kind.TooDeep; at = at })
deeper (suc levels) at inner = inner levels

-- The fields that tokens are where groups with these numbers are open, the innermost first, and so
-- many levels are left: what is in a group is no field, nor is the group.
unfoldable pub fields_within : ℕ → ℕ → List ℕ → Fields → Fields
fields_within levels ends outer (Broken f) = Broken f
fields_within levels ends [] End = End
fields_within levels ends (m ∷ outer) End = Broken (record { kind = kind.Truncated; at = ends })
fields_within levels ends outer (Then n (Group at) ts) =
    deeper levels at (λ left. fields_within left ends (n ∷ outer) ts)
fields_within levels ends [] (Then n (EndGroup at) ts) =
    Broken (record { kind = kind.EndGroup; at = at })
fields_within levels ends (m ∷ outer) (Then n (EndGroup at) ts) =
    if n == m then fields_within (suc levels) ends outer ts
    else Broken (record { kind = kind.EndGroup; at = at })
fields_within levels ends [] (Then n value ts) = Then n value (fields_within levels ends [] ts)
fields_within levels ends (m ∷ outer) (Then n value ts) = fields_within levels ends (m ∷ outer) ts

-- the fields of a message whose bytes end at an offset of the input
abbrev pub fields : ℕ → ℕ → List ℕ → Fields
fields levels ends bytes = fields_within levels ends [] (tokens ends bytes)

-- What a function returned, seen by view, is the first field and those that the other bytes say.
abbrev pub IsFirst : {X : Type 0} → (X → Field × List ℕ) → (List ℕ → Fields)
    → Result (Option X) WireFault → Fields → Type 0
IsFirst view others (Ok None) fs = fs ≡ End
IsFirst view others (Ok (Some x)) fs =
    fs ≡ Then (view x).0.number (view x).0.value (others (view x).1)
IsFirst view others (Err f) fs = fs ≡ Broken f

-- What a function returned are the fields that are left, or the fault with which they break off.
abbrev pub Skips : {X : Type 0} → Result X WireFault → (X → Fields) → Fields → Type 0
Skips (Ok x) left fs = fs ≡ left x
Skips (Err f) left fs = fs ≡ Broken f
