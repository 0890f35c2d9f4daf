-- How the code goes through a text, one escape after another. No public contract cites these.
use Rattle.std.specs.Prelude.{ℕ, List, [], ◌∷◌, if◌then◌else◌}
use Rattle.std.specs.Borrow.{Bor}
use Rattle.std.specs.Char.{digit_value}
use Rattle.std.specs.Option.{option_map}
use Rattle.std.specs.Result.{result_map_both}
use Rattle.std.specs.declared.option.Option.{Option}
use Rattle.std.specs.declared.option.Option.TheVariants.{None, Some}
use Rattle.std.specs.declared.result.Result.{Result}
use Rattle.std.specs.declared.result.Result.TheVariants.{Ok}
use Rattle.field_rules.specs.declared.escape_faults.EscapeFault.{EscapeFault}
use Rattle.field_rules.specs.Escapes.{One, is_backslash, is_octal, one_escape}

-- the octal digit with which a text begins, and what follows it
abbrev pub octal_digit : List ℕ → Option (ℕ × List ℕ)
octal_digit [] = None
octal_digit (c ∷ t) = if is_octal c then Some (digit_value c, t) else None

-- the answer of the code for one escape
abbrev pub one_in : Result (ℕ × Bor (List ℕ)) EscapeFault → One
one_in one = result_map_both (λ one. (one.0, one.1.now)) (λ f. f) one

-- the byte that comes next and what follows it, or none at the end, or a fault
abbrev pub Next : Type 0
Next = Result (Option (ℕ × List ℕ)) EscapeFault

-- the byte with which a text begins, as it is or as an escape
abbrev pub next_byte : List ℕ → Next
next_byte [] = Ok None
next_byte (c ∷ t) = if is_backslash c then result_map_both Some (λ f. f) (one_escape t)
    else Ok (Some (c, t))

-- the answer of the code for the byte that comes next
abbrev pub next_in : Result (Option (ℕ × Bor (List ℕ))) EscapeFault → Next
next_in next =
    result_map_both (λ (o : Option (ℕ × Bor (List ℕ))). option_map (λ one. (one.0, one.1.now)) o)
    (λ f. f) next
