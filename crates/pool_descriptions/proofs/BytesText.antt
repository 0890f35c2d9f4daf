-- Bytes print as the library prints a list of numbers.
use Rattle.std.proofs.Common.{◌≡◌, ℕ, pos, List, [], ◌∷◌, map, refl, Some}
use Rattle.std.specs.Fmt.{decimal, debug_list, debug_items, comma_space}
use Rattle.pool_faults.specs.Fault.{numbers_text, further_numbers}
use Rattle.pool_descriptions.specs.Values.{bytes_text}

items-further : (bytes : List ℕ) → debug_items (λ b. Some (decimal b)) comma_space bytes ≡ Some (further_numbers (map pos bytes))
items-further [] = refl
items-further (b ∷ bs) = rw (items-further bs) refl

items-numbers : (bytes : List ℕ) → debug_items (λ b. Some (decimal b)) [] bytes ≡ Some (numbers_text (map pos bytes))
items-numbers [] = refl
items-numbers (b ∷ bs) = rw (items-further bs) refl

pub debug_list-bytes : (bytes : List ℕ) → debug_list (λ b. Some (decimal b)) bytes ≡ Some (bytes_text bytes)
debug_list-bytes bytes = rw (items-numbers bytes) refl
