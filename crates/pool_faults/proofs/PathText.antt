-- A path prints as the library prints a list of numbers.
use Rattle.std.proofs.Common.{◌≡◌, ℤ, List, [], ◌∷◌, refl, Some}
use Rattle.std.specs.Fmt.{signed_decimal, debug_list, debug_items, comma_space}
use Rattle.pool_faults.specs.Fault.{numbers_text, further_numbers, path_text}

debug_items-further : (ns : List ℤ) → debug_items (λ n. Some (signed_decimal n)) comma_space ns ≡ Some (further_numbers ns)
debug_items-further [] = refl
debug_items-further (n ∷ ns) = rw (debug_items-further ns) refl

debug_items-numbers : (ns : List ℤ) → debug_items (λ n. Some (signed_decimal n)) [] ns ≡ Some (numbers_text ns)
debug_items-numbers [] = refl
debug_items-numbers (n ∷ ns) = rw (debug_items-further ns) refl

pub debug_list-path : (path : List ℤ) → debug_list (λ n. Some (signed_decimal n)) path ≡ Some (path_text path)
debug_list-path path = rw (debug_items-numbers path) refl
