-- What a call leaves at the places of its caller, with its status.
use Rattle.std.specs.Prelude.{ℕ, List, ◌++◌, length, drop, nat_le, if◌then◌else◌}
use Rattle.std.specs.declared.option.Option.{Option}
use Rattle.std.specs.declared.option.Option.TheVariants.{None, Some}
use Rattle.numbered_pool.specs.declared.numbers.Found.{Found}
use Rattle.numbered_pool.specs.declared.numbers.Item.{Item}

-- what was found; without it the place stays
abbrev pub written : {A : Type 0} → Option A → A → A × ℕ
written None place = (place, 6)
written (Some found) place = (found, 0)

-- an item that was found, and its file; without it the places stay
abbrev pub located : Option Found → Item → ℕ → Item × (ℕ × ℕ)
located None item file = (item, (file, 6))
located (Some found) item file = (found.item, (found.file, 0))

-- a text at the front of a buffer, and its length; a buffer that is too short stays
abbrev pub handed_out : {A : Type 0} → List A → List A → List A × (ℕ × ℕ)
handed_out text buffer =
    if nat_le (length text) (length buffer) then
    (text ++ drop (length text) buffer, (length text, 0))
    else (buffer, (length text, 4))

-- a text that was found; without it the places stay
abbrev pub handed_out_if : {A : Type 0} → Option (List A) → List A → ℕ → List A × (ℕ × ℕ)
handed_out_if None buffer told = (buffer, (told, 6))
handed_out_if (Some text) buffer told = handed_out text buffer
