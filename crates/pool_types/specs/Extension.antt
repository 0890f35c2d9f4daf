-- Extensions by the message that they extend and by their numbers.
use Rattle.std.specs.Prelude.{◌≡◌, ℕ, ◌==◌, ◌&&◌, Bool, List, slice_get}
use Rattle.std.specs.FinMap as finite
use Rattle.std.specs.List.{enumerate_from, filter, position_from}
use Rattle.std.specs.Option.{option_and_then}
use Rattle.std.specs.declared.option.Option.{Option}
use Rattle.pool_types.specs.declared.contents.extension.ExtensionDescriptorInner.{ExtensionDescriptorInner}
use Rattle.pool_types.specs.declared.contents.message.MessageDescriptorInner.{MessageDescriptorInner}

-- an extension with its index
abbrev pub Indexed : Type 0
Indexed = ℕ × ExtensionDescriptorInner

-- of extensions that are indexed on from a first index, those that extend the message with an index
abbrev pub extending : ℕ → ℕ → List ExtensionDescriptorInner → List Indexed
extending message first xs = filter (λ e. e.1.extendee == message) (enumerate_from first xs)

-- whether an extension extends the message with an index, and has a number
abbrev pub has_number : ℕ → ℕ → ExtensionDescriptorInner → Bool
has_number message number x = x.extendee == message && x.number == number

-- the index of the first extension of a message that has a number
abbrev pub extension_numbered : List ExtensionDescriptorInner → ℕ → ℕ → Option ℕ
extension_numbered xs message number = position_from (has_number message number) 0 xs

-- the extension that the message with an index has for a number
abbrev pub number_held : List MessageDescriptorInner → ℕ → ℕ → Option ℕ
number_held ms message number =
    option_and_then (λ m. finite.get m.extension_numbers number) (slice_get ms message)

-- each message leads from a number to the first of its extensions that has it
abbrev pub NumbersLead : List ExtensionDescriptorInner → List MessageDescriptorInner → Type 0
NumbersLead xs ms = (message number : ℕ)
    → number_held ms message number ≡ extension_numbered xs message number
