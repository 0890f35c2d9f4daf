-- The extensions of a pool and the messages that they extend.
use Rattle.std.specs.Prelude.{◌≡◌, ◌<◌, ℕ, Some, List, [], length, slice_get}
use Rattle.std.specs.FinMap as finite
use Rattle.std.specs.List.{All}
use Rattle.plain_data.specs.Each.{map_enumerated}
use Rattle.pool_types.specs.Contents.{Contents}
use Rattle.pool_types.specs.declared.contents.extension.ExtensionDescriptorInner.{ExtensionDescriptorInner}
use Rattle.pool_types.specs.declared.contents.message.MessageDescriptorInner.{MessageDescriptorInner}
use Rattle.pool_contents.specs.Extended.{with_extensions}
use Rattle.pool_types.specs.Extension.{Indexed, extending}

-- all extensions of a pool that extend the message with an index, by their own indexes, which rise
abbrev pub extensions_of : Contents → ℕ → List Indexed
extensions_of p message = extending message 0 p.extensions

-- a message as no extension extends it
abbrev pub bare : MessageDescriptorInner → MessageDescriptorInner
bare m = record m { extensions = []; extension_numbers = finite.empty }

-- a message, by its index, with exactly the extensions that extend it in its list and in its map of
-- numbers
abbrev pub listing_all : Contents → ℕ → MessageDescriptorInner → MessageDescriptorInner
listing_all p message m = with_extensions (extensions_of p message) (bare m)

-- each message lists all extensions that extend it, and no others, and finds them by their numbers
abbrev pub ListsAreWhole : Contents → Type 0
ListsAreWhole p = p.messages ≡ map_enumerated (listing_all p) 0 p.messages

-- each extension extends a message of the pool
abbrev pub ExtendeesLieIn : Contents → Type 0
ExtendeesLieIn p = All (λ x. x.extendee < length p.messages) p.extensions

-- no two extensions of one message have one number
abbrev pub NumbersAreUnique : Contents → Type 0
NumbersAreUnique p = (i j : ℕ) (x y : ExtensionDescriptorInner)
    → slice_get p.extensions i ≡ Some x → slice_get p.extensions j ≡ Some y
    → x.extendee ≡ y.extendee → x.number ≡ y.number → i ≡ j
