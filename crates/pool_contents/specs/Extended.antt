-- Extensions in the lists and the indexes of the messages that they extend.
use Rattle.std.specs.Prelude.{ℕ, ◌<◌, List, ◌++◌, map, drop, if◌then◌else◌}
use Rattle.std.specs.FinMap as finite
use Rattle.std.specs.List.{AllByRecursion, between, fold}
use Rattle.std.specs.Option.{IfSome}
use Rattle.plain_data.specs.Maps.{ByNumber}
use Rattle.pool_types.specs.Contents.{Contents}
use Rattle.pool_types.specs.Extension.{Indexed, extending}
use Rattle.pool_types.specs.declared.contents.extension.ExtensionDescriptorInner.{ExtensionDescriptorInner}
use Rattle.pool_types.specs.declared.contents.message.MessageDescriptorInner.{MessageDescriptorInner}
use Rattle.plain_data.specs.Each.{map_enumerated}

-- a map from numbers to extensions with one more; a number that has an extension keeps it
abbrev pub with_number : ByNumber ℕ → ℕ × ℕ → ByNumber ℕ
with_number numbers e = if finite.contains_key numbers e.1 then numbers
    else finite.insert numbers e.1 e.0

-- a message with extensions behind its list, and in its map of numbers
abbrev pub with_extensions : List Indexed → MessageDescriptorInner → MessageDescriptorInner
with_extensions es m = record m {
  extensions = m.extensions ++ map (λ e. e.0) es;
  extension_numbers =
      fold with_number m.extension_numbers (map (λ e. (e.0, e.1.number)) es);
}

-- a message, by its index, with those of the extensions that extend it
abbrev pub extended_by : ℕ → List ExtensionDescriptorInner → ℕ → MessageDescriptorInner
    → MessageDescriptorInner
extended_by first xs message m = with_extensions (extending message first xs) m

-- contents whose messages have the extensions from a first index on, besides those that they have
-- already
abbrev pub with_extended : ℕ → Contents → Contents
with_extended first p =
    record p {
      messages = map_enumerated (extended_by first (drop first p.extensions)) 0 p.messages;
    }

-- messages that have the extensions from one index up to another, besides those that they have
-- already
abbrev pub extended_between : ℕ → ℕ → List ExtensionDescriptorInner → List MessageDescriptorInner
    → List MessageDescriptorInner
extended_between first end xs ms = map_enumerated (extended_by first (between first end xs)) 0 ms

-- a map leads from numbers to extensions before an index
abbrev pub LieBefore : ℕ → ByNumber ℕ → Type 0
LieBefore end numbers = (number : ℕ) → IfSome (finite.get numbers number) (λ e. e < end)

-- the maps of messages lead from numbers to extensions before an index
abbrev pub NumbersLieBefore : ℕ → List MessageDescriptorInner → Type 0
NumbersLieBefore end ms = AllByRecursion (λ m. LieBefore end m.extension_numbers) ms
