-- The items that stand in a file or in a message.
use Rattle.std.specs.Prelude.{ℕ, ◌==◌, ◌&&◌, nat_eq, is_none, Bool, List, drop, map as each}
use Rattle.std.specs.List.{enumerate_from, filter}
use Rattle.std.specs.Option.{option_eq}
use Rattle.std.specs.declared.option.Option.{Option}
use Rattle.std.specs.declared.option.Option.TheVariants.{None, Some}
use Rattle.pool_types.specs.declared.contents.enumeration.EnumDescriptorInner.{EnumDescriptorInner}
use Rattle.pool_types.specs.declared.contents.extension.ExtensionDescriptorInner.{ExtensionDescriptorInner}
use Rattle.pool_types.specs.declared.contents.message.MessageDescriptorInner.{MessageDescriptorInner}
use Rattle.pool_types.specs.declared.contents.service.ServiceDescriptorInner.{ServiceDescriptorInner}
use Rattle.pool_types.specs.declared.declared.Parent.{Parent}
use Rattle.pool_types.specs.declared.declared.Parent.TheVariants as parent

-- whether what stands in a file, and maybe in a message around it, stands in this file and in no
-- message, or in this message
abbrev pub stands_in : Parent → ℕ → Option ℕ → Bool
stands_in (parent.File f) file around = f.index == file && is_none around
stands_in (parent.Message m) file around = option_eq nat_eq around (Some m.index)

-- whether a message stands in a file and in no message, or in a message
abbrev pub message_in : Parent → MessageDescriptorInner → Bool
message_in parent m = stands_in parent m.id.file m.parent

-- whether an enum stands in a file and in no message, or in a message
abbrev pub enum_in : Parent → EnumDescriptorInner → Bool
enum_in parent e = stands_in parent e.id.file e.parent

-- whether a service stands in a file; none stands in a message
abbrev pub service_in : Parent → ServiceDescriptorInner → Bool
service_in parent s = stands_in parent s.id.file None

-- whether an extension stands in a file and in no message, or in a message
abbrev pub extension_in : Parent → ExtensionDescriptorInner → Bool
extension_in parent x = stands_in parent x.id.file x.parent

-- of items that are indexed on from a first index, the indexes of those that pass a test
abbrev pub indexes_from : {X : Type 0} → (X → Bool) → ℕ → List X → List ℕ
indexes_from test first xs = each (λ e. e.0) (filter (λ e. test e.1) (enumerate_from first xs))

-- the indexes of the items that pass a test, from an index on
abbrev pub left_from : {X : Type 0} → (X → Bool) → List X → ℕ → List ℕ
left_from test xs from = indexes_from test from (drop from xs)

-- the indexes of all items that pass a test, in rising order
abbrev pub members : {X : Type 0} → (X → Bool) → List X → List ℕ
members test xs = indexes_from test 0 xs
