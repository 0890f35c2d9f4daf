-- The items that stand in a file or in a message.
use Rattle.std.specs.Prelude.{ℕ, List, slice_get}
use Rattle.std.specs.Option.{option_and_then}
use Rattle.std.specs.declared.option.Option.{Option}
use Rattle.std.specs.declared.option.Option.TheVariants.{None, Some}
use Rattle.pool_types.specs.Contents.{Contents}
use Rattle.pool_types.specs.Members.{enum_in, extension_in, members, message_in, service_in}
use Rattle.pool_types.specs.declared.contents.definition.DefinitionKind.{DefinitionKind}
use Rattle.pool_types.specs.declared.contents.definition.DefinitionKind.TheVariants as kind
use Rattle.pool_types.specs.declared.declared.Parent.{Parent}
use Rattle.pool_types.specs.declared.declared.Parent.TheVariants as parent
use Rattle.numbered_pool.specs.Numbers.{kinds}

-- the indexes of the items of a kind that stand in a file and in no message, or in a message, in
-- rising order; of kinds without indexes there is no list
abbrev pub items_in : Contents → Parent → DefinitionKind → Option (List ℕ)
items_in p around (kind.Message _) = Some (members (message_in around) p.messages)
items_in p around (kind.Service _) = Some (members (service_in around) p.services)
items_in p around (kind.Enum _) = Some (members (enum_in around) p.enums)
items_in p around (kind.Extension _) = Some (members (extension_in around) p.extensions)
items_in p around _ = None

-- those of the kind with a number
abbrev pub numbered_in : Contents → Parent → ℕ → Option (List ℕ)
numbered_in p around number = option_and_then (items_in p around) (slice_get (kinds 0) number)

-- those that stand in the file with an index, and in no message
abbrev pub file_items : Contents → ℕ → ℕ → Option (List ℕ)
file_items p file number =
    option_and_then (λ f. numbered_in p (parent.File (record { index = file })) number)
    (slice_get p.files file)

-- those that stand in the message with an index, and in none of the messages there
abbrev pub message_items : Contents → ℕ → ℕ → Option (List ℕ)
message_items p message number =
    option_and_then (λ m. numbered_in p (parent.Message (record { index = message })) number)
    (slice_get p.messages message)
