-- The options of items, and what the source of their file says of them.
use Rattle.std.specs.Prelude.{ℕ, ℤ, List, slice_get}
use Rattle.std.specs.Option.{option_and_then, option_map}
use Rattle.std.specs.declared.option.Option.{Option}
use Rattle.proto_types.specs.declared.records.source.Location.{Location}
use Rattle.pool_types.specs.Contents.{Contents}
use Rattle.record_lists.specs.Options.{encoded, options_of}
use Rattle.record_lists.specs.Places.{location_of}
use Rattle.numbered_pool.specs.Items.{identity_of}
use Rattle.numbered_pool.specs.Numbers.{definition_kind}
use Rattle.numbered_pool.specs.declared.numbers.Item.{Item}

-- the bytes of the options of a file; none where there are none
abbrev pub file_options : Contents → ℕ → Option (List ℕ)
file_options p file = option_map (λ f. encoded f.raw.options) (slice_get p.files file)

-- the bytes of the options of an item; none where there are none
abbrev pub item_options : Contents → Item → Option (List ℕ)
item_options p item =
    option_and_then (λ id. option_and_then (options_of p.files id) (definition_kind item))
    (identity_of p item)

-- the path of an item in the record of its file
abbrev pub item_path : Contents → Item → Option (List ℤ)
item_path p item = option_map (λ id. id.path) (identity_of p item)

-- the first location of an item in the source of its file
abbrev pub item_location : Contents → Item → Option Location
item_location p item = option_and_then (location_of p.files) (identity_of p item)

-- the numbers of the place of an item
abbrev pub item_span : Contents → Item → Option (List ℤ)
item_span p item = option_map (λ l. l.span) (item_location p item)

-- the comment before an item
abbrev pub leading_comments : Contents → Item → Option (List ℕ)
leading_comments p item = option_and_then (λ l. l.leading_comments) (item_location p item)

-- the comment behind an item
abbrev pub trailing_comments : Contents → Item → Option (List ℕ)
trailing_comments p item = option_and_then (λ l. l.trailing_comments) (item_location p item)

-- the comment at a position among those that stand before an item by themselves
abbrev pub detached_comments : Contents → Item → ℕ → Option (List ℕ)
detached_comments p item position =
    option_and_then (λ l. slice_get l.leading_detached_comments position) (item_location p item)
