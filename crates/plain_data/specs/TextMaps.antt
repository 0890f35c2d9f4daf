-- Maps and lists of texts with numbers, as few entries or as many rows.
use Rattle.std.specs.Prelude.{ℕ, List, ⊤}
use Rattle.std.specs.FinMap as map
use Rattle.std.specs.List.{IsDistinct}
use Rattle.std.specs.Map.{keys_of}
use Rattle.std.specs.Str.{bytes_eq}
use Rattle.plain_data.specs.Maps.{ByText}
use Rattle.plain_data.specs.declared.text_map.Held.{Held}
use Rattle.plain_data.specs.declared.text_map.Held.TheVariants.{Few, Many}
use Rattle.plain_data.specs.declared.text_map.Listed.{Listed}
use Rattle.plain_data.specs.declared.text_map.Listed.TheVariants.{Few as ListedFew}
use Rattle.plain_data.specs.declared.text_map.Listed.TheVariants.{Many as ListedMany}

-- the finite map, wherever its entries stand
abbrev pub map_of : Held → ByText ℕ
map_of (Few entries) = map.from_entries entries.items
map_of (Many rows) = rows

-- no two of few entries have one text
abbrev pub AreSound : Held → Type 0
AreSound (Few entries) = IsDistinct bytes_eq (keys_of entries.items)
AreSound (Many rows) = ⊤

-- the entries of a list, wherever they stand
abbrev pub listed : Listed → List (List ℕ × ℕ)
listed (ListedFew entries) = entries.items
listed (ListedMany rows) = rows
