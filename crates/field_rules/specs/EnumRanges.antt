-- Which numbers a reserved range of an enum holds (descriptor.proto on `EnumReservedRange`).
use Rattle.std.specs.Prelude.{ℤ, pos, ◌+ℤ◌, Bool, ◌&&◌, int_le, int_lt, List, map, if◌then◌else◌}
use Rattle.proto_types.specs.declared.records.enumeration.EnumReservedRange.{EnumReservedRange}
use Rattle.proto_types.specs.Readers.{number_of}

-- a reserved range of an enum holds the numbers from its start to its end, which it holds too
abbrev pub reserves : ℤ → EnumReservedRange → Bool
reserves n range = int_le (number_of range.start) n && int_le n (number_of range.«end»)

-- the number behind another; behind the greatest there is none, and it is answered itself
abbrev pub number_behind : ℤ → ℤ
number_behind n = if int_lt n (pos 2147483647) then n +ℤ pos 1 else n

-- the reserved ranges of an enum, each as its start and the number behind its end
abbrev pub enum_bounds : List EnumReservedRange → List (ℤ × ℤ)
enum_bounds ranges = map (λ r. (number_of r.start, number_behind (number_of r.«end»))) ranges
