-- Values of an enum of proto3 whose names are one without the enum's name (protobuf's
-- `CheckEnumValueUniqueness`).
use Rattle.std.specs.Prelude.{ℕ, nat_lt, Bool, true, false, not, ◌&&◌, List, length, map, position}
use Rattle.std.specs.Prelude.{slice_get, take, drop, if◌then◌else◌}
use Rattle.std.specs.Option.{option_map_or}
use Rattle.std.specs.Ordering.{int_eq}
use Rattle.std.specs.Str.{bytes_eq, str_to_ascii_lowercase}
use Rattle.std.specs.declared.option.Option.{Option}
use Rattle.std.specs.declared.option.Option.TheVariants.{None, Some}
use Rattle.proto_types.specs.declared.tag.enum_.TheConstants as enumeration
use Rattle.pool_types.specs.LookUps.{declared_name}
use Rattle.pool_types.specs.declared.contents.enumeration.EnumDescriptorInner.{EnumDescriptorInner}
use Rattle.pool_types.specs.declared.contents.enumeration.EnumValueDescriptorInner.{EnumValueDescriptorInner}
use Rattle.protoc_rules.specs.declared.faults.StrictFault.{StrictFault}
use Rattle.protoc_rules.specs.declared.faults.StrictKind.TheVariants as kind
use Rattle.protoc_rules.specs.Faults.{each_told, entry, entry_at, pair_faults}
use Rattle.protoc_rules.specs.Maps.{camel_case}

-- whether two names are equal but for the case of ASCII's letters
abbrev pub are_alike : List ℕ → List ℕ → Bool
are_alike x y = bytes_eq (str_to_ascii_lowercase x) (str_to_ascii_lowercase y)

-- whether a name begins with a prefix, in any case of ASCII's letters, and has more behind it
abbrev pub begins_with : List ℕ → List ℕ → Bool
begins_with prefix name = nat_lt (length prefix) (length name)
    && are_alike (take (length prefix) name) prefix

-- a name in camel case without a prefix, where it begins with that
abbrev pub without_prefix : List ℕ → List ℕ → List ℕ
without_prefix prefix name =
    if begins_with prefix name then camel_case true (drop (length prefix) name) else name

-- the name of a value in camel case, where each letter that no underscore stands before is in lower
-- case, and without the letters of the enum's name
abbrev pub plain_name : List ℕ → EnumValueDescriptorInner → List ℕ
plain_name prefix v =
    without_prefix prefix (camel_case true (str_to_ascii_lowercase (declared_name v.id)))

-- the plain names of the values of an enum
abbrev pub plain_names : EnumDescriptorInner → List (List ℕ)
plain_names e = map (plain_name (camel_case false (declared_name e.id))) e.values

-- whether the values with two positions have two numbers
abbrev pub differ : List EnumValueDescriptorInner → ℕ → ℕ → Bool
differ values n k = option_map_or
    (λ v. option_map_or (λ w. not (int_eq v.number w.number)) (slice_get values k) false)
    (slice_get values n) false

-- a position, where the value there has another number than one with a position
abbrev pub if_differs : List EnumValueDescriptorInner → ℕ → Option ℕ → Option ℕ
if_differs values n None = None
if_differs values n (Some k) = if differ values n k then Some k else None

-- that the value with a position has another number than one with an earlier position, if there is
-- one with its plain name
abbrev pub clash_with : EnumDescriptorInner → ℕ → Option ℕ → List StrictFault
clash_with e n first = pair_faults kind.ClashingValues e.id (entry enumeration.VALUE n)
    (entry_at enumeration.VALUE (if_differs e.values n first))

-- that the value with a position has the plain name of an earlier one, of which the first is told,
-- and another number than that
abbrev pub clash_faults : EnumDescriptorInner → List (List ℕ) → ℕ → List ℕ → List StrictFault
clash_faults e names n name = clash_with e n (position (bytes_eq name) (take n names))

-- which values of an enum have the plain names of earlier ones
abbrev pub value_faults : EnumDescriptorInner → List StrictFault
value_faults e = each_told (clash_faults e (plain_names e)) (plain_names e)
