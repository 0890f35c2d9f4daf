-- Reserved names that are reserved twice, or that a declaration has (protobuf's `BuildMessage` and
-- `BuildEnum`).
use Rattle.std.specs.Prelude.{ℕ, ℤ, List, [], ◌∷◌, ◌++◌, take, position}
use Rattle.std.specs.FinMap as finite
use Rattle.std.specs.Option.{option_map}
use Rattle.std.specs.Str.{bytes_eq}
use Rattle.std.specs.declared.option.Option.{Option}
use Rattle.std.specs.declared.option.Option.TheVariants.{None, Some}
use Rattle.plain_data.specs.Maps.{ByText}
use Rattle.pool_types.specs.declared.contents.definition.Identity.{Identity}
use Rattle.protoc_rules.specs.declared.faults.Entry.{Entry}
use Rattle.protoc_rules.specs.declared.faults.StrictFault.{StrictFault}
use Rattle.protoc_rules.specs.declared.faults.StrictKind.TheVariants as kind
use Rattle.protoc_rules.specs.declared.reserved.ReservedNames as code
use Rattle.protoc_rules.specs.Faults.{at_entry, each_told, entry, entry_at, pair_faults}

-- the reserved names of a message or an enum with the field number of their list, and the names
-- that its fields or values have with that of theirs
pub record ReservedNames : Type 0 where
  pub names : List (List ℕ)
  pub tag : ℤ
  pub members : ByText ℕ
  pub member_tag : ℤ

-- what is lent to the code
abbrev pub reserved_names : code.ReservedNames → ReservedNames
reserved_names r = record {
  names = r.names.now;
  tag = r.tag;
  members = r.members.now;
  member_tag = r.member_tag;
}

-- the field or the value with a name
abbrev pub member_named : ByText ℕ → ℤ → List ℕ → Option Entry
member_named members tag name = option_map (entry tag) (finite.get members name)

-- that a field or a value has a reserved name, if one does
abbrev pub used_faults : Identity → Entry → Option Entry → List StrictFault
used_faults id e None = []
used_faults id e (Some member) = at_entry kind.ReservedName id member (Some e) ∷ []

-- what the reserved name with a position breaks
abbrev pub name_faults : Identity → ReservedNames → ℕ → List ℕ → List StrictFault
name_faults id r n name =
    pair_faults kind.DuplicateReservedName id (entry r.tag n)
    (entry_at r.tag (position (bytes_eq name) (take n r.names)))
    ++ used_faults id (entry r.tag n) (member_named r.members r.member_tag name)

-- what the reserved names of a message or an enum break
abbrev pub reserved_name_faults : Identity → ReservedNames → List StrictFault
reserved_name_faults id r = each_told (name_faults id r) r.names
