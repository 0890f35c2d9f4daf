-- Options: the bytes of all their parts, and what is read of them.
use Rattle.std.specs.Prelude.{ℕ, [], ◌∷◌, ◌++◌, Option, None, Some, Result, Ok, unwrap_or}
use Rattle.wire_format.specs.declared.fault.WireFault.{WireFault}
use Rattle.wire_format.specs.Tokens.{Value, Len}
use Rattle.descriptor_decoding.specs.Merging.{Merge, Reader, by_number, row, put}
use Rattle.descriptor_decoding.specs.Parts.{bool_merged, inner_merged}
use Rattle.proto_types.specs.declared.records.options.Options.{Options}
use Rattle.proto_types.specs.declared.records.options.FieldOptions.{FieldOptions}
use Rattle.proto_types.specs.declared.records.options.EnumOptions.{EnumOptions}
use Rattle.proto_types.specs.declared.records.options.Unread.{Unread}

-- options that may be there already
abbrev pub given : {T : Type 0} → T → Option (Options T) → Options T
given empty part = unwrap_or part (record { encoded = []; value = empty })

-- options: their bytes stand one behind another, and what is read of them counts in order
unfoldable pub options_merged : {T : Type 0} → T → Option (Reader T) → Value
    → Option (Options T) → Result (Option (Options T)) WireFault
options_merged empty inner (Len bytes ends) part =
    let before = given empty part in
    put (inner_merged inner ends bytes before.value)
    (λ v. Some (record { encoded = before.encoded ++ bytes; value = v }))
options_merged empty inner other part = Ok part

-- what is read of a field's options where nothing is said
abbrev pub no_field_options : FieldOptions
no_field_options = record { packed = None }

-- what is read of an enum's options where nothing is said
abbrev pub no_enum_options : EnumOptions
no_enum_options = record { allow_alias = None }

-- what is read of options of which nothing is read
abbrev pub unread : Unread
unread = record {}

-- what a field makes of a field's options
unfoldable pub field_options_merged : ℕ → Merge FieldOptions
field_options_merged levels n v m = by_number n m (
    row 2 (Ok (bool_merged v m.packed)) (λ x. record m { packed = x }) ∷ [])

-- what a field makes of an enum's options
unfoldable pub enum_options_merged : ℕ → Merge EnumOptions
enum_options_merged levels n v m = by_number n m (
    row 2 (Ok (bool_merged v m.allow_alias)) (λ x. record m { allow_alias = x }) ∷ [])

-- what a field makes of options of which nothing is read: nothing
unfoldable pub unread_merged : ℕ → Merge Unread
unread_merged levels n v m = Ok m
