-- The record of a definition that is found has no list that is too long, where no file has one.
use Rattle.std.proofs.Common.{◌≡◌, ℕ, Bool, true, false, not, List, ◌∷◌, Option, Some, None, ap, subst, sym, ◌∙◌, if◌then◌else◌}
use Rattle.std.specs.FinMap as finite
use Rattle.std.specs.Option.{option_and_then, option_map_or}
use Rattle.pool_types.specs.Contents.{ByText}
use Rattle.name_resolution.specs.declared.filter.ResolveNameFilter.{ResolveNameFilter}
use Rattle.name_resolution.specs.Filter.{is_match}
use Rattle.name_resolution.specs.Resolution.{definition_found, found, has_leading_dot, invalid_type, judged, not_found, not_imported, resolution}
use Rattle.pool_types.specs.declared.contents.definition.Definition.{Definition}
use Rattle.proto_types.specs.declared.message.DescriptorProto.{DescriptorProto}
use Rattle.record_walk.specs.Counts.{no_counts, lists_fit}
use Rattle.record_walk.specs.Protos.{Proto, of_file, of_message, of_field, of_oneof, of_service, of_method, of_enum, of_value, of_extension, as_message}
use Rattle.record_walk.proofs.Reached.{found-fits}
use Rattle.reference_pass.specs.Definitions.{declaration_path, message_record, record_of}
use Rattle.reference_pass.specs.Setting.{Setting}
use Rattle.record_walk.specs.Short.{ShortFiles}

-- a record that is read as a message is one
as-message-of : (p : Option Proto) (m : DescriptorProto) → option_and_then as_message p ≡ Some m → p ≡ Some (of_message m)
as-message-of None m is = absurd (cc)
as-message-of (Some (of_message n)) m is = let same : n ≡ m = cc in ap (λ x. Some (of_message x)) same
as-message-of (Some (of_file _)) m is = absurd (cc)
as-message-of (Some (of_field _)) m is = absurd (cc)
as-message-of (Some (of_oneof _)) m is = absurd (cc)
as-message-of (Some (of_service _)) m is = absurd (cc)
as-message-of (Some (of_method _)) m is = absurd (cc)
as-message-of (Some (of_enum _)) m is = absurd (cc)
as-message-of (Some (of_value _)) m is = absurd (cc)
as-message-of (Some (of_extension _)) m is = absurd (cc)

pub message-fits : (s : Setting) (def : Definition) (m : DescriptorProto) → ShortFiles s.files → message_record s def ≡ Some m → lists_fit (of_message m) ≡ true
message-fits s def m short is = found-fits s.files no_counts def.file (declaration_path def.path) (of_message m) short (as-message-of (record_of s def) m is)

-- a full name that is found has its definition
judged-found : (seen : ℕ → Bool) (filter : ResolveNameFilter) (name : List ℕ) (got : Option Definition) (def : Definition)
    → Some def ≡ definition_found (option_map_or (judged seen filter name) got not_found) → option_map_or (judged seen filter name) got not_found ≡ found name def
judged-found seen filter name None def is = absurd (cc)
judged-found seen filter name (Some d) def is = by (not (seen d.file)) (not (is_match filter d.kind)) is
  where
    by : (unseen other : Bool) → Some def ≡ definition_found (if unseen then not_imported name d.file else (if other then invalid_type name d filter else found name d))
        → (if unseen then not_imported name d.file else (if other then invalid_type name d filter else found name d)) ≡ found name def
    by true other is = absurd (cc)
    by false true is = absurd (cc)
    by false false is = let same : def ≡ d = cc in ap (found name) (sym same)

-- what is found by a name with a leading dot has the rest of it as its full name
pub found-dotted : (names : ByText Definition) (seen : ℕ → Bool) (filter : ResolveNameFilter) (scope name full : List ℕ) (def : Definition) → name ≡ 46 ∷ full
    → Some def ≡ (if has_leading_dot name then definition_found (resolution names seen filter scope name) else None) → resolution names seen filter scope name ≡ found full def
found-dotted names seen filter scope name full def written is =
    let here = subst (λ n. Some def ≡ (if has_leading_dot n then definition_found (resolution names seen filter scope n) else None)) written is in
    ap (resolution names seen filter scope) written ∙ judged-found seen filter full (finite.get names full) def here
