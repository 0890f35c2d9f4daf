-- Fields of sources.
use Rattle.std.specs.Prelude.{ℕ, [], ◌∷◌}
use Rattle.descriptor_decoding.specs.Merging.{Merge, within, by_number, row}
use Rattle.descriptor_decoding.specs.Parts.{int32s_merged, messages_merged, text_merged}
use Rattle.descriptor_decoding.specs.Parts.{texts_merged}
use Rattle.proto_types.specs.Source.{no_location}
use Rattle.proto_types.specs.declared.records.source.Location.{Location}
use Rattle.proto_types.specs.declared.records.source.SourceCodeInfo.{SourceCodeInfo}

-- what a field makes of a location
unfoldable pub location_merged : ℕ → Merge Location
location_merged levels n v m = by_number n m (
    row 1 (int32s_merged v m.path) (λ x. record m { path = x }) ∷
    row 2 (int32s_merged v m.span) (λ x. record m { span = x }) ∷
    row 3 (text_merged v m.leading_comments) (λ x. record m { leading_comments = x }) ∷
    row 4 (text_merged v m.trailing_comments) (λ x. record m { trailing_comments = x }) ∷
    row 6 (texts_merged v m.leading_detached_comments)
    (λ x. record m { leading_detached_comments = x }) ∷ [])

-- what a field makes of a file's locations
unfoldable pub source_merged : ℕ → Merge SourceCodeInfo
source_merged levels n v m = by_number n m (
    row 1 (messages_merged no_location (within levels location_merged) v m.location)
    (λ x. record m { location = x }) ∷ [])
