use Rattle.std.proofs.Common.{◌≡◌, ◌++◌, List, map, ◌∙◌}
use Rattle.plain_data.specs.Lists.{flat_map_after}
use Rattle.pool_types.specs.declared.contents.file.FileDescriptorInner.{FileDescriptorInner}
use Rattle.proto_types.specs.declared.file.FileDescriptorProto.{FileDescriptorProto}
use Rattle.verdict_texts.specs.Places.{places_for}
use Rattle.verdict_texts.specs.Telling.{told_after}
use Rattle.verdict_texts.specs.declared.places.Unplaced.TheVariants.{Name, Index}
use Rattle.verdict_texts.proofs.Results.{if-ok}
use Rattle.verdict_texts.proofs.telling.tell_faults.Goals as goal

-- told by all records, and by the places of the new files
pub returns : goal.returns
returns c =
    let all : List FileDescriptorProto = map (λ (f : FileDescriptorInner). f.raw) c.args.linked.now ++ c.args.files.now in
    let known : c.in_ok-known.known.0 ≡ all = c.in_ok-known.ensures.files ∙ c.in_ok-records.ensures in
    let names : c.as_slice.result.now ≡ places_for c.args.files.now c.args.faults.now Name = c.as_slice.ensures ∙ c.in_ok-names.ensures in
    let indexes : c.as_slice-2.result.now ≡ places_for c.args.files.now c.args.faults.now Index = c.as_slice-2.ensures ∙ c.in_ok-indexes.ensures in
    if-ok c.tell_each.result (λ told is. is ∙ (λ i. flat_map_after (told_after (known i) (names i) (indexes i)) c.args.faults.now)) c.tell_each.ensures
