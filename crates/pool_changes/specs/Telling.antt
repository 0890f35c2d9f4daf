-- A change as it is told: its code, its text, where it stands in both versions, and what to do.
use Rattle.std.specs.Prelude.{ℕ, List, codes, slice_get, option_map, is_some, Bool, true, false}
use Rattle.std.specs.Prelude.{Option, Some}
use Rattle.pool_faults.specs.Labels.{span_at}
use Rattle.pool_types.specs.declared.contents.definition.Identity.{Identity}
use Rattle.proto_types.specs.Readers.{text_of}
use Rattle.proto_types.specs.declared.file.FileDescriptorProto.{FileDescriptorProto}
use Rattle.schema_changes.specs.Changes.{Compared}
use Rattle.schema_changes.specs.Parts.{Parts}
use Rattle.schema_changes.specs.declared.change.WireChange.{WireChange}
use Rattle.verdict_texts.specs.Telling.{position_of}
use Rattle.verdict_texts.specs.declared.telling.ToldFault.{ToldFault}
use Rattle.verdict_texts.specs.declared.telling.ToldPlace.{ToldPlace}
use Rattle.verdict_texts.specs.declared.telling.ToldSecond.{ToldSecond}
use Rattle.pool_changes.specs.declared.direction.Direction.{Direction}
use Rattle.pool_changes.specs.Members.{old_id, old_shown, new_shown}
use Rattle.pool_changes.specs.Words.{change_code, change_words, change_note}

-- where a declaration of a file stands
abbrev pub place_in : Identity → FileDescriptorProto → ToldPlace
place_in id f = record {
  file = text_of f.name;
  position = option_map position_of (span_at f id.path);
  path = id.path;
  element = Some id.full_name;
}

-- where a declaration of a pool stands
abbrev pub place_of : Parts → Identity → Option ToldPlace
place_of p id = option_map (λ f. place_in id f.raw) (slice_get p.files id.file)

-- the words before the place in the old version, by whether it has such a field or extension
abbrev pub old_place_words : Bool → List ℕ
old_place_words true = codes "it was declared at "
old_place_words false = codes "its message was declared at "

-- the place in the old version
abbrev pub old_place : Compared → ℕ → Option ToldSecond
old_place c n = option_map
    (λ place. record { words = old_place_words (is_some (old_id c n)); place = place })
    (place_of c.old (old_shown c n))

-- a change as it is told
abbrev pub told_change : Direction → Compared → WireChange → ToldFault
told_change d c w = record {
  code = change_code w.kind;
  message = change_words d c w.kind w.number;
  place = place_of c.new (new_shown c w.number);
  second = old_place c w.number;
  note = change_note d w.kind w.number;
}
