-- A fault as it is told: its code, its text, where it stands, its second place, and what is told
-- beside it.
use Rattle.std.specs.Prelude.{ℕ, ℤ, pos, ◌+ℤ◌, List, [], ◌∷◌, ◌++◌, slice_index_or}
use Rattle.std.specs.Option.{option_map}
use Rattle.std.specs.declared.option.Option.{Option}
use Rattle.plain_data.specs.Lists.{flat_map_after}
use Rattle.proto_types.specs.declared.file.FileDescriptorProto.{FileDescriptorProto}
use Rattle.pool_faults.specs.Fault.{fault_text}
use Rattle.pool_faults.specs.declared.label.Label.{Label}
use Rattle.pool_faults.specs.declared.fault.DescriptorErrorKind.{DescriptorErrorKind}
use Rattle.verdict_texts.specs.Elements.{element_of}
use Rattle.verdict_texts.specs.FaultKinds.{fault_kind}
use Rattle.verdict_texts.specs.Notes.{note}
use Rattle.verdict_texts.specs.Places.{place_of, places_for}
use Rattle.verdict_texts.specs.declared.places.Unplaced.TheVariants.{Name, Index}
use Rattle.verdict_texts.specs.declared.telling.Position.{Position}
use Rattle.verdict_texts.specs.declared.telling.ToldFault.{ToldFault}
use Rattle.verdict_texts.specs.declared.telling.ToldPlace.{ToldPlace}
use Rattle.verdict_texts.specs.declared.telling.ToldSecond.{ToldSecond}

-- where a span begins, from 1
abbrev pub position_of : List ℤ → Position
position_of span = record {
  line = slice_index_or span 0 (pos 0) +ℤ pos 1;
  column = slice_index_or span 1 (pos 0) +ℤ pos 1;
}

-- a label: its file, where it begins, its path, and the element around it
abbrev pub told_place : List FileDescriptorProto → Label → ToldPlace
told_place files label = record {
  file = label.file;
  position = option_map position_of label.span;
  path = label.path;
  element = element_of files label;
}

-- the second place of a fault: the words before it, and its label
abbrev pub second_at : List FileDescriptorProto → List ℕ × Label → ToldSecond
second_at files second = record { words = second.0; place = told_place files second.1 }

-- a fault that stands at a place, if one is shown
abbrev pub told_fault : List FileDescriptorProto → DescriptorErrorKind → Option Label
    → ToldFault
told_fault files fault place = record {
  code = (fault_kind fault).code;
  message = fault_text fault;
  place = option_map (told_place files) place;
  second = option_map (second_at files) (fault_kind fault).second;
  note = note files fault place;
}

-- what is told of a fault, by those before it in its batch, and by the places of names and of
-- indexes
abbrev pub told_after : List FileDescriptorProto → List Label → List Label
    → List DescriptorErrorKind → DescriptorErrorKind → List ToldFault
told_after files names indexes earlier fault =
    told_fault files fault (place_of names indexes earlier fault) ∷ []

-- faults of a batch from the first on, by the records of the files of the pool and of the new files
abbrev pub told_faults : List FileDescriptorProto → List FileDescriptorProto
    → List DescriptorErrorKind → List ToldFault
told_faults linked new faults = flat_map_after
    (told_after (linked ++ new) (places_for new faults Name) (places_for new faults Index)) faults
