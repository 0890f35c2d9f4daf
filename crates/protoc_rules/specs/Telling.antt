-- A broken rule as it is told: its code, its text, where it stands, its second place, and what to
-- do.
use Rattle.std.specs.Prelude.{ℕ, ℤ, List, [], ◌∷◌, ◌++◌, ◌==◌, codes, length, slice_get, take}
use Rattle.std.specs.Prelude.{if◌then◌else◌}
use Rattle.std.specs.List.{flat_map}
use Rattle.std.specs.Option.{option_map, option_map_or}
use Rattle.std.specs.declared.option.Option.{Option}
use Rattle.std.specs.declared.option.Option.TheVariants.{None, Some}
use Rattle.pool_faults.specs.Labels.{span_at}
use Rattle.pool_types.specs.declared.contents.file.FileDescriptorInner.{FileDescriptorInner}
use Rattle.proto_types.specs.Readers.{text_of}
use Rattle.proto_types.specs.declared.file.FileDescriptorProto.{FileDescriptorProto}
use Rattle.protoc_rules.specs.declared.faults.StrictFault.{StrictFault}
use Rattle.protoc_rules.specs.Rules.{ToldRule, strict_rule}
use Rattle.verdict_texts.specs.Telling.{position_of}
use Rattle.verdict_texts.specs.declared.refused.ToldRefusal.{ToldRefusal}
use Rattle.verdict_texts.specs.declared.telling.ToldFault.{ToldFault}
use Rattle.verdict_texts.specs.declared.telling.ToldPlace.{ToldPlace}
use Rattle.verdict_texts.specs.declared.telling.ToldSecond.{ToldSecond}

-- the element at a place: the declaration that breaks a rule, which a file does not have
abbrev pub element_of : List ℕ → Option (List ℕ)
element_of name = if length name == 0 then None else Some name

-- the place of a path in a file, in the declaration with a full name
abbrev pub place_in : FileDescriptorProto → List ℕ → List ℤ → ToldPlace
place_in f name path = record {
  file = text_of f.name;
  position = option_map position_of (span_at f path);
  path = path;
  element = element_of name;
}

-- the name of what breaks a rule: of the declaration, or else of its file
abbrev pub broken_name : FileDescriptorProto → StrictFault → List ℕ
broken_name f s = if length s.element == 0 then text_of f.name else s.element

-- the text of a broken rule, by the name of what breaks it
abbrev pub broken_text : List ℕ → ToldRule → List ℕ
broken_text name rule = codes "'" ++ (name ++ (codes "' " ++ rule.text))

-- the second place of a broken rule, at a path of a file, in the declaration with a full name
abbrev pub second_in : FileDescriptorProto → ToldRule → List ℕ → List ℤ → ToldSecond
second_in f rule name path = record { words = rule.second; place = place_in f name path }

-- a broken rule of a file as it is told
abbrev pub told_in : FileDescriptorProto → StrictFault → ToldFault
told_in f s = record {
  code = (strict_rule s.kind).code;
  message = broken_text (broken_name f s) (strict_rule s.kind);
  place = Some (place_in f s.element s.path);
  second = option_map (second_in f (strict_rule s.kind) s.element) s.second;
  note = (strict_rule s.kind).remedy;
}

-- a broken rule as it is told by the files of its pool, of which it names one
abbrev pub told_strict : List FileDescriptorInner → StrictFault → List ToldFault
told_strict files s = option_map_or (λ f. told_in f.raw s ∷ []) (slice_get files s.file) []

-- what protoc refuses besides as it is told: so many faults at most, and how many there are
abbrev pub told_refusal : List FileDescriptorInner → List StrictFault → ℕ → ToldRefusal
told_refusal files faults most = record {
  told = flat_map (told_strict files) (take most faults);
  count = length faults;
}
