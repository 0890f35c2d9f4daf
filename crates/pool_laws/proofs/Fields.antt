-- The fields of a message that is carried to another setting: they break nothing.
use Rattle.std.proofs.Common.{◌≡◌, ◌<◌, ℕ, not, is_some, List, [], ◌++◌, map, take, ap, ◌∙◌}
use Rattle.std.specs.List.{take-map}
use Rattle.std.specs.Option.{option_map_or}
use Rattle.proto_types.specs.declared.records.field.FieldDescriptorProto.{FieldDescriptorProto}
use Rattle.plain_data.specs.Lists.{at, only_if}
use Rattle.proto_types.specs.Names.{join}
use Rattle.proto_types.specs.Readers.{text_of}
use Rattle.proto_types.specs.declared.message.DescriptorProto.{DescriptorProto, out-DescriptorProto}
use Rattle.pool_faults.specs.declared.fault.DescriptorErrorKind.TheVariants.{InvalidOneofIndex}
use Rattle.record_walk.specs.Changed.{Changes}
use Rattle.record_walk.specs.Shown.{Shown, inside}
use Rattle.record_walk.specs.Place.{field_at}
use Rattle.field_rules.specs.Numbers.{field_number_faults}
use Rattle.field_rules.specs.Duplicates.{duplicate_faults}
use Rattle.field_rules.specs.Oneofs.{oneof_faults}
use Rattle.reference_pass.specs.SecondPass.{Faults, Owner, field_faults, field_record_faults}
use Rattle.reference_pass.specs.Defaults.{field_default_faults}
use Rattle.reference_pass.specs.Types.{type_faults}
use Rattle.reference_pass.specs.Setting.{Setting}
use Rattle.pool_laws.proofs.Settings.{SameRanges}
use Rattle.pool_laws.proofs.SettingRelinks.{again-still}
use Rattle.pool_laws.proofs.Carries.{Carries}
use Rattle.reference_pass.proofs.Unbroken.{both-empty}
use Rattle.pool_laws.proofs.Numbered.{field-numbered}
use Rattle.pool_laws.proofs.Told.{told, told-changed}

-- a field that breaks nothing: nothing of its own, by its number, its type, its default value and its oneof
pub record BreaksNothing (s : Setting) (owner : Owner) (d : Shown) (f : FieldDescriptorProto) : Type 0 where
  pub number : field_number_faults s.files owner.0 owner.1 d f ≡ []
  pub typed : type_faults s d f ≡ []
  pub default : field_default_faults s d f ≡ []
  pub oneof : oneof_faults (out-DescriptorProto owner.1).oneof_decl f ≡ []
  pub other : duplicate_faults s.files owner.0.file owner.0.path (take d.index (out-DescriptorProto owner.1).field) d.index f ≡ []

pub breaks-nothing : (s : Setting) (owner : Owner) (d : Shown) (f : FieldDescriptorProto) → field_faults s owner d f ≡ [] → BreaksNothing s owner d f
breaks-nothing s owner d f none =
    let number = field_number_faults s.files owner.0 owner.1 d f in
    let typed = type_faults s d f in
    let default = field_default_faults s d f in
    let parts = both-empty (field_record_faults s owner d f) (duplicate_faults s.files owner.0.file owner.0.path (take d.index (out-DescriptorProto owner.1).field) d.index f) none in
    let three = both-empty (number ++ typed ++ default) (oneof_faults (out-DescriptorProto owner.1).oneof_decl f) parts.0 in
    let two = both-empty (number ++ typed) default three.0 in
    let one = both-empty number typed two.0 in
    record { number = one.0; typed = one.1; default = two.1; oneof = three.1; other = parts.1 }

-- and the other way round
pub nothing-broken : (s : Setting) (owner : Owner) (d : Shown) (f : FieldDescriptorProto) → BreaksNothing s owner d f → field_faults s owner d f ≡ []
nothing-broken s owner d f parts = λ j. (parts.number j ++ parts.typed j ++ parts.default j ++ parts.oneof j) ++ parts.other j

module _ {s t : Setting} {c : Changes} {many : ℕ} (carries : Carries s t c many) (d : Shown) (below : d.file < many) where
  -- a field of the message as it is carried
  abbrev pub carried : FieldDescriptorProto → FieldDescriptorProto
  carried f = c.field d.file (join d.full_name (text_of f.name)) f

  pub kept : (f : FieldDescriptorProto) → carried f ≡ record f { type_name = (carried f).type_name; type_ = (carried f).type_ }
  kept f = carries.kept d.file (join d.full_name (text_of f.name)) f

  -- a carried field where it stands, by the name that it had
  abbrev pub renamed : (i : ℕ) (f : FieldDescriptorProto) → List ℕ → Shown
  renamed i f name = record (field_at (inside d) i (carried f)) { full_name = join d.full_name name }

  module _ (m k : DescriptorProto) (ranges : SameRanges m k) (oneofs : (out-DescriptorProto k).oneof_decl ≡ (out-DescriptorProto m).oneof_decl)
      (fields : (out-DescriptorProto k).field ≡ map carried (out-DescriptorProto m).field) where
    field-again : (i : ℕ) (f : FieldDescriptorProto) → field_faults s (d, m) (field_at (inside d) i f) f ≡ [] → field_faults t (d, k) (field_at (inside d) i (carried f)) (carried f) ≡ []
    field-again i f none =
        let fs = (out-DescriptorProto m).field in
        let here = field_at (inside d) i f in
        let again = field_at (inside d) i (carried f) in
        let parts = breaks-nothing s (d, m) here f none in
        let name = ap (λ (x : FieldDescriptorProto). text_of x.name) (kept f) in
        let index = ap (λ (x : FieldDescriptorProto). x.oneof_index) (kept f) in
        nothing-broken t (d, k) again (carried f) (record {
          number = field-numbered s.files t.files d d here again m k f (carried f) ranges (ap (λ (x : FieldDescriptorProto). x.number) (kept f)) (ap (λ (x : FieldDescriptorProto). x.extendee) (kept f)) parts.number;
          typed = (λ j. type_faults t (renamed i f (name j)) (carried f)) ∙ (carries.typed here below f parts.typed).faults;
          default = (λ j. field_default_faults t (renamed i f (name j)) (carried f)) ∙ (carries.defaulted here below f parts.typed parts.default).faults;
          oneof = (λ j. option_map_or (λ n. only_if (not (is_some (at (oneofs j) n))) InvalidOneofIndex) (index j) []) ∙ parts.oneof;
          other =
              ap (λ earlier. duplicate_faults t.files d.file d.path earlier i (carried f)) (ap (take i) fields ∙ take-map carried i fs)
              ∙ again-still s.files t.files d.file d.file d.path carried (λ x. ap (λ (y : FieldDescriptorProto). y.number) (kept x)) (λ x. ap (λ (y : FieldDescriptorProto). y.json_name) (kept x)) (take i fs) i f parts.other;
        })

    -- what the fields of the message break, where the carried ones are read
    pub fields-again : told (λ i f. field_faults s (d, m) (field_at (inside d) i f) f) 0 (out-DescriptorProto m).field ≡ []
        → told (λ i f. field_faults t (d, k) (field_at (inside d) i f) f) 0 (out-DescriptorProto k).field ≡ []
    fields-again none =
        let broken : ℕ → FieldDescriptorProto → Faults = λ i f. field_faults t (d, k) (field_at (inside d) i f) f in
        ap (told broken 0) fields ∙ told-changed (λ i f. field_faults s (d, m) (field_at (inside d) i f) f) broken carried field-again 0 (out-DescriptorProto m).field none
