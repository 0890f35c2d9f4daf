-- The items of the fields and oneofs of a message that is carried to another setting: they are what they were.
use Rattle.std.proofs.Common.{◌≡◌, ◌<◌, ℕ, ◌+◌, pos, false, if◌then◌else◌, Option, None, Some, unwrap_or, List, [], ◌∷◌, map, refl, ap, ◌∙◌}
use Rattle.std.specs.List.{cons_option, enumerate_from, filter_map}
use Rattle.std.specs.Option.{option_map, option_map_or}
use Rattle.plain_data.specs.Maps.{inserted}
use Rattle.std.specs.Ordering.{int_eq}
use Rattle.proto_types.specs.declared.records.field.FieldDescriptorProto.{FieldDescriptorProto}
use Rattle.proto_types.specs.declared.tag.message.TheConstants as message
use Rattle.proto_types.specs.Names.{join}
use Rattle.proto_types.specs.Readers.{number_of, text_of}
use Rattle.proto_types.specs.declared.message.DescriptorProto.{DescriptorProto}
use Rattle.proto_types.specs.declared.message.OneofDescriptorProto.{OneofDescriptorProto}
use Rattle.pool_types.specs.declared.default_value.DefaultValue.{DefaultValue}
use Rattle.pool_types.specs.declared.kinds.KindIndex.{KindIndex}
use Rattle.pool_types.specs.declared.kinds.KindIndex.TheVariants.{Double}
use Rattle.pool_types.specs.declared.contents.oneof.OneofDescriptorInner.{OneofDescriptorInner}
use Rattle.record_walk.specs.Changed.{Changes}
use Rattle.record_walk.specs.Protos.{of_oneof}
use Rattle.record_walk.specs.Shown.{Shown, Surrounding, inside}
use Rattle.pool_types.specs.Syntaxes.{is_proto3}
use Rattle.plain_data.specs.Each.{map_enumerated}
use Rattle.field_rules.specs.Identities.{identity, named_at}
use Rattle.record_walk.specs.Place.{field_at, part_inside}
use Rattle.field_rules.specs.Encoding.{is_packed, supports_presence}
use Rattle.field_rules.specs.Maps.{by_json_name, by_name, by_number, item_number}
use Rattle.field_rules.specs.Oneofs.{members}
use Rattle.reference_pass.specs.SecondPass.{Faults, field_faults}
use Rattle.reference_pass.specs.Defaults.{field_default, field_default_faults}
use Rattle.reference_pass.specs.Types.{field_kind, type_faults}
use Rattle.reference_pass.specs.Items.{field_item, item_of_kind, oneof_items}
use Rattle.reference_pass.specs.Setting.{Setting}
use Rattle.pool_laws.proofs.Carries.{Carries}
use Rattle.pool_laws.proofs.Fields.{carried, kept, renamed, breaks-nothing}
use Rattle.pool_laws.proofs.Told.{made-again, told}

-- entries that are read off changed fields, where the change leaves what is read
module _ {X : Type 0} (change : FieldDescriptorProto → FieldDescriptorProto) (entry : ℕ × FieldDescriptorProto → Option X)
    (same : (n : ℕ) (f : FieldDescriptorProto) → entry (n, change f) ≡ entry (n, f)) where
  entries-same : (n : ℕ) (fs : List FieldDescriptorProto) → filter_map entry (enumerate_from n (map change fs)) ≡ filter_map entry (enumerate_from n fs)
  entries-same n [] = refl
  entries-same n (f ∷ fs) = λ j. cons_option (same n f j) (entries-same (n + 1) fs j)

module _ {s t : Setting} {c : Changes} {many : ℕ} (carries : Carries s t c many) (d : Shown) (below : d.file < many) where
  abbrev new : FieldDescriptorProto → FieldDescriptorProto
  new = carried carries d below

  -- the maps of the fields
  pub numbers-again : (fs : List FieldDescriptorProto) → by_number (map new fs) ≡ by_number fs
  numbers-again fs = ap inserted (entries-same new (λ e. option_map (λ k. (k, e.0)) (Some (item_number (number_of e.1.number)))) (λ n f. ap (λ (x : FieldDescriptorProto). Some (item_number (number_of x.number), n)) (kept carries d below f)) 0 fs)

  pub names-again : (fs : List FieldDescriptorProto) → by_name (map new fs) ≡ by_name fs
  names-again fs = ap inserted (entries-same new (λ e. option_map (λ k. (k, e.0)) (Some (text_of e.1.name))) (λ n f. ap (λ (x : FieldDescriptorProto). Some (text_of x.name, n)) (kept carries d below f)) 0 fs)

  pub json-names-again : (fs : List FieldDescriptorProto) → by_json_name (map new fs) ≡ by_json_name fs
  json-names-again fs = ap inserted (entries-same new (λ e. option_map (λ k. (k, e.0)) e.1.json_name) (λ n f. ap (λ (x : FieldDescriptorProto). option_map (λ k. (k, n)) x.json_name) (kept carries d below f)) 0 fs)

  -- the oneofs
  members-again : (fs : List FieldDescriptorProto) (oneof : ℕ) → members (map new fs) oneof ≡ members fs oneof
  members-again fs oneof =
      entries-same new (λ e. if option_map_or (int_eq (pos oneof)) e.1.oneof_index false then Some e.0 else None)
      (λ n f. ap (λ (x : FieldDescriptorProto). if option_map_or (int_eq (pos oneof)) x.oneof_index false then Some n else None) (kept carries d below f)) 0 fs

  pub oneofs-again : (here : Surrounding) (fs : List FieldDescriptorProto) (os : List OneofDescriptorProto) → oneof_items (map new fs) here os ≡ oneof_items fs here os
  oneofs-again here fs os =
      let item : (ℕ → List ℕ) → ℕ → OneofDescriptorProto → OneofDescriptorInner = λ of n o.
      let at = part_inside here message.ONEOF_DECL n (of_oneof o) in record { id = identity at; fields = of at.index } in
      λ j. map_enumerated (item (λ oneof. members-again fs oneof j)) 0 os

  -- the item of a field
  module _ (oneofs : List OneofDescriptorProto) where
    still-of-kind : (i : ℕ) (f : FieldDescriptorProto) (kind : KindIndex) (default : Option DefaultValue)
        → item_of_kind t oneofs (field_at (inside d) i (new f)) f kind default ≡ item_of_kind s oneofs (field_at (inside d) i f) f kind default
    still-of-kind i f kind default =
        let at = field_at (inside d) i f in
        let name = ap (λ (x : FieldDescriptorProto). text_of x.name) (kept carries d below f) in
        let syntax = carries.syntaxes d.file below in
        λ j. record (item_of_kind s oneofs at f kind default) {
          id = named_at d.file at.path (join d.full_name (name j)) (name j);
          is_packed = is_packed (is_proto3 (syntax j)) kind f;
          supports_presence = supports_presence (is_proto3 (syntax j)) kind f;
        }

    item-again : (i : ℕ) (f : FieldDescriptorProto) → type_faults s (field_at (inside d) i f) f ≡ [] → field_default_faults s (field_at (inside d) i f) f ≡ []
        → field_item t oneofs (field_at (inside d) i (new f)) (new f) ≡ field_item s oneofs (field_at (inside d) i f) f
    item-again i f typed_well default_well =
        let here = field_at (inside d) i f in
        let again = field_at (inside d) i (new f) in
        let name = ap (λ (x : FieldDescriptorProto). text_of x.name) (kept carries d below f) in
        let kind : field_kind t again (new f) ≡ field_kind s here f =
        (λ j. field_kind t (renamed carries d below i f (name j)) (new f)) ∙ (carries.typed here below f typed_well).kind_is in
        let default : field_default t again (new f) ≡ field_default s here f =
        (λ j. field_default t (renamed carries d below i f (name j)) (new f)) ∙ (carries.defaulted here below f typed_well default_well).value_is in
        (λ j. item_of_kind t oneofs again (kept carries d below f j) (unwrap_or (kind j) Double) (default j))
        ∙ still-of-kind i f (unwrap_or (field_kind s here f) Double) (field_default s here f)

    -- those of fields that break nothing
    module _ (m : DescriptorProto) where
      abbrev broken : ℕ → FieldDescriptorProto → Faults
      broken i f = field_faults s (d, m) (field_at (inside d) i f) f

      pub items-again : (i : ℕ) (fs : List FieldDescriptorProto) → told broken i fs ≡ []
          → map_enumerated (λ i f. field_item t oneofs (field_at (inside d) i f) f) i (map new fs) ≡ map_enumerated (λ i f. field_item s oneofs (field_at (inside d) i f) f) i fs
      items-again =
          made-again broken (λ i f. field_item t oneofs (field_at (inside d) i f) f) (λ i f. field_item s oneofs (field_at (inside d) i f) f) new
          (λ i f none. let own = breaks-nothing s (d, m) (field_at (inside d) i f) f none in item-again i f own.typed own.default)
