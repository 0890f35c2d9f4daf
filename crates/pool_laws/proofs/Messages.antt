-- A message that is carried to another setting: its fields break nothing, and its item is what it was.
use Rattle.std.proofs.Common.{◌≡◌, ◌<◌, ℕ, List, [], refl, ap, ◌∙◌}
use Rattle.proto_types.specs.Readers.{text_of}
use Rattle.proto_types.specs.Computed.{literals}
use Rattle.proto_types.specs.declared.message.DescriptorProto.{DescriptorProto, DescriptorProto', out-DescriptorProto}
use Rattle.record_walk.specs.Changed.{Changes, changed_fields, changed_message}
use Rattle.record_walk.specs.Shown.{Shown, inside}
use Rattle.field_rules.specs.Identities.{named_at}
use Rattle.field_rules.specs.Maps.{by_json_name, by_name, by_number}
use Rattle.reference_pass.specs.SecondPass.{message_faults}
use Rattle.reference_pass.specs.Items.{field_items, message_item, oneof_items}
use Rattle.reference_pass.specs.Setting.{Setting}
use Rattle.pool_laws.proofs.Settings.{IsMessage, SameRanges, message_at_place}
use Rattle.pool_laws.proofs.Carries.{Carries}
use Rattle.pool_laws.proofs.Fields.{fields-again}
use Rattle.pool_laws.proofs.SettingItems.{items-again, json-names-again, names-again, numbers-again, oneofs-again}

-- the parts of a changed message that its fields are read by
pub record Parts (c : Changes) (file : ℕ) (full_name : List ℕ) (m : DescriptorProto) : Type 0 where
  pub name : (out-DescriptorProto (changed_message c file full_name m)).name ≡ (out-DescriptorProto m).name
  pub fields : (out-DescriptorProto (changed_message c file full_name m)).field ≡ changed_fields c.field file full_name (out-DescriptorProto m).field
  pub oneofs : (out-DescriptorProto (changed_message c file full_name m)).oneof_decl ≡ (out-DescriptorProto m).oneof_decl
  pub ranges : SameRanges m (changed_message c file full_name m)

pub parts-of : (c : Changes) (file : ℕ) (full_name : List ℕ) (m : DescriptorProto) → Parts c file full_name m
unfolding literals
parts-of c file full_name (DescriptorProto' name fields n nested enums ranges extensions options oneofs reserved reserved_names) = record {
  name = refl;
  fields = refl;
  oneofs = refl;
  ranges = record { reserved = refl; extensions = refl };
}

module _ {s t : Setting} {c : Changes} {many : ℕ} (carries : Carries s t c many) (d : Shown) (below : d.file < many) (m : DescriptorProto) where
  abbrev new : DescriptorProto
  new = changed_message c d.file d.full_name m

  pub message-carried : message_faults s (message_at_place d m) m ≡ [] → IsMessage t d (message_item s (message_at_place d m) m) new
  message-carried none =
      let parts = parts-of c d.file d.full_name m in
      let old = out-DescriptorProto m in
      let same = items-again carries d below old.oneof_decl m 0 old.field none in
      let oneofs = (λ i. oneof_items (parts.fields i) (inside d) (parts.oneofs i)) ∙ oneofs-again carries d below (inside d) old.field old.oneof_decl in
      record {
        faults = fields-again carries d below m new parts.ranges parts.oneofs parts.fields none;
        item_is = λ i. record (message_item s (message_at_place d m) m) {
          id = named_at d.file d.path d.full_name (text_of (parts.name i));
          fields = ((λ i. field_items t (parts.oneofs i) (inside d) (parts.fields i)) ∙ same) i;
          field_numbers = (ap by_number parts.fields ∙ numbers-again carries d below old.field) i;
          field_names = (ap by_name parts.fields ∙ names-again carries d below old.field) i;
          field_json_names = (ap by_json_name parts.fields ∙ json-names-again carries d below old.field) i;
          oneofs = oneofs i;
        };
      }
