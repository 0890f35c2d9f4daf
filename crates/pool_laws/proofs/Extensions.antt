-- An extension that is carried to another setting: it breaks nothing, and its item and what linking makes of it are what they were.
use Rattle.std.proofs.Common.{◌≡◌, ◌<◌, ℕ, Option, unwrap_or, List, [], ◌∷◌, refl, ap, sym, subst, ◌∙◌}
use Rattle.std.specs.List.{find}
use Rattle.proto_types.specs.declared.records.field.FieldDescriptorProto.{FieldDescriptorProto}
use Rattle.proto_types.specs.Readers.{label_of, number_of, text_of}
use Rattle.pool_types.specs.declared.contents.extension.ExtensionDescriptorInner.{ExtensionDescriptorInner}
use Rattle.pool_types.specs.Extension.{has_number}
use Rattle.pool_types.specs.declared.kinds.KindIndex.TheVariants.{Double}
use Rattle.record_walk.specs.Changed.{Changes}
use Rattle.record_walk.specs.Shown.{Shown}
use Rattle.name_resolution.specs.declared.filter.ResolveNameFilter.TheVariants.{FieldType as AnyType}
use Rattle.name_resolution.specs.Resolution.{Resolution}
use Rattle.pool_types.specs.Kinds.{cardinality_of}
use Rattle.pool_types.specs.Syntaxes.{is_proto3}
use Rattle.field_rules.specs.Identities.{named_at}
use Rattle.field_rules.specs.Encoding.{is_packed}
use Rattle.field_rules.specs.Maps.{item_number}
use Rattle.reference_pass.specs.SecondPass.{extension_faults}
use Rattle.reference_pass.specs.Extension.{number_faults}
use Rattle.reference_pass.specs.Items.{extension_item}
use Rattle.reference_pass.specs.Linked.{linked_extension, typed}
use Rattle.reference_pass.specs.References.{resolve_message, index_or_max}
use Rattle.reference_pass.specs.Setting.{Setting, resolve}
use Rattle.pool_laws.proofs.Settings.{IsExtension, extension_at_place}
use Rattle.pool_laws.proofs.Carries.{Carries}
use Rattle.reference_pass.proofs.Unbroken.{all-parts, extension-apart, extension-parts, untaken}

-- a field is linked whatever it extends
extendee-aside : (r : Resolution) (f : FieldDescriptorProto) (extendee : Option (List ℕ)) (name : List ℕ)
    → let g : FieldDescriptorProto = record f { extendee = extendee } in let left : FieldDescriptorProto = elim name [ [] ↦ g | _ ∷ _ ↦ typed r g ] in
    let right : FieldDescriptorProto = elim name [ [] ↦ f | _ ∷ _ ↦ typed r f ] in left ≡ record right { extendee = extendee }
extendee-aside r f extendee [] = refl
extendee-aside r f extendee (c ∷ cs) = refl

module _ {s t : Setting} {c : Changes} {many : ℕ} (carries : Carries s t c many) (d : Shown) (below : d.file < many) (x : FieldDescriptorProto) where
  -- the extension as a field, and the message that it extends
  abbrev field : FieldDescriptorProto
  field = c.field d.file d.full_name x

  abbrev extendee : Option (List ℕ)
  extendee = (c.extension d.file d.full_name x).extendee

  abbrev IsCarried : List ExtensionDescriptorInner → FieldDescriptorProto → Type 0
  IsCarried earlier = IsExtension t earlier d (extension_item s (extension_at_place d x) x) (linked_extension s d.file d.full_name x)

  by-parts : (earlier : List ExtensionDescriptorInner) → extension_faults s earlier d x ≡ [] → IsCarried earlier (record field { extendee = extendee })
  by-parts earlier none =
      let new : FieldDescriptorProto = record field { extendee = extendee } in
      let parts = extension-parts s d x earlier none in
      let named = carries.extendees d below x parts.extendee in
      let typed = carries.typed d below x parts.type_ in
      let default = carries.defaulted d below x parts.type_ parts.default in
      let kept = carries.kept d.file d.full_name x in
      let number_is = ap (λ (y : FieldDescriptorProto). y.number) kept in
      let number_still : number_faults t d new (resolve_message t d extendee) ≡ [] = carries.numbered d below x new number_is parts.extendee parts.number in
      let still_new = (λ j. find (has_number (index_or_max (named.index_is j)) (item_number (number_of (number_is j)))) earlier) ∙ (extension-apart s d x earlier none).1 in
      let syntax = carries.syntaxes d.file below in
      let aside = extendee-aside (resolve t d.file d.full_name AnyType (text_of field.type_name)) field extendee (text_of field.type_name) in
      let linked = aside ∙ (λ j. record (typed.linked_is j) { extendee = extendee }) in
      record {
        faults = all-parts t d new earlier (record {
          extendee = named.faults;
          number = number_still;
          taken = untaken t d new earlier (resolve_message t d extendee) still_new;
          type_ = typed.faults;
          default = default.faults;
        });
        item_is =
            (λ j. record (extension_item t (extension_at_place d new) new) {
              id = named_at d.file d.path d.full_name (text_of (kept j).name);
              number = item_number (number_of (kept j).number);
              extendee = index_or_max (named.index_is j);
              kind = unwrap_or (typed.kind_is j) Double;
              is_packed = is_packed (is_proto3 (syntax j)) (unwrap_or (typed.kind_is j) Double) (kept j);
              cardinality = cardinality_of (label_of (kept j).label);
              default = default.value_is j;
            });
        linked_is = λ j. record (linked j) { extendee = named.linked_is j };
      }

  pub extension-carried : (earlier : List ExtensionDescriptorInner) → extension_faults s earlier d x ≡ [] → IsCarried earlier (c.extension d.file d.full_name x)
  extension-carried earlier none = subst (IsCarried earlier) (sym (carries.extensions d.file d.full_name x)) (by-parts earlier none)
