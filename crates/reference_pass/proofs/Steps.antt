-- What the second pass makes of no declarations, and of declarations in two parts.
use Rattle.std.proofs.Common.{◌≡◌, Option, List, [], ◌∷◌, ◌++◌, map, ap, sym, ◌∙◌, append_assoc, append-nil}
use Rattle.std.proofs.lemmas.List.{map-append}
use Rattle.std.proofs.lemmas.List.Elements.{filter_map-append}
use Rattle.std.specs.Option.{option_map}
use Rattle.pool_types.specs.declared.contents.extension.ExtensionDescriptorInner.{ExtensionDescriptorInner}
use Rattle.record_walk.specs.Protos.{Proto, as_message, as_enum, as_service, as_extension}
use Rattle.record_walk.specs.Shown.{Shown, of_kind}
use Rattle.record_walk.specs.Telling.{with_faults}
use Rattle.record_walk.proofs.Telling.{told-two}
use Rattle.field_rules.specs.EnumItems.{enum_item}
use Rattle.reference_pass.specs.Items.{made_of, message_item, service_item, extension_item, extension_items}
use Rattle.reference_pass.specs.SecondPass.{owner_faults, owners_faults}
use Rattle.reference_pass.specs.Setting.{Setting}
use Rattle.reference_pass.specs.Resolve.{ReferenceState, with_declarations}

pub kind-append : {X : Type 0} (pick : Proto → Option X) (ds es : List Shown) → of_kind pick (ds ++ es) ≡ of_kind pick ds ++ of_kind pick es
kind-append pick ds es = filter_map-append (λ d. option_map (λ x. (d, x)) (pick d.proto)) ds es

module _ {X Y : Type 0} (pick : Proto → Option X) (make : Shown → X → Y) where
  pub made-append : (ds es : List Shown) → made_of pick make (ds ++ es) ≡ made_of pick make ds ++ made_of pick make es
  made-append ds es =
      let of : Shown × X → Y = λ e. make e.0 e.1 in
      ap (map of) (kind-append pick ds es) ∙ map-append of (of_kind pick ds) (of_kind pick es)

  -- what is made of two parts in turn stands behind what there was
  pub made-behind : (had : List Y) (ds es : List Shown) → (had ++ made_of pick make ds) ++ made_of pick make es ≡ had ++ made_of pick make (ds ++ es)
  made-behind had ds es = append_assoc had (made_of pick make ds) (made_of pick make es) ∙ ap (λ ys. had ++ ys) (sym (made-append ds es))

-- what declarations break, behind extensions, in two parts
pub owners-append : (s : Setting) (earlier : List ExtensionDescriptorInner) (ds es : List Shown)
    → owners_faults s earlier (ds ++ es) ≡ owners_faults s earlier ds ++ owners_faults s (earlier ++ extension_items s ds) es
owners-append s earlier [] es = ap (λ xs. owners_faults s xs es) (sym (append-nil earlier))
owners-append s earlier (d ∷ ds) es =
    let own = owner_faults s earlier d in
    let then = earlier ++ extension_items s (d ∷ []) in
    ap (λ fs. own ++ fs) (owners-append s then ds es ∙ ap (λ xs. owners_faults s then ds ++ owners_faults s xs es) (made-behind as_extension (extension_item s) earlier (d ∷ []) ds))
    ∙ sym (append_assoc own (owners_faults s then ds) (owners_faults s (earlier ++ extension_items s (d ∷ ds)) es))

module _ (s : Setting) (r : ReferenceState) where
  pub with-none : with_declarations s r [] ≡ r
  with-none = λ i. record {
    messages = append-nil r.messages i;
    enums = append-nil r.enums i;
    services = append-nil r.services i;
    extensions = append-nil r.extensions i;
    faults = r.faults;
  }

  pub with-more : (ds es : List Shown) → with_declarations s (with_declarations s r ds) es ≡ with_declarations s r (ds ++ es)
  with-more ds es =
      let told = owners_faults s in
      λ i. record {
        messages = made-behind as_message (message_item s) r.messages ds es i;
        enums = made-behind as_enum enum_item r.enums ds es i;
        services = made-behind as_service (service_item s) r.services ds es i;
        extensions = made-behind as_extension (extension_item s) r.extensions ds es i;
        faults = (told-two r.faults (told r.extensions ds) (told (r.extensions ++ extension_items s ds) es)
            ∙ ap (with_faults r.faults) (sym (owners-append s r.extensions ds es))) i;
      }
