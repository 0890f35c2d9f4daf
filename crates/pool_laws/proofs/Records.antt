-- Where a path leads in a changed file: to the same enum, and to a message with the same ranges.
use Rattle.std.proofs.Common.{◌≡◌, ℕ, ℤ, pos, negsuc, Bool, true, false, if◌then◌else◌, Option, None, Some, List, [], ◌∷◌, map, slice_get, refl, ap, subst, sym, ◌∙◌}
use Rattle.std.proofs.lemmas.Option.{slice_get-map}
use Rattle.std.specs.Option.{option_and_then, option_map}
use Rattle.std.specs.Ordering.{int_eq}
use Rattle.proto_types.specs.declared.tag.file.TheConstants as file
use Rattle.proto_types.specs.declared.tag.message.TheConstants as message
use Rattle.proto_types.specs.declared.tag.service.TheConstants as service
use Rattle.proto_types.specs.declared.records.service.ServiceDescriptorProto.{ServiceDescriptorProto}
use Rattle.plain_data.specs.Lists.{at}
use Rattle.proto_types.specs.Names.{join}
use Rattle.proto_types.specs.Readers.{text_of}
use Rattle.proto_types.specs.Computed.{literals}
use Rattle.proto_types.specs.declared.file.FileDescriptorProto.{FileDescriptorProto}
use Rattle.proto_types.specs.declared.message.DescriptorProto.{DescriptorProto, DescriptorProto', out-DescriptorProto, Row_of-DescriptorProto, end_of-DescriptorProto, more_of-DescriptorProto, items-the_row-DescriptorProto, items_shown-the_row-DescriptorProto-0}
use Rattle.record_walk.specs.Changed.{Changes, changed_file, changed_message, changed_messages, changed_nested, changed_service}
use Rattle.record_walk.specs.Leads.{last_entry, leaf, leads, leads_in_enum, leads_in_message, leads_in_service}
use Rattle.record_walk.specs.Protos.{Proto, of_field, of_oneof, of_method, of_extension, as_enum, as_message}
use Rattle.pool_laws.proofs.Settings.{RangesStay}
use Rattle.pool_laws.proofs.Messages.{parts-of}

-- the same enum, if it is one, and a message with the same ranges
pub record Stays (old new : Option Proto) : Type 0 where
  pub enums : option_and_then as_enum new ≡ option_and_then as_enum old
  pub messages : RangesStay (option_and_then as_message old) (option_and_then as_message new)

pub ranges-itself : (m : Option DescriptorProto) → RangesStay m m
ranges-itself None = tt
ranges-itself (Some m) = record { reserved = refl; extensions = refl }

pub stays-itself : (r : Option Proto) → Stays r r
stays-itself r = record { enums = refl; messages = ranges-itself (option_and_then as_message r) }

-- neither an enum nor a message
record Bare (r : Option Proto) : Type 0 where
  pub no_enum : option_and_then as_enum r ≡ None
  pub no_message : option_and_then as_message r ≡ None

bare-stays : (old new : Option Proto) → Bare old → Bare new → Stays old new
bare-stays old new before after = record {
  enums = after.no_enum ∙ sym before.no_enum;
  messages = subst (RangesStay (option_and_then as_message old)) (sym after.no_message) (subst (λ m. RangesStay m None) (sym before.no_message) tt);
}

none-bare : Bare None
none-bare = record { no_enum = refl; no_message = refl }

leaf-bare : {X : Type 0} (of : X → Proto) → ((x : X) → as_enum (of x) ≡ None) → ((x : X) → as_message (of x) ≡ None) → (o : Option X) → Bare (option_map of o)
leaf-bare of enums messages None = none-bare
leaf-bare of enums messages (Some x) = record { no_enum = enums x; no_message = messages x }

leaves-stay : {X : Type 0} (of : X → Proto) → ((x : X) → as_enum (of x) ≡ None) → ((x : X) → as_message (of x) ≡ None)
    → (xs ys : List X) (position : ℤ) (path : List ℤ) → Stays (leaf of xs position path) (leaf of ys position path)
leaves-stay of enums messages xs ys position path =
    bare-stays _ _ (leaf-bare of enums messages (last_entry xs position path)) (leaf-bare of enums messages (last_entry ys position path))

either : (b : Bool) {x y z w : Option Proto} → Stays x y → Stays z w → Stays (if b then x else z) (if b then y else w)
either true first second = first
either false first second = second

-- from an entry of a list on, where each is changed
into : {X : Type 0} (g h : X → Option Proto) (change : X → X) → ((x : X) → Stays (g x) (h (change x))) → (xs : List X) (position : ℤ)
    → Stays (option_and_then g (at xs position)) (option_and_then h (at (map change xs) position))
into g h change stays xs (negsuc n) = stays-itself None
into g h change stays xs (pos n) =
    subst (λ o. Stays (option_and_then g (slice_get xs n)) (option_and_then h o)) (sym (slice_get-map change xs n))
    (elim (slice_get xs n) as (λ o. Stays (option_and_then g o) (option_and_then h (option_map change o))) [ None ↦ stays-itself None | Some x ↦ stays x ])

-- no path leads to an enum or to a message in a service
in-service-bare : (v : ServiceDescriptorProto) (path : List ℤ) → Bare (leads_in_service v path)
in-service-bare v [] = record { no_enum = refl; no_message = refl }
in-service-bare v (tag ∷ []) = none-bare
in-service-bare v (tag ∷ position ∷ path) =
    elim (int_eq tag service.METHOD) as (λ b. Bare (if b then leaf of_method v.method position path else None))
    [ true ↦ leaf-bare of_method (λ _. refl) (λ _. refl) (last_entry v.method position path) | false ↦ none-bare ]

module _ (c : Changes) where
  nested-row-is : {n : _} (index : ℕ) (scope : List ℕ) (nested : Row_of-DescriptorProto n)
      → items-the_row-DescriptorProto n (changed_nested c index scope nested) ≡ changed_messages c index scope (items-the_row-DescriptorProto n nested)
  nested-row-is index scope end_of-DescriptorProto = refl
  nested-row-is index scope (more_of-DescriptorProto m rest) =
      ap (λ ms. changed_message c index (join scope (text_of (out-DescriptorProto m).name)) m ∷ ms) (nested-row-is index scope rest)

  in-message-stays : (path : List ℤ) (index : ℕ) (name : List ℕ) (m : DescriptorProto) → Stays (leads_in_message m path) (leads_in_message (changed_message c index name m) path)
  unfolding literals
  in-message-stays [] index name m = record { enums = refl; messages = (parts-of c index name m).ranges }
  in-message-stays (tag ∷ []) index name m = stays-itself None
  in-message-stays (tag ∷ position ∷ path) index name (DescriptorProto' own fields n nested enums ranges extensions options oneofs reserved reserved_names) =
      let m = DescriptorProto' own fields n nested enums ranges extensions options oneofs reserved reserved_names in
      let new = changed_message c index name m in
      let row = changed_nested c index name nested in
      let deeper : (out-DescriptorProto new).nested_type ≡ changed_messages c index name (out-DescriptorProto m).nested_type =
      items_shown-the_row-DescriptorProto-0 n row ∙ nested-row-is index name nested ∙ ap (changed_messages c index name) (sym (items_shown-the_row-DescriptorProto-0 n nested)) in
      let leads_on : DescriptorProto → Option Proto = λ k. leads_in_message k path in
      let entered = into leads_on leads_on (λ k. changed_message c index (join name (text_of (out-DescriptorProto k).name)) k)
      (λ k. in-message-stays path index (join name (text_of (out-DescriptorProto k).name)) k) (out-DescriptorProto m).nested_type position in
      either (int_eq tag message.FIELD) (leaves-stay of_field (λ _. refl) (λ _. refl) (out-DescriptorProto m).field (out-DescriptorProto new).field position path)
      (either (int_eq tag message.NESTED_TYPE)
      (subst (λ ms. Stays (option_and_then leads_on (at (out-DescriptorProto m).nested_type position)) (option_and_then leads_on (at ms position))) (sym deeper) entered)
      (either (int_eq tag message.ENUM_TYPE) (stays-itself (option_and_then (λ e. leads_in_enum e path) (at enums position)))
      (either (int_eq tag message.EXTENSION) (leaves-stay of_extension (λ _. refl) (λ _. refl) (out-DescriptorProto m).extension (out-DescriptorProto new).extension position path)
      (either (int_eq tag message.ONEOF_DECL) (stays-itself (leaf of_oneof oneofs position path)) (stays-itself None)))))

  pub file-stays : (path : List ℤ) (index : ℕ) (f : FileDescriptorProto) → Stays (leads f path) (leads (changed_file c index f) path)
  file-stays [] index f = record { enums = refl; messages = tt }
  file-stays (tag ∷ []) index f = stays-itself None
  file-stays (tag ∷ position ∷ path) index f =
      let scope = text_of f.«package» in
      let new = changed_file c index f in
      let inner : DescriptorProto → Option Proto = λ m. leads_in_message m path in
      let within : ServiceDescriptorProto → Option Proto = λ v. leads_in_service v path in
      either (int_eq tag file.MESSAGE_TYPE)
      (into inner inner (λ m. changed_message c index (join scope (text_of (out-DescriptorProto m).name)) m)
      (λ m. in-message-stays path index (join scope (text_of (out-DescriptorProto m).name)) m) f.message_type position)
      (either (int_eq tag file.ENUM_TYPE) (stays-itself (option_and_then (λ e. leads_in_enum e path) (at f.enum_type position)))
      (either (int_eq tag file.SERVICE)
      (into within within (λ v. changed_service c index (join scope (text_of v.name)) v)
      (λ v. bare-stays _ _ (in-service-bare v path) (in-service-bare (changed_service c index (join scope (text_of v.name)) v) path)) f.service position)
      (either (int_eq tag file.EXTENSION) (leaves-stay of_extension (λ _. refl) (λ _. refl) f.extension new.extension position path) (stays-itself None))))
