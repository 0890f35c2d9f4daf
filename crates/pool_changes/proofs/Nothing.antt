-- Nothing is told of a pool and itself.
use Rattle.std.proofs.Common.{◌≡◌, ◌==◌, ◌&&◌, ◌||◌, ℕ, Bool, true, false, not, cond, Option, Some, None, List, [], ◌∷◌, ◌++◌, codes, flat_map, option_map, option_and_then, slice_get, refl, ap, sym, subst, ◌∙◌, arith}
use Rattle.std.proofs.lemmas.Bool.{and_from, eq-eqb, eqb-true, or_left, or_right}
use Rattle.std.proofs.lemmas.Bool.Decides.{Decides-int_eq}
use Rattle.std.proofs.lemmas.Slice.Eq.{bytes_eq-Decides}
use Rattle.std.specs.FinMap as finite
use Rattle.std.specs.List.{list_any}
use Rattle.std.specs.Option.{option_map_or, option_or}
use Rattle.std.specs.Ordering.{int_eq}
use Rattle.std.specs.Str.{bytes_eq}
use Rattle.proto_types.specs.Readers.{text_of}
use Rattle.pool_types.specs.Contents.{Contents}
use Rattle.pool_types.specs.Extension.{has_number}
use Rattle.pool_types.specs.LookUps.{field_numbered}
use Rattle.pool_types.specs.declared.contents.enumeration.EnumDescriptorInner.{EnumDescriptorInner}
use Rattle.pool_types.specs.declared.contents.enumeration.EnumValueDescriptorInner.{EnumValueDescriptorInner}
use Rattle.pool_types.specs.declared.contents.extension.ExtensionDescriptorInner.{ExtensionDescriptorInner}
use Rattle.pool_types.specs.declared.contents.field.FieldDescriptorInner.{FieldDescriptorInner}
use Rattle.pool_types.specs.declared.contents.file.FileDescriptorInner.{FileDescriptorInner}
use Rattle.pool_types.specs.declared.contents.message.MessageDescriptorInner.{MessageDescriptorInner}
use Rattle.pool_types.specs.declared.contents.oneof.OneofDescriptorInner.{OneofDescriptorInner}
use Rattle.pool_types.specs.declared.contents.service.MethodDescriptorInner.{MethodDescriptorInner}
use Rattle.pool_types.specs.declared.contents.service.ServiceDescriptorInner.{ServiceDescriptorInner}
use Rattle.pool_types.specs.declared.kinds.KindIndex.{KindIndex}
use Rattle.descriptor_pool.specs.Invariant.{IsPool}
use Rattle.descriptor_pool.proofs.Extendees.{numbers_are_unique}
use Rattle.schema_changes.specs.Changes.{message_changes}
use Rattle.schema_changes.specs.Parts.{in_proto3, parts_of}
use Rattle.schema_changes.specs.Pools.{message_named}
use Rattle.schema_changes.specs.MessageSets.{is_message_set}
use Rattle.schema_changes.proofs.Tests.{passes_at}
use Rattle.verdict_texts.specs.declared.telling.ToldFault.{ToldFault}
use Rattle.pool_changes.specs.AtLevels.{at_json, at_source, entries_json, enum_json, enum_source, extension_json, extension_source, message_json, message_source, numbered_json, numbered_source, entry_json, entry_source, open_side, parts_source}
use Rattle.pool_changes.specs.Comparing.{at_wire, message_told, messages_told, set_changes, set_side, told_at, told_if}
use Rattle.pool_changes.specs.FieldChanges.{are_formed_alike, default_changes, form_changes, have_first_alike, keeps_form, keeps_values, are_messages_alike, name_changes, one_repeats, oneof_moves, part_json, part_source, presence_changes, reads_number, repeated_changes, type_changes}
use Rattle.pool_changes.specs.FieldParts.{Part, default_side, extension_part, extension_part_at, field_part, form_side, json_side, json_word, name_side, oneof_side, part_numbered, presence_side, repeated_side, type_name, type_side}
use Rattle.pool_changes.specs.Itself.{NothingIsTold, NumbersApart, told_of_itself}
use Rattle.pool_changes.specs.Options.{encoded_options, option_changes, options_changes, code_options}
use Rattle.pool_changes.specs.Removed.{enum_named, file_changes, file_named, has_oneof, is_synthetic, is_value_like, oneof_changes, package_side, syntax_side, value_changes, value_lost}
use Rattle.pool_types.specs.LookUps.{value_numbered}
use Rattle.pool_changes.specs.Services.{input, kept_method_changes, method_changes, method_in, output, service_changes, service_named, services_changes, streams}
use Rattle.pool_changes.specs.Sides.{Side, Versions, are_alike, around, both_of, differing, first_by, reader, there as present, told_between, writer}
use Rattle.pool_changes.specs.declared.direction.Direction.{Direction}
use Rattle.pool_changes.specs.declared.direction.Direction.TheVariants.{Backward, Forward}
use Rattle.pool_changes.specs.declared.kinds.ElementChange.{ElementChange}
use Rattle.pool_changes.specs.declared.kinds.ElementChange.TheVariants as element
use Rattle.pool_changes.specs.declared.kinds.Level.{Level}
use Rattle.pool_changes.specs.declared.kinds.Level.TheVariants.{Json, Source, Wire}
use Rattle.pool_changes.proofs.Called.{method-found, service-named}
use Rattle.pool_changes.proofs.Filed.{file-leads}
use Rattle.pool_changes.proofs.Itself.{message-itself}
use Rattle.pool_changes.proofs.Lists.{first-found, flat-none, passing-at}
use Rattle.pool_changes.proofs.Looking.{enum_meant_at, extends-it, extends_one, leads, lists, names_mean, number-leads}

-- ---- texts that are one, and what is told unless they are

one-text : (text : List ℕ) → bytes_eq text text ≡ true
one-text text = (bytes_eq-Decides text text).1 refl

alike-itself : (a : Side) → are_alike a a ≡ true
alike-itself a = and_from (bytes_eq a.word a.word) (bytes_eq a.name a.name) (one-text a.word) (one-text a.name)

same-told : (v : Versions) (k : ElementChange) (a : Side) → differing v k a a ≡ []
same-told v k a = ap (λ b. cond b [] (told_between v k a a ∷ [])) (alike-itself a)

unless-none : (b : Bool) (told : List ToldFault) → told ≡ [] → cond b [] told ≡ []
unless-none true told none = refl
unless-none false told none = none

where-none : (b : Bool) (told : List ToldFault) → told ≡ [] → cond b told [] ≡ []
where-none true told none = none
where-none false told none = refl

-- a version that is both
both-pool : (d : Direction) (p : Contents) → IsPool p → IsPool (first_by d p p)
both-pool Backward p pool = pool
both-pool Forward p pool = pool

module _ (d : Direction) (p : Contents) (pool : IsPool (first_by d p p)) where
  abbrev v : Versions
  v = record { direction = d; old = p; new = p }

  abbrev q : Contents
  q = first_by d p p

  -- ---- a field or an extension

  form-kept : (k : KindIndex) → keeps_values v k k ≡ true
  form-kept k =
      or_right (reads_number k k) (are_formed_alike v k k)
      (and_from (bytes_eq (json_word q k) (json_word q k)) (bytes_eq (type_name q k) (type_name q k)) (one-text (json_word q k)) (one-text (type_name q k)))

  json-none : (f : Part) → part_json v [] f f ≡ []
  json-none f =
      let kept : keeps_form v f f ≡ true = or_left (keeps_values v f.entry.kind f.entry.kind) (are_messages_alike v f.entry.kind f.entry.kind) (form-kept f.entry.kind) in
      let form : form_changes v [] f f ≡ [] = ap (λ b. cond b [] (told_between v element.FieldJson (form_side q f) (form_side q f) ∷ [])) kept in
      let name = same-told v element.FieldJsonName (json_side f) in
      let repeated = same-told v element.FieldRepeated (repeated_side f) in
      λ t. name t ++ (form t ++ repeated t)

  source-none : (x : MessageDescriptorInner) (f : Part) → part_source v x x [] f f ≡ []
  source-none x f =
      let name : name_changes v f f ≡ [] = where-none (bytes_eq f.json_name f.json_name) (differing v element.FieldName (name_side f) (name_side f)) (same-told v element.FieldName (name_side f)) in
      let typed : type_changes v [] f f ≡ [] = unless-none (not (keeps_form v f f)) (differing v element.FieldType (type_side q f) (type_side q f)) (same-told v element.FieldType (type_side q f)) in
      let presence : presence_changes v [] f f ≡ [] = unless-none (one_repeats f f) (differing v element.FieldPresence (presence_side f) (presence_side f)) (same-told v element.FieldPresence (presence_side f)) in
      let moved : oneof_moves v x x [] f f ≡ [] = same-told v element.FieldOneof (oneof_side q x f) in
      let read-as : default_changes v f f ≡ [] = unless-none (have_first_alike v f f) (differing v element.FieldDefault (default_side q f) (default_side q f)) (same-told v element.FieldDefault (default_side q f)) in
      λ t. name t ++ (typed t ++ (presence t ++ (moved t ++ read-as t)))

  module _ (k : ℕ) (x : MessageDescriptorInner) (there : slice_get q.messages k ≡ Some x) where
    -- its number leads to it
    field-leads : (i : ℕ) (f : FieldDescriptorInner) → slice_get x.fields i ≡ Some f → part_numbered q x f.number ≡ Some (field_part f)
    field-leads i f at =
        let key = ap (option_and_then (λ (g : FieldDescriptorInner). Some g.number)) at in
        let position = ((leads q pool k x there).numbers f.number i).1 key in
        let field : field_numbered x f.number ≡ Some f = ap (option_and_then (slice_get x.fields)) position ∙ at in
        ap (λ got. option_or (option_map field_part got) (option_and_then (extension_part_at q) (finite.get x.extension_numbers f.number))) field

    -- so does that of an extension, where no field has it
    extension-leads : (j i : ℕ) (e : ExtensionDescriptorInner) → slice_get x.extensions j ≡ Some i → slice_get q.extensions i ≡ Some e → finite.get x.extension_numbers e.number ≡ Some i
    extension-leads j i e at item =
        let first = passing-at (extends_one k) 0 q.extensions j i (sym (ap (λ (is : List ℕ). slice_get is j) (lists q pool k x there)) ∙ at) in
        let same : first.at ≡ i = omega (arith, first.is) in
        let one : Some first.element ≡ Some e = sym (subst (λ n. slice_get q.extensions n ≡ Some first.element) same first.there) ∙ item in
        let element : first.element ≡ e = cc in
        let extends : (e.extendee == k) ≡ true = subst (λ (y : ExtensionDescriptorInner). (y.extendee == k) ≡ true) element first.passes in
        let has-it : has_number k e.number e ≡ true = and_from (e.extendee == k) (e.number == e.number) extends (eq-eqb e.number e.number refl) in
        let place = first-found (has_number k e.number) 0 q.extensions i e item has-it in
        let leads-there : finite.get x.extension_numbers e.number ≡ Some place.0 = number-leads q pool k x there e.number ∙ place.1 in
        let other = extends-it q pool k x there e.number place.0 leads-there in
        let alike : place.0 ≡ i = numbers_are_unique q pool place.0 i other.0 e other.1 item (eqb-true (other.0).extendee k other.2 ∙ sym (eqb-true e.extendee k extends)) other.3 in
        leads-there ∙ ap Some alike

    extension-found : (j i : ℕ) (e : ExtensionDescriptorInner) → slice_get x.extensions j ≡ Some i → slice_get q.extensions i ≡ Some e → field_numbered x e.number ≡ None → part_numbered q x e.number ≡ Some (extension_part e)
    extension-found j i e at item free =
        ap (λ got. option_or (option_map field_part got) (option_and_then (extension_part_at q) (finite.get x.extension_numbers e.number))) free
        ∙ ap (option_and_then (extension_part_at q)) (extension-leads j i e at item) ∙ ap (option_map extension_part) item

    unchanged : message_changes (both_of v x x) ≡ []
    unchanged = message-itself q pool k x there

    -- ---- at wire

    message-none : message_told v x (message_named q x.id.full_name) ≡ []
    message-none =
        ap (message_told v x) (names_mean q pool k x there)
        ∙ ap (λ found. flat_map (told_if v (both_of v x x)) found ++ set_changes v x x) unchanged
        ∙ same-told v element.MessageSet (set_side q x)

    -- ---- at json and at source

    fields-json : flat_map (λ f. numbered_json v x [] (field_part f)) x.fields ≡ []
    fields-json = flat-none (λ (f : FieldDescriptorInner). numbered_json v x [] (field_part f)) x.fields (λ i f at.
        ap (entry_json v x [] (field_part f)) (field-leads i f at) ∙ json-none (field_part f))

    fields-source : flat_map (λ f. numbered_source v x x [] (field_part f)) x.fields ≡ []
    fields-source = flat-none (λ (f : FieldDescriptorInner). numbered_source v x x [] (field_part f)) x.fields (λ i f at.
        ap (entry_source v x x [] (field_part f)) (field-leads i f at) ∙ source-none x (field_part f))

    oneofs-none : flat_map (oneof_changes v x x) x.oneofs ≡ []
    oneofs-none = flat-none (oneof_changes v x x) x.oneofs (λ i o at.
        let has : has_oneof x o.id.full_name ≡ true = passes_at (λ (w : OneofDescriptorInner). bytes_eq w.id.full_name o.id.full_name) x.oneofs i o at (one-text o.id.full_name) in
        ap (λ b. cond b [] (told_between v element.OneofRemoved (present o.id (codes "oneof") []) (around x.id (codes "oneof")) ∷ []))
        (or_left (has_oneof x o.id.full_name) (is_synthetic q x o) has))

    module _ (apart : (j i : ℕ) (e : ExtensionDescriptorInner) → slice_get x.extensions j ≡ Some i → slice_get q.extensions i ≡ Some e → field_numbered x e.number ≡ None) where
      extension-json : (j i : ℕ) → slice_get x.extensions j ≡ Some i → extension_json v x [] (extension_part_at q i) ≡ []
      extension-json j i at = by (slice_get q.extensions i) refl
        where
          by : (got : Option ExtensionDescriptorInner) → slice_get q.extensions i ≡ got → extension_json v x [] (option_map extension_part got) ≡ []
          by None is = refl
          by (Some e) is = ap (entry_json v x [] (extension_part e)) (extension-found j i e at is (apart j i e at is)) ∙ json-none (extension_part e)

      extension-source : (j i : ℕ) → slice_get x.extensions j ≡ Some i → extension_source v x x [] (extension_part_at q i) ≡ []
      extension-source j i at = by (slice_get q.extensions i) refl
        where
          by : (got : Option ExtensionDescriptorInner) → slice_get q.extensions i ≡ got → extension_source v x x [] (option_map extension_part got) ≡ []
          by None is = refl
          by (Some e) is = ap (entry_source v x x [] (extension_part e)) (extension-found j i e at is (apart j i e at is)) ∙ source-none x (extension_part e)

      json-of-message : message_json v x (message_named q x.id.full_name) ≡ []
      unfolding entries_json
      json-of-message =
          let extensions = flat-none (λ (i : ℕ). extension_json v x [] (extension_part_at q i)) x.extensions extension-json in
          ap (message_json v x) (names_mean q pool k x there) ∙ ap (entries_json v x x) unchanged ∙ (λ t. fields-json t ++ extensions t)

      source-of-message : message_source v x (message_named q x.id.full_name) ≡ []
      unfolding parts_source
      source-of-message =
          let extensions = flat-none (λ (i : ℕ). extension_source v x x [] (extension_part_at q i)) x.extensions extension-source in
          ap (message_source v x) (names_mean q pool k x there) ∙ ap (parts_source v x x) unchanged ∙ (λ t. fields-source t ++ (extensions t ++ oneofs-none t))

  -- ---- services

  method-none : (n : ℕ) (s : ServiceDescriptorInner) → slice_get q.services n ≡ Some s → (i : ℕ) (m : MethodDescriptorInner) → slice_get s.methods i ≡ Some m → method_changes v s m (method_in s m.id.full_name) ≡ []
  method-none n s there i m at =
      let takes = same-told v element.MethodInput (input q m) in
      let gives = same-told v element.MethodOutput (output q m) in
      let streaming = same-told v element.MethodStreaming (streams q m) in
      ap (method_changes v s m) (method-found q pool n s there i m at) ∙ (λ t. takes t ++ (gives t ++ streaming t))

  services-none : services_changes v ≡ []
  services-none = flat-none (λ (s : ServiceDescriptorInner). service_changes v s (service_named q s.id.full_name)) q.services (λ n s there.
      ap (service_changes v s) (service-named q pool n s there)
      ∙ flat-none (λ (m : MethodDescriptorInner). method_changes v s m (method_in s m.id.full_name)) s.methods (method-none n s there))

  wire-none : at_wire v ≡ []
  wire-none =
      let messages = flat-none (λ (x : MessageDescriptorInner). message_told v x (message_named q x.id.full_name)) q.messages message-none in
      λ t. messages t ++ services-none t

  -- ---- enums and files

  enum-meant : (n : ℕ) (e : EnumDescriptorInner) → slice_get q.enums n ≡ Some e → enum_named q e.id.full_name ≡ Some e
  enum-meant n e there = enum_meant_at q pool n e e.id.full_name there (one-text e.id.full_name)

  value-none : (e : EnumDescriptorInner) (i : ℕ) (w : EnumValueDescriptorInner) → slice_get e.values i ≡ Some w → value_changes v e w ≡ []
  value-none e i w at =
      let own : is_value_like w w ≡ true = and_from (int_eq w.number w.number) (bytes_eq w.id.full_name w.id.full_name) ((Decides-int_eq w.number w.number).1 refl) (one-text w.id.full_name) in
      ap (λ b. cond b [] (value_lost v e w (value_numbered e w.number))) (passes_at (is_value_like w) e.values i w at own)

  enums-json : flat_map (λ e. enum_json v e (enum_named q e.id.full_name)) q.enums ≡ []
  enums-json = flat-none (λ (e : EnumDescriptorInner). enum_json v e (enum_named q e.id.full_name)) q.enums (λ n e there.
      ap (enum_json v e) (enum-meant n e there) ∙ flat-none (value_changes v e) e.values (value-none e))

  enums-source : flat_map (λ e. enum_source v e (enum_named q e.id.full_name)) q.enums ≡ []
  enums-source = flat-none (λ (e : EnumDescriptorInner). enum_source v e (enum_named q e.id.full_name)) q.enums (λ n e there.
      ap (enum_source v e) (enum-meant n e there) ∙ same-told v element.EnumOpen (open_side q e))

  file-none : (n : ℕ) (f : FileDescriptorInner) → slice_get q.files n ≡ Some f → file_changes v f (file_named q (text_of f.raw.name)) ≡ []
  file-none n f there =
      let in-package = same-told v element.FilePackage (package_side q f) in
      let by-syntax = same-told v element.FileSyntax (syntax_side q f) in
      let options : options_changes v f f ≡ [] = ap (λ b. cond b [] (flat_map (option_changes v f f) code_options)) (one-text (encoded_options f.raw)) in
      ap (file_changes v f) (file-leads q pool n f there) ∙ (λ t. in-package t ++ (by-syntax t ++ options t))

  files-none : flat_map (λ f. file_changes v f (file_named q (text_of f.raw.name))) q.files ≡ []
  files-none = flat-none (λ (f : FileDescriptorInner). file_changes v f (file_named q (text_of f.raw.name))) q.files file-none

  module _ (apart : NumbersApart q) where
    at-json : at_json v ≡ []
    at-json =
        let messages = flat-none (λ (x : MessageDescriptorInner). message_json v x (message_named q x.id.full_name)) q.messages (λ k x there. json-of-message k x there (λ j i e. apart k j i x e there)) in
        λ t. messages t ++ enums-json t

    at-source : at_source v ≡ []
    at-source =
        let messages = flat-none (λ (x : MessageDescriptorInner). message_source v x (message_named q x.id.full_name)) q.messages (λ k x there. source-of-message k x there (λ j i e. apart k j i x e there)) in
        λ t. files-none t ++ (messages t ++ enums-source t)

    level-none : (level : Level) → told_at v level ≡ []
    level-none Wire = λ t. wire-none t ++ []
    level-none Json = λ t. wire-none t ++ (at-json t ++ [])
    level-none Source = λ t. wire-none t ++ (at-json t ++ at-source t)

both-apart : (d : Direction) (p : Contents) → NumbersApart p → NumbersApart (first_by d p p)
both-apart Backward p apart = apart
both-apart Forward p apart = apart

pub nothing-told : (p : Contents) → IsPool p → NothingIsTold p
nothing-told p pool = record {
  at_wire = λ d. let none = wire-none d p (both-pool d p pool) in λ t. none t ++ [];
  at_each = λ apart d level. level-none d p (both-pool d p pool) (both-apart d p apart) level;
}
