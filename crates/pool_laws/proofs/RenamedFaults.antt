-- What breaks nothing breaks nothing where files and declarations have other numbers.
use Rattle.std.proofs.Common.{◌≡◌, ◌<◌, ℕ, ℤ, Bool, true, not, is_some, List, [], ◌∷◌, ◌++◌, take, Option, None, Some, refl, ap, subst, sym, ◌∙◌, true≢false}
use Rattle.std.proofs.lemmas.List.{map-id}
use Rattle.std.specs.BTreeSet.{contains_by}
use Rattle.std.specs.FinMap as finite
use Rattle.std.specs.List.{AllByRecursion, flat_map}
use Rattle.std.specs.Option.{option_and_then, option_map, option_map_or}
use Rattle.std.specs.Ordering.{nat_cmp}
use Rattle.std.specs.Prelude.{slice_get}
use Rattle.proto_types.specs.declared.file.FileDescriptorProto.{FileDescriptorProto}
use Rattle.proto_types.specs.declared.message.DescriptorProto.{DescriptorProto, out-DescriptorProto}
use Rattle.proto_types.specs.declared.records.enumeration.EnumDescriptorProto.{EnumDescriptorProto}
use Rattle.proto_types.specs.declared.records.field.FieldDescriptorProto.{FieldDescriptorProto}
use Rattle.proto_types.specs.declared.records.field.FieldType.{FieldType}
use Rattle.proto_types.specs.declared.records.field.FieldType.TheVariants as written
use Rattle.proto_types.specs.declared.records.service.MethodDescriptorProto.{MethodDescriptorProto}
use Rattle.proto_types.specs.declared.tag.field.TheConstants as field
use Rattle.proto_types.specs.declared.tag.method.TheConstants as method
use Rattle.proto_types.specs.Readers.{text_of, type_of}
use Rattle.plain_data.specs.Lists.{listed, only_if}
use Rattle.pool_types.specs.declared.contents.definition.Definition.{Definition}
use Rattle.pool_types.specs.declared.contents.definition.DefinitionKind.{DefinitionKind}
use Rattle.pool_types.specs.declared.contents.definition.DefinitionKind.TheVariants as definition
use Rattle.pool_types.specs.declared.kinds.KindIndex.{KindIndex}
use Rattle.pool_types.specs.declared.kinds.KindIndex.TheVariants as index
use Rattle.pool_faults.specs.declared.fault.DescriptorErrorKind.{DescriptorErrorKind}
use Rattle.pool_faults.specs.declared.fault.DescriptorErrorKind.TheVariants.{MissingRequiredField}
use Rattle.pool_faults.specs.Labels.{label_in}
use Rattle.record_walk.specs.declared.declaration.DeclarationKind.{DeclarationKind}
use Rattle.record_walk.specs.declared.declaration.DeclarationKind.TheVariants as declaration
use Rattle.record_walk.specs.Leads.{leads}
use Rattle.record_walk.specs.Protos.{Proto, as_enum, as_message, of_file, of_message, of_service, of_enum, of_extension}
use Rattle.record_walk.specs.Shown.{Shown, inside}
use Rattle.name_resolution.specs.declared.filter.ResolveNameFilter.{ResolveNameFilter}
use Rattle.name_resolution.specs.declared.filter.ResolveNameFilter.TheVariants as filter
use Rattle.pool_types.specs.Kinds.{named_kind, simple_kind}
use Rattle.name_resolution.specs.References.{reference_fault}
use Rattle.name_resolution.specs.Resolution.{Resolution, found, is_found, kind_found}
use Rattle.field_rules.specs.Defaults.{DefaultEnum, default_faults}
use Rattle.field_rules.specs.Duplicates.{duplicate_faults}
use Rattle.record_walk.specs.Place.{field_at}
use Rattle.reference_pass.specs.Defaults.{enum_found, no_default_enum, type_enum, field_default_faults}
use Rattle.reference_pass.specs.Definitions.{found_as, declaration_path, record_of, message_record}
use Rattle.reference_pass.specs.Extension.{number_faults}
use Rattle.reference_pass.specs.Types.{field_kind, type_faults, resolve_type}
use Rattle.reference_pass.specs.Imports.{import_faults, missing_file}
use Rattle.reference_pass.specs.References.{method_at, resolve_message}
use Rattle.reference_pass.specs.SecondPass.{Faults, extension_faults, field_faults, method_faults, owner_faults}
use Rattle.reference_pass.specs.Setting.{Setting, resolve, seen_by}
use Rattle.reference_pass.proofs.Unbroken.{all-parts, both-empty, extension-parts, untaken}
use Rattle.pool_laws.proofs.Settings.{RangesStay}
use Rattle.pool_laws.proofs.Enums.{values-still}
use Rattle.pool_laws.proofs.Fields.{breaks-nothing, nothing-broken}
use Rattle.pool_laws.proofs.Imports.{imports-by}
use Rattle.pool_laws.proofs.Looked.{IsLooked, looked-named, resolution-looked}
use Rattle.pool_laws.proofs.Moved.{AllMoved, Moved, StandsAlike}
use Rattle.pool_laws.specs.Order.{kind_alone}
use Rattle.pool_laws.proofs.Numbered.{field-numbered, numbered-by}
use Rattle.pool_laws.proofs.Records.{ranges-itself}
use Rattle.pool_laws.proofs.Renamed.{BothFound, Renames, SameFound, alone-match, match-alone, resolve-renamed, same-is, unwanted-package}
use Rattle.pool_laws.proofs.SettingRelinks.{again-still}
use Rattle.pool_laws.proofs.Told.{told, told-still}
use Rattle.pool_laws.proofs.Typed.{no-fault}
use Rattle.pool_laws.proofs.Defaulted.{default-alone, index_alone}

-- a reference is at fault exactly where nothing is found
faultless : (fs : List FileDescriptorProto) (name : List ℕ) (file : ℕ) (path : List ℤ) (r : Resolution) → listed (reference_fault fs name file path r) ≡ [] → is_found r ≡ true
faultless fs name file path (found _ _) none = refl
faultless fs name file path _ none = absurd (cc)

found-faultless : (fs : List FileDescriptorProto) (name : List ℕ) (file : ℕ) (path : List ℤ) (r : Resolution) → is_found r ≡ true → listed (reference_fault fs name file path r) ≡ []
found-faultless fs name file path (found _ _) is = refl
found-faultless fs name file path _ is = absurd (true≢false (sym is))

-- the kind of a type that names a definition of a kind without number
abbrev alone_named : FieldType → Option DeclarationKind → Option KindIndex
alone_named written.Group (Some declaration.Message) = Some (index.Group 0)
alone_named _ (Some declaration.Message) = Some (index.Message 0)
alone_named _ (Some declaration.Enum) = Some (index.Enum 0)
alone_named _ _ = None

named-alone : (x : FieldType) (k : DefinitionKind) → option_map index_alone (named_kind x k) ≡ alone_named x (kind_alone k)
named-alone written.Group definition.Package = refl
named-alone written.Group _ = refl
named-alone _ definition.Package = refl
named-alone _ _ = refl

-- what is read by a text or, where there is none, without
by-text : (name : List ℕ) (a b c e : Faults) → (a ≡ [] → c ≡ []) → (b ≡ [] → e ≡ [])
    → let old : Faults = elim name [ [] ↦ a | _ ∷ _ ↦ b ] in let new : Faults = elim name [ [] ↦ c | _ ∷ _ ↦ e ] in old ≡ [] → new ≡ []
by-text [] a b c e first second none = first none
by-text (x ∷ xs) a b c e first second none = second none

module _ (s t : Setting) (many : ℕ) (number : ℕ → ℕ) (renames : Renames s t many number) where
  -- a declaration in the file that has the number, whatever its own number is
  abbrev to : Shown → Option ℕ → ℕ → Shown
  to d parent index = record d { file = number d.file; parent = parent; index = index }

  -- a definition where its file has its number, of one kind
  record IsMoved (d e : Definition) : Type 0 where
    file : e.file ≡ number d.file
    path : e.path ≡ d.path
    kind : kind_alone e.kind ≡ kind_alone d.kind
    below : d.file < many

  -- two references mean such definitions
  abbrev BothMoved : Resolution → Resolution → Type 0
  BothMoved (found name d) (found other e) = (other ≡ name) × IsMoved d e
  BothMoved _ _ = Unit {0}

  stands : (f : ResolveNameFilter) (k : Option DeclarationKind) (d e : Definition) → StandsAlike number k d e → alone-match f k ≡ true → (e.file ≡ number d.file) × (e.path ≡ d.path)
  stands f None d e alike wanted = absurd (true≢false (sym wanted ∙ unwanted-package f None refl))
  stands f (Some k) d e alike wanted = alike

  moved : (sees : ℕ → Bool) (f : ResolveNameFilter) (r q : Resolution) → IsLooked s.names sees f r → SameFound number r q → BothMoved r q
  moved sees f (found name d) (found other e) looked same =
      let place = stands f (kind_alone d.kind) d e same.1.1 (sym (match-alone f d.kind) ∙ looked.1) in (
        same.0,
        record {
          file = place.0;
          path = place.1;
          kind = same.1.0;
          below = renames.lie name d (looked-named s.names sees f name name d looked.0);
        },
      )
  moved sees f (found name d) _ looked same = tt
  moved sees f _ q looked same = tt

  module _ (file : ℕ) (below : file < many) (scope text : List ℕ) (f : ResolveNameFilter) where
    abbrev old : Resolution
    old = resolve s file scope f text

    abbrev new : Resolution
    new = resolve t (number file) scope f text

    same : SameFound number old new
    same = resolve-renamed s t many number renames file below scope text f

    both : BothMoved old new
    both = moved (λ n. contains_by (nat_cmp n) (seen_by s file)) f old new (resolution-looked s.names (λ n. contains_by (nat_cmp n) (seen_by s file)) f scope text) same

    -- a reference that is no fault is none
    reference-renamed : (path : List ℤ) → listed (reference_fault s.files text file path old) ≡ [] → listed (reference_fault t.files text (number file) path new) ≡ []
    reference-renamed path none = found-faultless t.files text (number file) path new (sym (same-is number old new same) ∙ faultless s.files text file path old none)

  -- the record of a definition is that of the other
  record-renamed : (d e : Definition) → IsMoved d e → record_of t e ≡ record_of s d
  record-renamed d e is =
      (λ i. option_and_then (λ f. leads f (declaration_path (is.path i))) (slice_get t.files (is.file i)))
      ∙ ap (option_and_then (λ f. leads f (declaration_path d.path))) (renames.files d.file is.below)

  -- what is found in the other setting stands in the place of what was found
  found-meant : (r q : Resolution) → is_found r ≡ true → SameFound number r q → BothMoved r q → enum_found t q ≡ enum_found s r
  found-meant (found name d) (found other e) is same both =
      λ i. record { full_name = both.0 i; values = option_map_or (λ (x : EnumDescriptorProto). x.value) (option_and_then as_enum (record-renamed d e both.1 i)) [] }
  found-meant (found name d) _ is same both = absurd same
  found-meant _ q is same both = absurd (true≢false (sym is))

  kind-of : (f : FieldDescriptorProto) (r q : Resolution) → SameFound number r q
      → option_map index_alone (option_and_then (named_kind (type_of f.type_)) (kind_found q)) ≡ option_map index_alone (option_and_then (named_kind (type_of f.type_)) (kind_found r))
  kind-of f r q same = as-found q ∙ by-both (found_as r) (found_as q) same ∙ sym (as-found r)
    where
      alone : Option (List ℕ × Definition) → Option KindIndex
      alone o = option_and_then (λ e. alone_named (type_of f.type_) (kind_alone e.1.kind)) o

      as-found : (r : Resolution) → option_map index_alone (option_and_then (named_kind (type_of f.type_)) (kind_found r)) ≡ alone (found_as r)
      as-found (found _ d) = named-alone (type_of f.type_) d.kind
      as-found _ = refl

      by-both : (o p : Option (List ℕ × Definition)) → BothFound number o p → alone p ≡ alone o
      by-both None None both = refl
      by-both (Some d) (Some e) both = ap (alone_named (type_of f.type_)) both.1.0
      by-both _ _ both = absurd both

  -- a field or an extension, and its type and default value
  module _ (d : Shown) (below : d.file < many) (parent : Option ℕ) (index : ℕ) (f : FieldDescriptorProto) where
    abbrev e : Shown
    e = to d parent index

    abbrev name : List ℕ
    name = text_of f.type_name

    abbrev at : List ℤ
    at = d.path ++ field.TYPE_NAME ∷ []

    typed-renamed : type_faults s d f ≡ [] → type_faults t e f ≡ []
    typed-renamed =
        by-text name (only_if (not (is_some (simple_kind (type_of f.type_)))) (MissingRequiredField (label_in s.files d.file at)))
        (listed (reference_fault s.files name d.file at (resolve_type s d f)))
        (only_if (not (is_some (simple_kind (type_of f.type_)))) (MissingRequiredField (label_in t.files (number d.file) at)))
        (listed (reference_fault t.files name (number d.file) at (resolve_type t e f)))
        (no-fault (not (is_some (simple_kind (type_of f.type_)))) _ _)
        (reference-renamed d.file below d.full_name name filter.FieldType at)

    kind-renamed : option_map index_alone (field_kind t e f) ≡ option_map index_alone (field_kind s d f)
    kind-renamed = by-name name
      where
        by-name : (text : List ℕ) → let old : Option KindIndex = elim text [ [] ↦ simple_kind (type_of f.type_) | _ ∷ _ ↦ option_and_then (named_kind (type_of f.type_)) (kind_found (resolve_type s d f)) ] in
            let new : Option KindIndex = elim text [ [] ↦ simple_kind (type_of f.type_) | _ ∷ _ ↦ option_and_then (named_kind (type_of f.type_)) (kind_found (resolve_type t e f)) ] in
            option_map index_alone new ≡ option_map index_alone old
        by-name [] = refl
        by-name (c ∷ cs) = kind-of f (resolve_type s d f) (resolve_type t e f) (same d.file below d.full_name name filter.FieldType)

    meant-renamed : type_faults s d f ≡ [] → type_enum t e f ≡ type_enum s d f
    meant-renamed = by-name name
      where
        by-name : (text : List ℕ) → let faults : Faults = elim text [
          | [] ↦ only_if (not (is_some (simple_kind (type_of f.type_)))) (MissingRequiredField (label_in s.files d.file at))
          | _ ∷ _ ↦ listed (reference_fault s.files name d.file at (resolve_type s d f))
        ] in
            let old : DefaultEnum = elim text [ [] ↦ no_default_enum | _ ∷ _ ↦ enum_found s (resolve_type s d f) ] in
            let new : DefaultEnum = elim text [ [] ↦ no_default_enum | _ ∷ _ ↦ enum_found t (resolve_type t e f) ] in faults ≡ [] → new ≡ old
        by-name [] none = refl
        by-name (c ∷ cs) none =
            found-meant (resolve_type s d f) (resolve_type t e f) (faultless s.files name d.file at (resolve_type s d f) none)
            (same d.file below d.full_name name filter.FieldType) (both d.file below d.full_name name filter.FieldType)

    defaulted-renamed : type_faults s d f ≡ [] → field_default_faults s d f ≡ [] → field_default_faults t e f ≡ []
    defaulted-renamed typed none =
        ap (λ meant. option_map_or (λ k. default_faults t.files (number d.file) d.path k meant f.default_value) (field_kind t e f) []) (meant-renamed typed)
        ∙ default-alone s.files t.files d.file (number d.file) d.path (type_enum s d f) (field_kind s d f) (field_kind t e f) f.default_value kind-renamed none

  -- the fields of a message
  module _ (d : Shown) (below : d.file < many) (parent : Option ℕ) (index : ℕ) (m : DescriptorProto) where
    abbrev there : Shown
    there = to d parent index

    field-renamed : (i : ℕ) (f : FieldDescriptorProto) → field_faults s (d, m) (field_at (inside d) i f) f ≡ [] → field_faults t (there, m) (field_at (inside there) i f) f ≡ []
    field-renamed i f none =
        let here = field_at (inside d) i f in
        let moved_field = field_at (inside there) i f in
        let parts = breaks-nothing s (d, m) here f none in
        let earlier = take i (out-DescriptorProto m).field in
        nothing-broken t (there, m) moved_field f (record {
          number = field-numbered s.files t.files d there here moved_field m m f f (record { reserved = refl; extensions = refl }) refl refl parts.number;
          typed = typed-renamed here below (Some index) i f parts.typed;
          default = defaulted-renamed here below (Some index) i f parts.typed parts.default;
          oneof = parts.oneof;
          other =
              ap (λ fs. duplicate_faults t.files (number d.file) d.path fs i f) (sym (map-id earlier))
              ∙ again-still s.files t.files d.file (number d.file) d.path (λ x. x) (λ x. refl) (λ x. refl) earlier i f parts.other;
        })

    fields-renamed : (i : ℕ) (fs : List FieldDescriptorProto) → told (λ i f. field_faults s (d, m) (field_at (inside d) i f) f) i fs ≡ []
        → told (λ i f. field_faults t (there, m) (field_at (inside there) i f) f) i fs ≡ []
    fields-renamed = told-still (λ i f. field_faults s (d, m) (field_at (inside d) i f) f) (λ i f. field_faults t (there, m) (field_at (inside there) i f) f) field-renamed

  -- the methods of a service
  module _ (d : Shown) (below : d.file < many) (parent : Option ℕ) (index : ℕ) where
    abbrev other : Shown
    other = to d parent index

    method-renamed : (i : ℕ) (m : MethodDescriptorProto) → method_faults s (method_at (inside d) i m) m ≡ [] → method_faults t (method_at (inside other) i m) m ≡ []
    method-renamed i m none =
        let here = method_at (inside d) i m in
        let there = method_at (inside other) i m in
        let input = text_of m.input_type in
        let output = text_of m.output_type in
        let parts = both-empty (listed (reference_fault s.files input d.file (here.path ++ method.INPUT_TYPE ∷ []) (resolve_message s here m.input_type)))
        (listed (reference_fault s.files output d.file (here.path ++ method.OUTPUT_TYPE ∷ []) (resolve_message s here m.output_type))) none in
        let taken = reference-renamed d.file below here.full_name input filter.Message (here.path ++ method.INPUT_TYPE ∷ []) parts.0 in
        let given = reference-renamed d.file below here.full_name output filter.Message (here.path ++ method.OUTPUT_TYPE ∷ []) parts.1 in
        λ j. taken j ++ given j

    methods-renamed : (i : ℕ) (ms : List MethodDescriptorProto) → told (λ i m. method_faults s (method_at (inside d) i m) m) i ms ≡ []
        → told (λ i m. method_faults t (method_at (inside other) i m) m) i ms ≡ []
    methods-renamed = told-still (λ i m. method_faults s (method_at (inside d) i m) m) (λ i m. method_faults t (method_at (inside other) i m) m) method-renamed

    -- the number of an extension, by the record of the message that was found
    number-renamed : (x : FieldDescriptorProto) (r q : Resolution) → SameFound number r q → BothMoved r q → number_faults s d x r ≡ [] → number_faults t other x q ≡ []
    number-renamed x (found name def) (found full e) same both none =
        let stay = subst (RangesStay (message_record s def)) (ap (option_and_then as_message) (sym (record-renamed def e both.1))) (ranges-itself (message_record s def)) in
        numbered-by s t d other x x refl name full def e (message_record s def) (message_record t e) stay none
    number-renamed x (found name d) _ same both none = refl
    number-renamed x _ (found _ _) same both none = absurd same
    number-renamed x _ _ same both none = refl

    extension-renamed : (x : FieldDescriptorProto) → extension_faults s [] d x ≡ [] → extension_faults t [] other x ≡ []
    extension-renamed x none =
        let name = text_of x.extendee in
        let parts = extension-parts s d x [] none in
        all-parts t other x [] (record {
          extendee = reference-renamed d.file below d.full_name name filter.Message (d.path ++ field.EXTENDEE ∷ []) parts.extendee;
          number = number-renamed x (resolve_message s d x.extendee) (resolve_message t other x.extendee) (same d.file below d.full_name name filter.Message) (both d.file below d.full_name name filter.Message) parts.number;
          taken = untaken t other x [] (resolve_message t other x.extendee) refl;
          type_ = typed-renamed d below parent index x parts.type_;
          default = defaulted-renamed d below parent index x parts.type_ parts.default;
        })

    -- the imports of a file
    missing-renamed : (old now : Option ℕ) (a b : DescriptorErrorKind) → is_some now ≡ is_some old → only_if (not (is_some old)) a ≡ [] → only_if (not (is_some now)) b ≡ []
    missing-renamed old now a b same none = ap (λ found. only_if (not found) b) same ∙ no-fault (not (is_some old)) a b none

    imports-renamed : (i j : ℕ) (f : FileDescriptorProto) → import_faults s i f ≡ [] → import_faults t j f ≡ []
    imports-renamed i j f =
        imports-by s t i j f
        (told-still (missing_file s i) (missing_file t j) (λ k name. missing-renamed (finite.get s.file_names name) (finite.get t.file_names name) _ _ (renames.file_names name)) 0 f.dependency)

  -- a declaration by itself and by its parts
  owner-renamed : (file : ℕ) (below : file < many) (here there : Option ℕ) (i j : ℕ) (path : List ℤ) (full_name : List ℕ) (p : Proto)
      → let d : Shown = record { file = file; parent = here; index = i; path = path; full_name = full_name; proto = p } in
      owner_faults s [] d ≡ [] → owner_faults t [] (to d there j) ≡ []
  owner-renamed file below here there i j path full_name (of_file f) none =
      imports-renamed (record { file = file; parent = here; index = i; path = path; full_name = full_name; proto = of_file f }) below there j i j f none
  owner-renamed file below here there i j path full_name (of_message m) none =
      fields-renamed (record { file = file; parent = here; index = i; path = path; full_name = full_name; proto = of_message m }) below there j m 0 (out-DescriptorProto m).field none
  owner-renamed file below here there i j path full_name (of_service v) none =
      methods-renamed (record { file = file; parent = here; index = i; path = path; full_name = full_name; proto = of_service v }) below there j 0 v.method none
  owner-renamed file below here there i j path full_name (of_enum e) none =
      let d : Shown = record { file = file; parent = here; index = i; path = path; full_name = full_name; proto = of_enum e } in
      values-still s.files t.files d (to d there j) e none
  owner-renamed file below here there i j path full_name (of_extension x) none =
      extension-renamed (record { file = file; parent = here; index = i; path = path; full_name = full_name; proto = of_extension x }) below there j x none
  owner-renamed file below here there i j path full_name _ none = refl

  -- so it is with each, and all
  moved-renamed : (d e : Shown) → Moved number d e → d.file < many → owner_faults s [] d ≡ [] → owner_faults t [] e ≡ []
  moved-renamed d e moved below none =
      (λ i. owner_faults t [] (record e { file = moved.file i; path = moved.path i; full_name = moved.full_name i; proto = moved.proto i }))
      ∙ owner-renamed d.file below d.parent e.parent d.index e.index d.path d.full_name d.proto none

  pub all-renamed : (ds es : List Shown) → AllMoved number ds es → AllByRecursion (λ (d : Shown). d.file < many) ds → flat_map (owner_faults s []) ds ≡ [] → flat_map (owner_faults t []) es ≡ []
  all-renamed [] [] moved below none = refl
  all-renamed (d ∷ ds) (e ∷ es) moved below none =
      let parts = both-empty (owner_faults s [] d) (flat_map (owner_faults s []) ds) none in
      λ i. moved-renamed d e moved.0 below.0 parts.0 i ++ all-renamed ds es moved.1 below.1 parts.1 i
  all-renamed _ _ moved below none = absurd moved
