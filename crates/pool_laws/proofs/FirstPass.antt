-- A declaration that broke nothing in the first pass breaks nothing where it is read among others, if names mean the same.
use Rattle.std.proofs.Common.{◌≡◌, ℕ, ◌+◌, ℤ, Bool, true, false, not, cond, ◌||◌, ◌&&◌, is_some, if◌then◌else◌, Option, None, Some, pos, List, [], ◌∷◌, ◌++◌, map, find, refl, ap, sym, ◌∙◌}
use Rattle.std.specs.FinMap as finite
use Rattle.std.specs.List.{enumerate_from}
use Rattle.std.specs.Option.{option_or}
use Rattle.std.specs.Ordering.{int_eq}
use Rattle.std.specs.Str.{bytes_eq}
use Rattle.std.proofs.lemmas.List.{map-append}
use Rattle.proto_types.specs.declared.records.enumeration.EnumValueDescriptorProto.{EnumValueDescriptorProto}
use Rattle.proto_types.specs.declared.records.field.FieldDescriptorProto.{FieldDescriptorProto}
use Rattle.proto_types.specs.declared.tag.file.TheConstants.{SYNTAX}
use Rattle.plain_data.specs.Lists.{after_each, only_if}
use Rattle.proto_types.specs.Names.{join}
use Rattle.proto_types.specs.Readers.{number_of, text_of}
use Rattle.proto_types.specs.declared.file.FileDescriptorProto.{FileDescriptorProto}
use Rattle.proto_types.specs.declared.message.DescriptorProto.{DescriptorProto, out-DescriptorProto}
use Rattle.pool_types.specs.Contents.{ByText, Contents}
use Rattle.pool_faults.specs.Labels.{label_in}
use Rattle.pool_types.specs.declared.contents.definition.Definition.{Definition}
use Rattle.pool_faults.specs.declared.fault.DescriptorErrorKind.{DescriptorErrorKind}
use Rattle.pool_faults.specs.declared.fault.DescriptorErrorKind.TheVariants.{EmptyEnum, InvalidProto3EnumDefault, UnknownSyntax}
use Rattle.pool_types.specs.declared.kinds.Syntax.{Syntax}
use Rattle.name_tables.specs.Entries.{Entry, first_of}
use Rattle.name_tables.proofs.Entries.{first-append}
use Rattle.record_walk.specs.Changed.{Changes, KeepNames, changed, changed_message}
use Rattle.record_walk.specs.Protos.{Proto, of_file, of_message, of_enum}
use Rattle.record_walk.specs.Shown.{Shown}
use Rattle.pool_types.specs.Definition.{is_package}
use Rattle.name_pass.specs.CamelCase.{Placed, camel_case_faults, camel_case_key, key_at, message_own_faults, shared_key_faults}
use Rattle.name_pass.specs.Enumeration.{first_number_path}
use Rattle.pool_types.specs.Syntaxes.{is_proto3, known_syntax, syntax_at}
use Rattle.name_pass.specs.Syntax.{syntax_faults}
use Rattle.name_pass.specs.Names.{entries, entries_of, file_entries}
use Rattle.name_pass.specs.FirstPass.{clashes, file_faults, file_name_faults, first_faults, holder, holder_faults, shape_faults}
use Rattle.pool_laws.proofs.Messages.{parts-of}
use Rattle.pool_laws.proofs.Told.{lists-nothing, nothing-of}
use Rattle.reference_pass.proofs.Unbroken.{both-empty}
use Rattle.pool_laws.proofs.Typed.{no-fault}

pub or-or : {X : Type 0} (a b c : Option X) → option_or a (option_or b c) ≡ option_or (option_or a b) c
or-or None b c = refl
or-or (Some x) b c = refl

-- a name's holder among more entries
pub holder-more : {X : Type 0} (known : ByText X) (before more : List (List ℕ × X)) (name : List ℕ) → holder known (before ++ more) name ≡ option_or (holder known before name) (first_of more name)
holder-more known before more name = ap (option_or (finite.get known name)) (first-append before more name) ∙ or-or (finite.get known name) (first_of before name) (first_of more name)

-- a clash of names
if-still : (b : Bool) (x y : DescriptorErrorKind) → (if b then [] else x ∷ []) ≡ [] → (if b then [] else y ∷ []) ≡ []
if-still true x y none = refl
if-still false x y none = absurd (cc)

module _ (fs gs : List FileDescriptorProto) where
  clash-still : (held : Option Definition) (e : Entry) → holder_faults fs held e ≡ [] → holder_faults gs held e ≡ []
  clash-still None e none = refl
  clash-still (Some held) e none = if-still (is_package held.kind && is_package e.1.kind) _ _ none

  clashes-still : (known other : ByText Definition) (old new : List Entry) → ((name : List ℕ) → holder other new name ≡ holder known old name)
      → (es : List Entry) → clashes fs known old es ≡ [] → clashes gs other new es ≡ []
  clashes-still known other old new same [] none = refl
  clashes-still known other old new same (e ∷ es) none =
      let parts = both-empty (holder_faults fs (holder known old e.0) e) (clashes fs known (old ++ e ∷ []) es) none in
      let here : holder_faults gs (holder other new e.0) e ≡ [] = ap (λ h. holder_faults gs h e) (same e.0) ∙ clash-still (holder known old e.0) e parts.0 in
      let more : (name : List ℕ) → holder other (new ++ e ∷ []) name ≡ holder known (old ++ e ∷ []) name = λ name.
      holder-more other new (e ∷ []) name ∙ ap (λ h. option_or h (first_of (e ∷ []) name)) (same name) ∙ sym (holder-more known old (e ∷ []) name) in
      λ i. here i ++ clashes-still known other (old ++ e ∷ []) (new ++ e ∷ []) more es parts.1 i

-- a syntax that is known
pub known-still : (k : Option Syntax) (x y : DescriptorErrorKind) → let f : List DescriptorErrorKind = elim k [ Some _ ↦ [] | None ↦ x ∷ [] ] in
    let g : List DescriptorErrorKind = elim k [ Some _ ↦ [] | None ↦ y ∷ [] ] in f ≡ [] → g ≡ []
known-still (Some k) x y none = refl
known-still None x y none = absurd (cc)

-- whether one of some entries meets a test
some-cond : {X : Type 0} (b : Bool) (x : X) (r : Option X) → is_some (cond b (Some x) r) ≡ (b || is_some r)
some-cond true x r = refl
some-cond false x r = refl

found-changed : {X : Type 0} (change : X → X) (test other : X → Bool) → ((x : X) → other (change x) ≡ test x) → (xs : List X)
    → is_some (find other (map change xs)) ≡ is_some (find test xs)
found-changed change test other same [] = refl
found-changed change test other same (x ∷ xs) =
    some-cond (other (change x)) (change x) (find other (map change xs))
    ∙ (λ i. same x i || found-changed change test other same xs i)
    ∙ sym (some-cond (test x) x (find test xs))

-- fields whose names have keys of their own
module _ (fs gs : List FileDescriptorProto) (file other : ℕ) (path place : List ℤ) (change : FieldDescriptorProto → FieldDescriptorProto)
    (names : (f : FieldDescriptorProto) → text_of (change f).name ≡ text_of f.name) where
  abbrev placed : Placed → Placed
  placed e = (e.0, change e.1)

  key-is : (e : Placed) → key_at (placed e) ≡ key_at e
  key-is e = ap camel_case_key (names e.1)

  key-still : (before : List Placed) (e : Placed) → shared_key_faults fs file path before e ≡ [] → shared_key_faults gs other place (map placed before) (placed e) ≡ []
  key-still before e none =
      let test : Placed → Bool = λ first. bytes_eq (key_at e) (key_at first) in
      let moved : Placed → Bool = λ first. bytes_eq (key_at (placed e)) (key_at first) in
      lists-nothing (find moved (map placed before)) _
      (found-changed placed test moved (λ x i. bytes_eq (key-is e i) (key-is x i)) before ∙ nothing-of (find test before) _ none)

  keys-still : (before : List Placed) (n : ℕ) (fields : List FieldDescriptorProto) → after_each (shared_key_faults fs file path) before (enumerate_from n fields) ≡ []
      → after_each (shared_key_faults gs other place) (map placed before) (enumerate_from n (map change fields)) ≡ []
  keys-still before n [] none = refl
  keys-still before n (f ∷ fields) none =
      let e : Placed = (n, f) in
      let parts = both-empty (shared_key_faults fs file path before e) (after_each (shared_key_faults fs file path) (before ++ e ∷ []) (enumerate_from (n + 1) fields)) none in
      let rest = ap (λ bs. after_each (shared_key_faults gs other place) bs (enumerate_from (n + 1) (map change fields))) (sym (map-append placed before (e ∷ [])))
      ∙ keys-still (before ++ e ∷ []) (n + 1) fields parts.1 in
      λ i. key-still before e parts.0 i ++ rest i

  pub camel-still : (fields : List FieldDescriptorProto) → camel_case_faults fs file path fields ≡ [] → camel_case_faults gs other place (map change fields) ≡ []
  camel-still = keys-still [] 0

-- what is told in proto3 alone
pub in-proto3 : (b : Bool) (xs ys : List DescriptorErrorKind) → (xs ≡ [] → ys ≡ []) → (if b then xs else []) ≡ [] → (if b then ys else []) ≡ []
in-proto3 true xs ys still none = still none
in-proto3 false xs ys still none = refl

module _ (fs gs : List FileDescriptorProto) (file other : ℕ) (path place : List ℤ) (proto3 : is_proto3 (syntax_at gs other) ≡ is_proto3 (syntax_at fs file)) where
  pub begins-still : (vs : List EnumValueDescriptorProto)
      → let f : List DescriptorErrorKind = elim vs [
        | [] ↦ EmptyEnum (label_in fs file path) ∷ []
        | first ∷ _ ↦ only_if (is_proto3 (syntax_at fs file) && not (int_eq (number_of first.number) (pos 0))) (InvalidProto3EnumDefault (label_in fs file (first_number_path path)))
      ] in
      let g : List DescriptorErrorKind = elim vs [
        | [] ↦ EmptyEnum (label_in gs other place) ∷ []
        | first ∷ _ ↦ only_if (is_proto3 (syntax_at gs other) && not (int_eq (number_of first.number) (pos 0))) (InvalidProto3EnumDefault (label_in gs other (first_number_path place)))
      ] in
      f ≡ [] → g ≡ []
  begins-still [] none = absurd (cc)
  begins-still (v ∷ vs) none =
      let wrong = not (int_eq (number_of v.number) (pos 0)) in
      let told = InvalidProto3EnumDefault (label_in gs other (first_number_path place)) in
      (λ i. only_if (proto3 i && wrong) told) ∙ no-fault (is_proto3 (syntax_at fs file) && wrong) _ told none

module _ (c : Changes) (keep : KeepNames c) (fs gs : List FileDescriptorProto) (p q : Contents) (earlier before : List Shown)
    (names : (name : List ℕ) → holder q.names (entries before) name ≡ holder p.names (entries earlier) name)
    (files : (name : List ℕ) → holder q.file_names (file_entries before) name ≡ holder p.file_names (file_entries earlier) name) where
  module _ (file : ℕ) (parent : Option ℕ) (index : ℕ) (path : List ℤ) (full_name : List ℕ) (syntax : syntax_at gs file ≡ syntax_at fs file) where
    abbrev at : Proto → Shown
    at r = record { file = file; parent = parent; index = index; path = path; full_name = full_name; proto = r }

    -- names, and else nothing
    by-names : (d e : Shown) → entries_of e ≡ entries_of d → clashes fs p.names (entries earlier) (entries_of d) ≡ [] → clashes gs q.names (entries before) (entries_of e) ≡ []
    by-names d e same none = ap (clashes gs q.names (entries before)) same ∙ clashes-still fs gs p.names q.names (entries earlier) (entries before) names (entries_of d) none

    -- the three parts of what a declaration breaks
    by-parts : (d e : Shown) → entries_of e ≡ entries_of d → (file_faults fs p.file_names (file_entries earlier) d ≡ [] → file_faults gs q.file_names (file_entries before) e ≡ [])
        → (shape_faults fs d ≡ [] → shape_faults gs e ≡ []) → first_faults fs p earlier d ≡ [] → first_faults gs q before e ≡ []
    by-parts d e same first own none =
        let clash = clashes fs p.names (entries earlier) (entries_of d) in
        let two = both-empty (file_faults fs p.file_names (file_entries earlier) d ++ clash) (shape_faults fs d) none in
        let one = both-empty (file_faults fs p.file_names (file_entries earlier) d) clash two.0 in
        λ i. first one.0 i ++ by-names d e same one.1 i ++ own two.1 i

    file-again : (f : FileDescriptorProto) → file_faults fs p.file_names (file_entries earlier) (at (of_file f)) ≡ [] → file_faults gs q.file_names (file_entries before) (changed c (at (of_file f))) ≡ []
    file-again f none =
        let name = text_of f.name in
        let parts = both-empty (syntax_faults fs file f) (file_name_faults (holder p.file_names (file_entries earlier) name) name) none in
        let known : syntax_faults gs file f ≡ [] =
        known-still (known_syntax f.syntax) (UnknownSyntax (text_of f.syntax) (label_in fs file (SYNTAX ∷ []))) (UnknownSyntax (text_of f.syntax) (label_in gs file (SYNTAX ∷ []))) parts.0 in
        λ i. known i ++ (ap (λ h. file_name_faults h name) (files name) ∙ parts.1) i

    message-own : (m : DescriptorProto) → message_own_faults fs file path m ≡ [] → message_own_faults gs file path (changed_message c file full_name m) ≡ []
    message-own m none =
        let change : FieldDescriptorProto → FieldDescriptorProto = λ f. c.field file (join full_name (text_of f.name)) f in
        let fields = (out-DescriptorProto m).field in
        let still = camel-still fs gs file file path path change (λ f. keep.fields file (join full_name (text_of f.name)) f) fields in
        (λ i. if is_proto3 (syntax i) then camel_case_faults gs file path ((parts-of c file full_name m).fields i) else [])
        ∙ in-proto3 (is_proto3 (syntax_at fs file)) (camel_case_faults fs file path fields) (camel_case_faults gs file path (map change fields)) still none

    first-by : (r : Proto) → first_faults fs p earlier (at r) ≡ [] → first_faults gs q before (changed c (at r)) ≡ []
    first-by (of_file f) = by-parts (at (of_file f)) (changed c (at (of_file f))) refl (file-again f) (λ none. refl)
    first-by (of_message m) = by-parts (at (of_message m)) (changed c (at (of_message m))) refl (λ none. refl) (message-own m)
    first-by (of_enum e) = by-parts (at (of_enum e)) (changed c (at (of_enum e))) refl (λ none. refl) (begins-still fs gs file file path path (ap is_proto3 syntax) e.value)
    first-by r = by-parts (at r) (changed c (at r)) refl (λ none. refl) (λ none. refl)

  pub first-again : (d : Shown) → syntax_at gs d.file ≡ syntax_at fs d.file → first_faults fs p earlier d ≡ [] → first_faults gs q before (changed c d) ≡ []
  first-again d syntax = first-by d.file d.parent d.index d.path d.full_name syntax d.proto
