-- Extensions with new numbers, read in another setting, and where two parts of them change places: their numbers are new there too.
use Rattle.std.proofs.Common.{◌≡◌, ◌<◌, ℕ, Bool, true, false, cond, Option, Some, None, List, [], ◌∷◌, ◌++◌, refl, ap, subst, sym, ◌∙◌, arith}
use Rattle.std.proofs.lemmas.Bool.Decides.{nat_tests}
use Rattle.std.specs.FinMap as finite
use Rattle.std.specs.List.{AllByRecursion, find, flat_map}
use Rattle.plain_data.specs.Lists.{listed}
use Rattle.proto_types.specs.declared.records.field.FieldDescriptorProto.{FieldDescriptorProto}
use Rattle.proto_types.specs.declared.tag.field.TheConstants as field
use Rattle.proto_types.specs.Readers.{text_of}
use Rattle.pool_types.specs.declared.contents.definition.Definition.{Definition}
use Rattle.pool_types.specs.declared.contents.definition.DefinitionKind.{DefinitionKind}
use Rattle.pool_types.specs.declared.contents.definition.DefinitionKind.TheVariants as definition
use Rattle.pool_types.specs.declared.contents.extension.ExtensionDescriptorInner.{ExtensionDescriptorInner}
use Rattle.record_walk.specs.Protos.{Proto, of_extension, as_extension}
use Rattle.record_walk.specs.Shown.{Shown}
use Rattle.name_resolution.specs.declared.filter.ResolveNameFilter.TheVariants.{Message}
use Rattle.name_resolution.specs.Filter.{is_match}
use Rattle.name_resolution.specs.References.{reference_fault}
use Rattle.name_resolution.specs.Resolution.{Resolution, found}
use Rattle.pool_types.specs.Extension.{has_number}
use Rattle.descriptor_pool.proofs.Resolved.{all-append}
use Rattle.reference_pass.specs.Items.{extension_item, extension_items}
use Rattle.reference_pass.specs.References.{index_or_max, message_found, message_index}
use Rattle.reference_pass.specs.SecondPass.{owner_faults}
use Rattle.reference_pass.specs.Setting.{Setting, resolve}
use Rattle.reference_pass.proofs.Steps.{made-append}
use Rattle.reference_pass.proofs.Unbroken.{AllNew, IsNew, both-empty, extension-parts}
use Rattle.pool_laws.proofs.Looked.{IsLooked, looked-named, resolution-looked}
use Rattle.pool_laws.proofs.Moved.{AllMoved, Moved}
use Rattle.pool_laws.proofs.Renamed.{Renames, SameFound, resolve-renamed}
use Rattle.pool_laws.proofs.Sharing.{Across, Pairwise, across-turned, pairwise-exchanged}
use Rattle.pool_laws.proofs.Typed.{seen}
use Rattle.pool_laws.proofs.AllOf.{all-split, made-of-four, all-exchanged}
use Rattle.pool_laws.proofs.Paired.{paired-four, Paired, paired-across, paired-append, paired-pairwise}

-- two extensions don't have one message and one number
abbrev pub Differ : ExtensionDescriptorInner → ExtensionDescriptorInner → Type 0
Differ x y = x.extendee ≡ y.extendee → x.number ≡ y.number → ⊥

differ-turned : (x y : ExtensionDescriptorInner) → Differ x y → Differ y x
differ-turned x y differ extendee number = differ (sym extendee) (sym number)

-- extensions differ from earlier ones, and from each other
pub record AllDiffer (earlier xs : List ExtensionDescriptorInner) : Type 0 where
  pub behind : Across Differ xs earlier
  pub among : Pairwise Differ xs

-- a new number is that of no earlier extension of the message
first-differs : (x y : ExtensionDescriptorInner) (rest : Option ExtensionDescriptorInner) (b : Bool) → has_number x.extendee x.number y ≡ b → cond b (Some y) rest ≡ None
    → Differ x y × (rest ≡ None)
first-differs x y rest true is none = absurd (cc)
first-differs x y rest false is none = (λ extendee number. let same : has_number x.extendee x.number y ≡ true = grind (arith, nat_tests, extendee, number) in absurd (cc), none)

new-differs : (x : ExtensionDescriptorInner) (earlier : List ExtensionDescriptorInner) → IsNew earlier x → AllByRecursion (Differ x) earlier
new-differs x [] new = tt
new-differs x (y ∷ ys) new =
    let parts = first-differs x y (find (has_number x.extendee x.number) ys) (has_number x.extendee x.number y) refl new in
    (parts.0, new-differs x ys parts.1)

-- and the other way round
none-first : (x y : ExtensionDescriptorInner) (rest : Option ExtensionDescriptorInner) (b : Bool) → has_number x.extendee x.number y ≡ b → Differ x y → rest ≡ None → cond b (Some y) rest ≡ None
none-first x y rest true is differ none =
    let extendee : x.extendee ≡ y.extendee = grind (arith, nat_tests, is) in
    let number : x.number ≡ y.number = grind (arith, nat_tests, is) in
    absurd (differ extendee number)
none-first x y rest false is differ none = none

differs-new : (x : ExtensionDescriptorInner) (earlier : List ExtensionDescriptorInner) → AllByRecursion (Differ x) earlier → IsNew earlier x
differs-new x [] differ = refl
differs-new x (y ∷ ys) differ =
    none-first x y (find (has_number x.extendee x.number) ys) (has_number x.extendee x.number y) refl differ.0 (differs-new x ys differ.1)

-- extensions have new numbers where they differ
pub new-differ : (earlier xs : List ExtensionDescriptorInner) → AllNew earlier xs → AllDiffer earlier xs
new-differ earlier [] new = record { behind = tt; among = tt }
new-differ earlier (x ∷ xs) new =
    let rest = new-differ (earlier ++ x ∷ []) xs new.1 in
    let parts = all-split (λ y. AllByRecursion (Differ y) xs) earlier (x ∷ []) (across-turned Differ differ-turned xs (earlier ++ x ∷ []) rest.behind) in
    record {
      behind = (new-differs x earlier new.0, across-turned Differ differ-turned earlier xs parts.0);
      among = (parts.1.0, rest.among);
    }

pub differ-new : (earlier xs : List ExtensionDescriptorInner) → AllDiffer earlier xs → AllNew earlier xs
differ-new earlier [] differ = tt
differ-new earlier (x ∷ xs) differ =
    let turned = all-append (λ y. AllByRecursion (Differ y) xs) earlier (x ∷ []) (across-turned Differ differ-turned xs earlier differ.behind.1) (differ.among.0, tt) in (
      differs-new x earlier differ.behind.0,
      differ-new (earlier ++ x ∷ []) xs (record { behind = across-turned Differ differ-turned (earlier ++ x ∷ []) xs turned; among = differ.among.1 }),
    )

-- so two parts may change places
pub new-turned : (earlier ws xs ys zs : List ExtensionDescriptorInner) → AllNew earlier (ws ++ xs ++ ys ++ zs) → AllNew earlier (ws ++ ys ++ xs ++ zs)
new-turned earlier ws xs ys zs new =
    let differ = new-differ earlier (ws ++ xs ++ ys ++ zs) new in
    differ-new earlier (ws ++ ys ++ xs ++ zs) (record {
      behind = all-exchanged (λ x. AllByRecursion (Differ x) earlier) ws xs ys zs differ.behind;
      among = pairwise-exchanged Differ differ-turned ws xs ys zs differ.among;
    })

-- two names that mean messages with one index are one name
abbrev pub OneName : Setting → Type 0
OneName t = (x y : List ℕ) (d e : Definition) (m : ℕ) → finite.get t.names x ≡ Some d → finite.get t.names y ≡ Some e → message_index d.kind ≡ Some m → message_index e.kind ≡ Some m → x ≡ y

-- an extension extends a message that a name means in two settings, by one definition
pub record ExtendsKnown (s t : Setting) (x : ExtensionDescriptorInner) : Type 0 where
  pub name : List ℕ
  pub def : Definition
  pub here : finite.get s.names name ≡ Some def
  pub there : finite.get t.names name ≡ Some def
  pub index : message_index def.kind ≡ Some x.extendee

-- a name means messages in two settings, with an index in each
record OneMessage (s t : Setting) (i j : ℕ) : Type 0 where
  name : List ℕ
  first : Definition
  second : Definition
  here : finite.get s.names name ≡ Some first
  there : finite.get t.names name ≡ Some second
  index_here : message_index first.kind ≡ Some i
  index_there : message_index second.kind ≡ Some j

-- what is wanted as a message has an index
matched-index : (kind : DefinitionKind) → is_match Message kind ≡ true → message_index kind ≡ Some (index_or_max (message_index kind))
matched-index (definition.Message m) wanted = refl
matched-index _ wanted = absurd (cc)

module _ (s t : Setting) where
  -- an extension has the number of another, and extends the message that its name means there
  abbrev Extends : ExtensionDescriptorInner → ExtensionDescriptorInner → Type 0
  Extends x y = (y.number ≡ x.number) × OneMessage s t x.extendee y.extendee

  -- so it is with extensions, one after another
  abbrev AllExtend : List ExtensionDescriptorInner → List ExtensionDescriptorInner → Type 0
  AllExtend = Paired Extends

  -- known ones are as they were
  known-extend : (xs : List ExtensionDescriptorInner) → AllByRecursion (ExtendsKnown s t) xs → AllExtend xs xs
  known-extend [] known = tt
  known-extend (x ∷ xs) known =
      let it = known.0 in
      ((refl, record { name = it.name; first = it.def; second = it.def; here = it.here; there = it.there; index_here = it.index; index_there = it.index }), known-extend xs known.1)

  module _ (one : OneName t) where
    -- where these clash, those clash
    same-index : (i j k l : ℕ) → OneMessage s t i j → OneMessage s t k l → j ≡ l → i ≡ k
    same-index i j k l a b same =
        let name : a.name ≡ b.name = one a.name b.name a.second b.second j a.there b.there a.index_there (b.index_there ∙ ap Some (sym same)) in
        let both : Some a.first ≡ Some b.first = sym a.here ∙ ap (finite.get s.names) name ∙ b.here in
        let first : a.first ≡ b.first = cc in
        let indexes : Some i ≡ Some k = sym a.index_here ∙ ap (λ (d : Definition). message_index d.kind) first ∙ b.index_here in
        cc

    differ-there : (v w x y : ExtensionDescriptorInner) → Extends v w → Extends x y → Differ v x → Differ w y
    differ-there v w x y first second differ extendee number =
        differ (same-index v.extendee w.extendee x.extendee y.extendee first.1 second.1 extendee) (sym first.0 ∙ number ∙ second.0)

    new-there : (old : List ExtensionDescriptorInner) → AllExtend old old → (xs ys : List ExtensionDescriptorInner) → AllExtend xs ys → AllNew old xs → AllNew old ys
    new-there old olds xs ys all new =
        let differ = new-differ old xs new in
        differ-new old ys (record { behind = paired-across Extends Differ Differ differ-there xs ys old old all olds differ.behind; among = paired-pairwise Extends Differ Differ differ-there xs ys all differ.among })

  module _ (many : ℕ) (number : ℕ → ℕ) (renames : Renames s t many number) where
    -- what is found here is found there under the same name
    found-both : (d e : Shown) (x : FieldDescriptorProto) (r q : Resolution) → IsLooked s.names (seen s d.file) Message r → IsLooked t.names (seen t e.file) Message q → SameFound number r q
        → listed (reference_fault s.files (text_of x.extendee) d.file (d.path ++ field.EXTENDEE ∷ []) r) ≡ []
        → OneMessage s t (index_or_max (message_found r)) (index_or_max (message_found q))
    found-both d e x (found name def) (found again other) here there same none = record {
      name = name;
      first = def;
      second = other;
      here = looked-named s.names (seen s d.file) Message name name def here.0;
      there = ap (finite.get t.names) (sym same.0) ∙ looked-named t.names (seen t e.file) Message again again other there.0;
      index_here = matched-index def.kind here.1;
      index_there = matched-index other.kind there.1;
    }
    found-both d e x (found name def) _ here there same none = absurd same
    found-both d e x _ q here there same none = absurd (cc)

    -- an extension that breaks nothing extends the message of its extendee's name in both
    extension-extends : (d e : Shown) (x : FieldDescriptorProto) → e.file ≡ number d.file → e.full_name ≡ d.full_name → d.file < many
        → owner_faults s [] (record d { proto = of_extension x }) ≡ []
        → Extends (extension_item s (record d { proto = of_extension x }) x) (extension_item t (record e { proto = of_extension x }) x)
    extension-extends d e x file full_name below none =
        let parts = extension-parts s (record d { proto = of_extension x }) x [] none in
        let written = text_of x.extendee in
        let there = resolve t e.file e.full_name Message written in
        let here = resolve s d.file d.full_name Message written in
        let same : SameFound number here there =
        subst (λ name. SameFound number here (resolve t e.file name Message written)) (sym full_name)
        (subst (λ n. SameFound number here (resolve t n d.full_name Message written)) (sym file)
        (resolve-renamed s t many number renames d.file below d.full_name written Message)) in (
          refl,
          found-both d e x here there (resolution-looked s.names (seen s d.file) Message d.full_name written)
              (resolution-looked t.names (seen t e.file) Message e.full_name written) same parts.extendee,
        )

    -- so with each declaration
    owner-extends : (d e : Shown) (p : Proto) → e.file ≡ number d.file → e.full_name ≡ d.full_name → d.file < many → owner_faults s [] (record d { proto = p }) ≡ []
        → AllExtend (extension_items s (record d { proto = p } ∷ [])) (extension_items t (record e { proto = p } ∷ []))
    owner-extends d e (of_extension x) file full_name below none = (extension-extends d e x file full_name below none, tt)
    owner-extends d e _ file full_name below none = tt

    -- and with all
    owners-extend : (ds es : List Shown) → AllMoved number ds es → AllByRecursion (λ d. d.file < many) ds → flat_map (owner_faults s []) ds ≡ []
        → AllExtend (extension_items s ds) (extension_items t es)
    owners-extend [] [] moved below none = tt
    owners-extend (d ∷ ds) (e ∷ es) moved below none =
        let it = moved.0 in
        let parts = both-empty (owner_faults s [] d) (flat_map (owner_faults s []) ds) none in
        let first = subst (λ p. AllExtend (extension_items s (d ∷ [])) (extension_items t (record e { proto = p } ∷ []))) (sym it.proto)
        (owner-extends d e d.proto it.file it.full_name below.0 parts.0) in
        subst (λ xs. AllExtend xs (extension_items t (e ∷ es))) (sym (made-append as_extension (extension_item s) (d ∷ []) ds))
        (subst (AllExtend (extension_items s (d ∷ []) ++ extension_items s ds)) (sym (made-append as_extension (extension_item t) (e ∷ []) es))
        (paired-append Extends (extension_items s (d ∷ [])) (extension_items t (e ∷ [])) (extension_items s ds) (extension_items t es) first (owners-extend ds es moved.1 below.1 parts.1)))
    owners-extend _ _ moved below none = absurd moved

    -- numbers that are new here are new there
    pub new-moved : OneName t → (old : List ExtensionDescriptorInner) → AllByRecursion (ExtendsKnown s t) old → (ds es : List Shown) → AllMoved number ds es
        → AllByRecursion (λ d. d.file < many) ds → flat_map (owner_faults s []) ds ≡ [] → AllNew old (extension_items s ds) → AllNew old (extension_items t es)
    new-moved one old olds ds es moved below none new =
        new-there one old (known-extend old olds) (extension_items s ds) (extension_items t es) (owners-extend ds es moved below none) new

-- the extensions of declarations in four parts
four-items : (s : Setting) (ws xs ys zs : List Shown) → extension_items s (ws ++ xs ++ ys ++ zs) ≡ extension_items s ws ++ extension_items s xs ++ extension_items s ys ++ extension_items s zs
four-items s = made-of-four (extension_items s) (made-append as_extension (extension_item s))

-- and where two parts of the declarations change places
pub new-exchanged : (s t : Setting) (many : ℕ) (number : ℕ → ℕ) → Renames s t many number → OneName t → (old : List ExtensionDescriptorInner) → AllByRecursion (ExtendsKnown s t) old
    → (ws xs ys zs ws2 xs2 ys2 zs2 : List Shown) → AllMoved number ws ws2 → AllMoved number xs xs2 → AllMoved number ys ys2 → AllMoved number zs zs2
    → AllByRecursion (λ d. d.file < many) (ws ++ xs ++ ys ++ zs) → flat_map (owner_faults s []) (ws ++ xs ++ ys ++ zs) ≡ []
    → AllNew old (extension_items s (ws ++ xs ++ ys ++ zs)) → AllNew old (extension_items t (ws2 ++ ys2 ++ xs2 ++ zs2))
new-exchanged s t many number renames one old olds ws xs ys zs ws2 xs2 ys2 zs2 first second third last below none new =
    let moved = paired-four (Moved number) ws xs ys zs ws2 xs2 ys2 zs2 first second third last in
    let there = new-moved s t many number renames one old olds (ws ++ xs ++ ys ++ zs) (ws2 ++ xs2 ++ ys2 ++ zs2) moved below none new in
    subst (AllNew old) (sym (four-items t ws2 ys2 xs2 zs2))
    (new-turned old (extension_items t ws2) (extension_items t xs2) (extension_items t ys2) (extension_items t zs2) (subst (AllNew old) (four-items t ws2 xs2 ys2 zs2) there))
