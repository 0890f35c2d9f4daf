-- The first pass finds nothing where two parts of the declarations change places, and each name is held alike.
use Rattle.std.proofs.Common.{◌≡◌, ℕ, ℤ, Bool, true, false, ◌&&◌, if◌then◌else◌, Option, None, Some, List, [], ◌∷◌, ◌++◌, map, refl, ap, subst, sym, ◌∙◌, append-nil, append_assoc}
use Rattle.std.proofs.lemmas.Grind.{flat_map-append}
use Rattle.std.proofs.lemmas.List.{map-id}
use Rattle.std.specs.FinMap as finite
use Rattle.std.specs.List.{AllByRecursion}
use Rattle.std.specs.Option.{option_map}
use Rattle.proto_types.specs.Readers.{text_of}
use Rattle.proto_types.specs.declared.file.FileDescriptorProto.{FileDescriptorProto}
use Rattle.proto_types.specs.declared.message.DescriptorProto.{DescriptorProto, out-DescriptorProto}
use Rattle.proto_types.specs.declared.tag.file.TheConstants.{SYNTAX}
use Rattle.proto_types.specs.declared.tag.message.TheConstants as message
use Rattle.plain_data.specs.Lists.{after_each}
use Rattle.pool_types.specs.Contents.{ByText, Contents}
use Rattle.pool_types.specs.declared.contents.definition.Definition.{Definition}
use Rattle.pool_types.specs.declared.contents.definition.DefinitionKind.{DefinitionKind}
use Rattle.pool_types.specs.declared.contents.definition.DefinitionKind.TheVariants as definition
use Rattle.pool_faults.specs.Labels.{label_in}
use Rattle.pool_faults.specs.declared.fault.DescriptorErrorKind.{DescriptorErrorKind}
use Rattle.pool_faults.specs.declared.fault.DescriptorErrorKind.TheVariants.{DuplicateName, UnknownSyntax}
use Rattle.name_tables.specs.Entries.{Entry}
use Rattle.record_walk.specs.Protos.{Proto, of_file, of_message, of_enum}
use Rattle.record_walk.specs.Shown.{Shown}
use Rattle.pool_types.specs.Definition.{is_package}
use Rattle.name_pass.specs.CamelCase.{camel_case_faults, message_own_faults}
use Rattle.pool_types.specs.Syntaxes.{is_proto3, known_syntax, syntax_at}
use Rattle.name_pass.specs.Syntax.{syntax_faults}
use Rattle.name_pass.specs.Names.{entries, entries_of, file_entries, file_entries_of, package_entry, packages}
use Rattle.name_pass.specs.FirstPass.{clashes, file_faults, file_name_faults, first_faults, holder, holder_faults, shape_faults}
use Rattle.descriptor_pool.proofs.Declared.{entries-append}
use Rattle.reference_pass.proofs.Unbroken.{both-empty}
use Rattle.pool_laws.proofs.FirstPass.{begins-still, camel-still, in-proto3, known-still}
use Rattle.pool_laws.specs.Order.{kind_alone}
use Rattle.pool_laws.proofs.Moved.{Alike, AllMoved, BothAlike, Moved, StandsAlike}
use Rattle.pool_laws.proofs.Sharing.{Apart, Clear, MayEnter, apart-clear, clear-apart}
use Rattle.pool_laws.proofs.NamedAlike.{BothLike, EntriesLike, apart-exchanged, holder-exchanged, EntryLike}
use Rattle.pool_laws.proofs.Paired.{paired-four, paired-flat}
use Rattle.pool_laws.proofs.AllOf.{all-exchanged, made-of-four}

-- of definitions, packages alone may share a name
abbrev pub IsPackage : Definition → Type 0
IsPackage d = is_package d.kind ≡ true

-- and of files none may
abbrev pub IsNone : ℕ → Type 0
IsNone n = ⊥

-- clashes of definitions
both-true : (a b : Bool) (x : DescriptorErrorKind) → (if a && b then [] else x ∷ []) ≡ [] → (a ≡ true) × (b ≡ true)
both-true true true x none = (refl, refl)
both-true true false x none = absurd (cc)
both-true false b x none = absurd (cc)

module _ (fs : List FileDescriptorProto) where
  enters : (held : Option Definition) (e : Entry) → holder_faults fs held e ≡ [] → MayEnter IsPackage held e
  enters None e none = tt
  enters (Some held) e none = both-true (is_package held.kind) (is_package e.1.kind) _ none

  none-clashes : (held : Option Definition) (e : Entry) → MayEnter IsPackage held e → holder_faults fs held e ≡ []
  none-clashes None e enter = refl
  none-clashes (Some held) e enter =
      let x = DuplicateName e.0 (label_in fs held.file held.path) (label_in fs e.1.file e.1.path) in
      λ i. if enter.0 i && enter.1 i then [] else x ∷ []

  clashes-clear : (known : ByText Definition) (before es : List Entry) → clashes fs known before es ≡ [] → Clear IsPackage known before es
  clashes-clear known before [] none = tt
  clashes-clear known before (e ∷ es) none =
      let parts = both-empty (holder_faults fs (holder known before e.0) e) (clashes fs known (before ++ e ∷ []) es) none in
      (enters (holder known before e.0) e parts.0, clashes-clear known (before ++ e ∷ []) es parts.1)

  clear-clashes : (known : ByText Definition) (before es : List Entry) → Clear IsPackage known before es → clashes fs known before es ≡ []
  clear-clashes known before [] clear = refl
  clear-clashes known before (e ∷ es) clear =
      λ i. none-clashes (holder known before e.0) e clear.0 i ++ clear-clashes known (before ++ e ∷ []) es clear.1 i

-- clashes of file names
unheld : (held : Option ℕ) (name : List ℕ) (n : ℕ) → file_name_faults held name ≡ [] → MayEnter IsNone held (name, n)
unheld None name n none = tt
unheld (Some m) name n none = absurd (cc)

none-held : (held : Option ℕ) (name : List ℕ) (n : ℕ) → MayEnter IsNone held (name, n) → file_name_faults held name ≡ []
none-held None name n enter = refl
none-held (Some m) name n enter = absurd enter.0

-- two lists of entries in turn
module _ {X : Type 0} (P : X → Type 0) (known : ByText X) where
  clear-both : (before xs ys : List (List ℕ × X)) → Clear P known before xs → Clear P known (before ++ xs) ys → Clear P known before (xs ++ ys)
  clear-both before [] ys first second = subst (λ es. Clear P known es ys) (append-nil before) second
  clear-both before (x ∷ xs) ys first second =
      (first.0, clear-both (before ++ x ∷ []) xs ys first.1 (subst (λ es. Clear P known es ys) (sym (append_assoc before (x ∷ []) xs)) second))

  clear-split : (before xs ys : List (List ℕ × X)) → Clear P known before (xs ++ ys) → Clear P known before xs × Clear P known (before ++ xs) ys
  clear-split before [] ys clear = (tt, subst (λ es. Clear P known es ys) (sym (append-nil before)) clear)
  clear-split before (x ∷ xs) ys clear =
      let rest = clear-split (before ++ x ∷ []) xs ys clear.1 in
      ((clear.0, rest.0), subst (λ es. Clear P known es ys) (append_assoc before (x ∷ []) xs) rest.1)

-- what a file breaks by its syntax
abbrev pub syntax_part : List FileDescriptorProto → Shown → List DescriptorErrorKind
syntax_part fs d = elim d.proto [ of_file f ↦ syntax_faults fs d.file f | _ ↦ [] ]

-- what a declaration breaks whatever names mean: a file by its syntax, a message or an enum by its shape
abbrev pub own_faults : List FileDescriptorProto → Shown → List DescriptorErrorKind
own_faults fs d = syntax_part fs d ++ shape_faults fs d

-- the first pass by its parts
module _ (fs : List FileDescriptorProto) (p : Contents) where
  -- nothing is found: by each declaration itself, by names and by file names
  pub record FindsNothing (earlier ds : List Shown) : Type 0 where
    pub own : AllByRecursion (λ d. own_faults fs d ≡ []) ds
    pub names : Clear IsPackage p.names (entries earlier) (entries ds)
    pub files : Clear IsNone p.file_names (file_entries earlier) (file_entries ds)

  module _ (file : ℕ) (parent : Option ℕ) (index : ℕ) (path : List ℤ) (full_name : List ℕ) (before : List (List ℕ × ℕ)) where
    abbrev at : Proto → Shown
    at r = record { file = file; parent = parent; index = index; path = path; full_name = full_name; proto = r }

    file-part : (r : Proto) → file_faults fs p.file_names before (at r) ≡ [] → (syntax_part fs (at r) ≡ []) × Clear IsNone p.file_names before (file_entries_of (at r))
    file-part (of_file f) none =
        let name = text_of f.name in
        let parts = both-empty (syntax_faults fs file f) (file_name_faults (holder p.file_names before name) name) none in
        (parts.0, (unheld (holder p.file_names before name) name file parts.1, tt))
    file-part _ none = (refl, tt)

    file-whole : (r : Proto) → syntax_part fs (at r) ≡ [] → Clear IsNone p.file_names before (file_entries_of (at r)) → file_faults fs p.file_names before (at r) ≡ []
    file-whole (of_file f) none clear =
        let name = text_of f.name in
        λ i. none i ++ none-held (holder p.file_names before name) name file clear.0 i
    file-whole _ none clear = refl

  names-next : (earlier : List Shown) (d : Shown) → entries (earlier ++ d ∷ []) ≡ entries earlier ++ entries_of d
  names-next earlier d = entries-append earlier (d ∷ []) ∙ ap (λ es. entries earlier ++ es) (append-nil (entries_of d))

  files-next : (earlier : List Shown) (d : Shown) → file_entries (earlier ++ d ∷ []) ≡ file_entries earlier ++ file_entries_of d
  files-next earlier d = flat_map-append file_entries_of earlier (d ∷ []) ∙ ap (λ es. file_entries earlier ++ es) (append-nil (file_entries_of d))

  -- where the first pass finds nothing, nothing is found by its parts
  pub first-parts : (earlier ds : List Shown) → after_each (first_faults fs p) earlier ds ≡ [] → FindsNothing earlier ds
  first-parts earlier [] none = record { own = tt; names = tt; files = tt }
  first-parts earlier (d ∷ ds) none =
      let both = both-empty (first_faults fs p earlier d) (after_each (first_faults fs p) (earlier ++ d ∷ []) ds) none in
      let clash = clashes fs p.names (entries earlier) (entries_of d) in
      let two = both-empty (file_faults fs p.file_names (file_entries earlier) d ++ clash) (shape_faults fs d) both.0 in
      let one = both-empty (file_faults fs p.file_names (file_entries earlier) d) clash two.0 in
      let own = file-part d.file d.parent d.index d.path d.full_name (file_entries earlier) d.proto one.0 in
      let rest = first-parts (earlier ++ d ∷ []) ds both.1 in
      record {
        own = ((λ i. own.0 i ++ two.1 i), rest.own);
        names = clear-both IsPackage p.names (entries earlier) (entries_of d) (entries ds) (clashes-clear fs p.names (entries earlier) (entries_of d) one.1)
            (subst (λ es. Clear IsPackage p.names es (entries ds)) (names-next earlier d) rest.names);
        files = clear-both IsNone p.file_names (file_entries earlier) (file_entries_of d) (file_entries ds) own.1
            (subst (λ es. Clear IsNone p.file_names es (file_entries ds)) (files-next earlier d) rest.files);
      }

  -- and the other way round
  pub first-whole : (earlier ds : List Shown) → FindsNothing earlier ds → after_each (first_faults fs p) earlier ds ≡ []
  first-whole earlier [] parts = refl
  first-whole earlier (d ∷ ds) parts =
      let names = clear-split IsPackage p.names (entries earlier) (entries_of d) (entries ds) parts.names in
      let files = clear-split IsNone p.file_names (file_entries earlier) (file_entries_of d) (file_entries ds) parts.files in
      let own = both-empty (syntax_part fs d) (shape_faults fs d) parts.own.0 in
      let file = file-whole d.file d.parent d.index d.path d.full_name (file_entries earlier) d.proto own.0 files.0 in
      let clash = clear-clashes fs p.names (entries earlier) (entries_of d) names.0 in
      let rest = first-whole (earlier ++ d ∷ []) ds (record {
        own = parts.own.1;
        names = subst (λ es. Clear IsPackage p.names es (entries ds)) (sym (names-next earlier d)) names.1;
        files = subst (λ es. Clear IsNone p.file_names es (file_entries ds)) (sym (files-next earlier d)) files.1;
      }) in
      λ i. (file i ++ clash i ++ own.1 i) ++ rest i

-- a moved declaration breaks nothing by itself if the declaration breaks nothing by itself
module _ (fs gs : List FileDescriptorProto) (m n : ℕ) (path other : List ℤ) where
  module _ (syntax : syntax_at gs n ≡ syntax_at fs m) where
    message-again : (d : DescriptorProto) → message_own_faults fs m path d ≡ [] → message_own_faults gs n other d ≡ []
    message-again d none =
        let fields = (out-DescriptorProto d).field in
        let still : camel_case_faults fs m path fields ≡ [] → camel_case_faults gs n other fields ≡ [] =
        λ none. ap (camel_case_faults gs n other) (sym (map-id fields)) ∙ camel-still fs gs m n path other (λ f. f) (λ f. refl) fields none in
        (λ i. if is_proto3 (syntax i) then camel_case_faults gs n other fields else [])
        ∙ in-proto3 (is_proto3 (syntax_at fs m)) (camel_case_faults fs m path fields) (camel_case_faults gs n other fields) still none

    module _ (parent parent2 : Option ℕ) (index index2 : ℕ) (full_name full_name2 : List ℕ) where
      abbrev here : Proto → Shown
      here r = record { file = m; parent = parent; index = index; path = path; full_name = full_name; proto = r }

      abbrev there : Proto → Shown
      there r = record { file = n; parent = parent2; index = index2; path = other; full_name = full_name2; proto = r }

      own-again : (r : Proto) → own_faults fs (here r) ≡ [] → own_faults gs (there r) ≡ []
      own-again (of_file f) none =
          let parts = both-empty (syntax_faults fs m f) [] none in
          let told = UnknownSyntax (text_of f.syntax) in
          let known : syntax_faults gs n f ≡ [] = known-still (known_syntax f.syntax) (told (label_in fs m (SYNTAX ∷ []))) (told (label_in gs n (SYNTAX ∷ []))) parts.0 in
          λ i. known i ++ []
      own-again (of_message d) none = message-again d none
      own-again (of_enum e) none = begins-still fs gs m n path other (ap is_proto3 syntax) e.value none
      own-again _ none = refl

module _ (number : ℕ → ℕ) (fs gs : List FileDescriptorProto) where
  -- the file that a declaration is moved to has the syntax of its own
  abbrev pub SyntaxMoves : Shown → Type 0
  SyntaxMoves d = syntax_at gs (number d.file) ≡ syntax_at fs d.file

  -- what breaks nothing by itself breaks nothing where it is moved
  pub own-moved : (d e : Shown) → Moved number d e → SyntaxMoves d → own_faults fs d ≡ [] → own_faults gs e ≡ []
  own-moved d e moved syntax none =
      ap (λ r. own_faults gs (record e { proto = r })) moved.proto
      ∙ own-again fs gs d.file e.file d.path e.path (ap (syntax_at gs) moved.file ∙ syntax) d.parent e.parent d.index e.index d.full_name e.full_name d.proto none

  -- so it is with declarations, one after another
  pub all-own-moved : (ds es : List Shown) → AllMoved number ds es → AllByRecursion SyntaxMoves ds → AllByRecursion (λ d. own_faults fs d ≡ []) ds → AllByRecursion (λ e. own_faults gs e ≡ []) es
  all-own-moved [] [] moved syntax none = tt
  all-own-moved (d ∷ ds) (e ∷ es) moved syntax none = (own-moved d e moved.0 syntax.0 none.0, all-own-moved ds es moved.1 syntax.1 none.1)
  all-own-moved _ _ moved syntax none = absurd moved

-- packages are alike, and what is like a package is one
package-alone : (k : DefinitionKind) → is_package k ≡ true → kind_alone k ≡ None
package-alone definition.Package is = refl
package-alone _ is = absurd (cc)

alone-package : (k : DefinitionKind) → kind_alone k ≡ None → is_package k ≡ true
alone-package definition.Package is = refl
alone-package _ is = absurd (cc)

module _ (number : ℕ → ℕ) where
  package-stays : (d e : Definition) → Alike number d e → IsPackage d → IsPackage e
  package-stays d e alike is = alone-package e.kind (alike.0 ∙ package-alone d.kind is)

  packages-alike : (d e : Definition) → IsPackage d → IsPackage e → Alike number d e
  packages-alike d e first second =
      let alone = package-alone d.kind first in
      (package-alone e.kind second ∙ sym alone, subst (λ k. StandsAlike number k d e) (sym alone) tt)

  -- a definition of a file that keeps its number is like itself
  stands-itself : (k : _) (d : Definition) → number d.file ≡ d.file → StandsAlike number k d d
  stands-itself None d kept = tt
  stands-itself (Some k) d kept = (sym kept, refl)

  alike-itself : (d : Definition) → number d.file ≡ d.file → Alike number d d
  alike-itself d kept = (refl, stands-itself (kind_alone d.kind) d kept)

  both-alike : (a b : Option Definition) → BothLike (Alike number) a b → BothAlike number a b
  both-alike None None both = tt
  both-alike (Some d) (Some e) both = both
  both-alike _ _ both = absurd both

  -- a number is the one given for another
  abbrev pub Numbered : ℕ → ℕ → Type 0
  Numbered m n = n ≡ number m

  both-numbered : (a b : Option ℕ) → BothLike Numbered a b → b ≡ option_map number a
  both-numbered None None both = refl
  both-numbered (Some m) (Some n) both = ap Some both
  both-numbered _ _ both = absurd both

  -- the names that a moved declaration enters
  packages-moved : (m n : ℕ) (names : List (List ℕ)) → EntriesLike (Alike number) (map (package_entry m) names) (map (package_entry n) names)
  packages-moved m n [] = tt
  packages-moved m n (name ∷ names) = ((refl, (refl, tt)), packages-moved m n names)

  module _ (file file2 : ℕ) (parent parent2 : Option ℕ) (index index2 : ℕ) (path path2 : List ℤ) (full_name full_name2 : List ℕ)
      (file_is : file2 ≡ number file) (path_is : path2 ≡ path) (name_is : full_name2 ≡ full_name) where
    abbrev was : Proto → Shown
    was r = record { file = file; parent = parent; index = index; path = path; full_name = full_name; proto = r }

    abbrev is : Proto → Shown
    is r = record { file = file2; parent = parent2; index = index2; path = path2; full_name = full_name2; proto = r }

    names-moved : (r : Proto) → EntriesLike (Alike number) (entries_of (was r)) (entries_of (is r))
    names-moved (of_file f) = packages-moved file file2 (packages (text_of f.«package»))
    names-moved _ = ((name_is, (refl, (file_is, λ i. path_is i ++ message.NAME ∷ []))), tt)

    file-name-moved : (r : Proto) → EntriesLike Numbered (file_entries_of (was r)) (file_entries_of (is r))
    file-name-moved (of_file f) = ((refl, file_is), tt)
    file-name-moved _ = tt

  entries-of-moved : (d e : Shown) → Moved number d e → EntriesLike (Alike number) (entries_of d) (entries_of e)
  entries-of-moved d e moved =
      subst (λ r. EntriesLike (Alike number) (entries_of d) (entries_of (record e { proto = r }))) (sym moved.proto)
      (names-moved d.file e.file d.parent e.parent d.index e.index d.path e.path d.full_name e.full_name moved.file moved.path moved.full_name d.proto)

  file-entries-of-moved : (d e : Shown) → Moved number d e → EntriesLike Numbered (file_entries_of d) (file_entries_of e)
  file-entries-of-moved d e moved =
      subst (λ r. EntriesLike Numbered (file_entries_of d) (file_entries_of (record e { proto = r }))) (sym moved.proto)
      (file-name-moved d.file e.file d.parent e.parent d.index e.index d.path e.path d.full_name e.full_name moved.file moved.path moved.full_name d.proto)

  -- moved declarations enter the same names, and alike
  pub entries-moved : (ds es : List Shown) → AllMoved number ds es → EntriesLike (Alike number) (entries ds) (entries es)
  entries-moved = paired-flat (Moved number) (EntryLike (Alike number)) entries_of entries_of entries-of-moved

  -- and moved files the same file names
  pub file-entries-moved : (ds es : List Shown) → AllMoved number ds es → EntriesLike Numbered (file_entries ds) (file_entries es)
  file-entries-moved = paired-flat (Moved number) (EntryLike Numbered) file_entries_of file_entries_of file-entries-of-moved

-- what declarations in four parts enter, each of them moved, where no entry clashes
module _ {X : Type 0} (number : ℕ → ℕ) (Like : X → X → Type 0) (P : X → Type 0) (keep : (x y : X) → Like x y → P x → P y) (known : ByText X)
    (made : List Shown → List (List ℕ × X)) (append : (ds es : List Shown) → made (ds ++ es) ≡ made ds ++ made es) (moved : (ds es : List Shown) → AllMoved number ds es → EntriesLike Like (made ds) (made es))
    (ws xs ys zs ws2 xs2 ys2 zs2 : List Shown) (first : AllMoved number ws ws2) (second : AllMoved number xs xs2) (third : AllMoved number ys ys2) (last : AllMoved number zs zs2)
    (clear : Clear P known [] (made (ws ++ xs ++ ys ++ zs))) where
  apart : Apart P known (made ws ++ made xs ++ made ys ++ made zs)
  apart = subst (Apart P known) (made-of-four made append ws xs ys zs) (clear-apart P known [] (made (ws ++ xs ++ ys ++ zs)) (record { behind = tt; among = tt }) clear)

  -- none clashes where the middle two have changed places
  clear-exchanged : Clear P known [] (made (ws2 ++ ys2 ++ xs2 ++ zs2))
  clear-exchanged = apart-clear P known [] (made (ws2 ++ ys2 ++ xs2 ++ zs2))
      (subst (Apart P known) (sym (made-of-four made append ws2 ys2 xs2 zs2))
      (apart-exchanged Like P keep known (made ws) (made xs) (made ys) (made zs) (made ws2) (made xs2) (made ys2) (made zs2)
      (moved ws ws2 first) (moved xs xs2 second) (moved ys ys2 third) (moved zs zs2 last) apart))

  -- and each name means what is alike
  held-exchanged : ((x y : X) → P x → P y → Like x y) → (name : List ℕ) → ((x : X) → finite.get known name ≡ Some x → Like x x)
      → BothLike Like (holder known (made (ws ++ xs ++ ys ++ zs)) name) (holder known (made (ws2 ++ ys2 ++ xs2 ++ zs2)) name)
  held-exchanged alike name same =
      let both = holder-exchanged Like P keep alike known (made ws) (made xs) (made ys) (made zs) (made ws2) (made xs2) (made ys2) (made zs2)
      (moved ws ws2 first) (moved xs xs2 second) (moved ys ys2 third) (moved zs zs2 last) apart.among name same in
      subst (λ es. BothLike Like (holder known es name) (holder known (made (ws2 ++ ys2 ++ xs2 ++ zs2)) name)) (sym (made-of-four made append ws xs ys zs))
      (subst (λ es. BothLike Like (holder known (made ws ++ made xs ++ made ys ++ made zs) name) (holder known es name)) (sym (made-of-four made append ws2 ys2 xs2 zs2)) both)

-- declarations in four parts that break nothing in the first pass, and each of them moved
module _ (number : ℕ → ℕ) (fs : List FileDescriptorProto) (p : Contents) (front first second rest front' first' second' rest' : List Shown)
    (front_moved : AllMoved number front front') (first_moved : AllMoved number first first') (second_moved : AllMoved number second second') (rest_moved : AllMoved number rest rest')
    (none : after_each (first_faults fs p) [] (front ++ first ++ second ++ rest) ≡ []) where
  parts : FindsNothing fs p [] (front ++ first ++ second ++ rest)
  parts = first-parts fs p [] (front ++ first ++ second ++ rest) none

  names-clear : Clear IsPackage p.names [] (entries (front' ++ second' ++ first' ++ rest'))
  names-clear =
      clear-exchanged number (Alike number) IsPackage (package-stays number) p.names entries entries-append (entries-moved number)
      front first second rest front' first' second' rest' front_moved first_moved second_moved rest_moved parts.names

  files-clear : Clear IsNone p.file_names [] (file_entries (front' ++ second' ++ first' ++ rest'))
  files-clear =
      clear-exchanged number (Numbered number) IsNone (λ _ _ _ never. never) p.file_names file_entries (flat_map-append file_entries_of) (file-entries-moved number)
      front first second rest front' first' second' rest' front_moved first_moved second_moved rest_moved parts.files

  own-clear : (gs : List FileDescriptorProto) → AllByRecursion (SyntaxMoves number fs gs) (front ++ first ++ second ++ rest)
      → AllByRecursion (λ e. own_faults gs e ≡ []) (front' ++ second' ++ first' ++ rest')
  own-clear gs syntax =
      all-exchanged (λ e. own_faults gs e ≡ []) front' first' second' rest'
      (all-own-moved number fs gs (front ++ first ++ second ++ rest) (front' ++ first' ++ second' ++ rest')
      (paired-four (Moved number) front first second rest front' first' second' rest' front_moved first_moved second_moved rest_moved)
      syntax parts.own)

  -- what each name means where the middle two parts have changed places: a definition that is alike, where those of the pool keep their files' numbers
  pub names-exchanged : ((name : List ℕ) (def : Definition) → finite.get p.names name ≡ Some def → number def.file ≡ def.file) → (name : List ℕ)
      → BothAlike number (holder p.names (entries (front ++ first ++ second ++ rest)) name) (holder p.names (entries (front' ++ second' ++ first' ++ rest')) name)
  names-exchanged kept name =
      both-alike number (holder p.names (entries (front ++ first ++ second ++ rest)) name) (holder p.names (entries (front' ++ second' ++ first' ++ rest')) name)
      (held-exchanged number (Alike number) IsPackage (package-stays number) p.names entries entries-append (entries-moved number)
      front first second rest front' first' second' rest' front_moved first_moved second_moved rest_moved parts.names
      (packages-alike number) name (λ def is. alike-itself number def (kept name def is)))

  -- which file has each file name: the one that has the number given, where those of the pool keep theirs
  pub file-names-exchanged : ((name : List ℕ) (n : ℕ) → finite.get p.file_names name ≡ Some n → number n ≡ n) → (name : List ℕ)
      → holder p.file_names (file_entries (front' ++ second' ++ first' ++ rest')) name ≡ option_map number (holder p.file_names (file_entries (front ++ first ++ second ++ rest)) name)
  file-names-exchanged kept name =
      both-numbered number (holder p.file_names (file_entries (front ++ first ++ second ++ rest)) name) (holder p.file_names (file_entries (front' ++ second' ++ first' ++ rest')) name)
      (held-exchanged number (Numbered number) IsNone (λ _ _ _ never. never) p.file_names file_entries (flat_map-append file_entries_of) (file-entries-moved number)
      front first second rest front' first' second' rest' front_moved first_moved second_moved rest_moved parts.files
      (λ _ _ never _. absurd never) name (λ n is. sym (kept name n is)))

-- the first pass finds nothing where the middle two of four parts have changed places, and what is declared is moved
pub first-exchanged : (number : ℕ → ℕ) (fs gs : List FileDescriptorProto) (p : Contents) (front first second rest front' first' second' rest' : List Shown)
    → AllMoved number front front' → AllMoved number first first' → AllMoved number second second' → AllMoved number rest rest'
    → AllByRecursion (λ d. syntax_at gs (number d.file) ≡ syntax_at fs d.file) (front ++ first ++ second ++ rest)
    → after_each (first_faults fs p) [] (front ++ first ++ second ++ rest) ≡ []
    → after_each (first_faults gs p) [] (front' ++ second' ++ first' ++ rest') ≡ []
first-exchanged number fs gs p front first second rest front' first' second' rest' front_moved first_moved second_moved rest_moved syntax none =
    first-whole gs p [] (front' ++ second' ++ first' ++ rest') (record {
      own = own-clear number fs p front first second rest front' first' second' rest' front_moved first_moved second_moved rest_moved none gs syntax;
      names = names-clear number fs p front first second rest front' first' second' rest' front_moved first_moved second_moved rest_moved none;
      files = files-clear number fs p front first second rest front' first' second' rest' front_moved first_moved second_moved rest_moved none;
    })
