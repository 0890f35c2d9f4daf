-- Names that are seen stand where files that aren't seen are taken away.
use Rattle.std.proofs.Common.{◌≡◌, ◌≤◌, ◌<◌, ◌+◌, inl, inr, ℕ, ℤ, Bool, true, false, cond, if◌then◌else◌, IsSome, Option, None, Some, List, [], ◌∷◌, ◌++◌, length, map, refl, ap, subst, sym, ◌∙◌, arith}
use Rattle.std.proofs.lemmas.List.Elements.{All-from_recursion, All-head, All-tail, recursion_from_All}
use Rattle.std.specs.Cmp.Lexicographic.{bytes_decides}
use Rattle.std.specs.FinMap as finite
use Rattle.std.specs.List.{All, AllByRecursion, Contains}
use Rattle.std.specs.Option.{IfSome, option_or}
use Rattle.std.specs.Str.{bytes_eq}
use Rattle.proto_types.specs.Names.{fronts, is_dot}
use Rattle.proto_types.specs.Readers.{text_of}
use Rattle.proto_types.specs.declared.file.FileDescriptorProto.{FileDescriptorProto}
use Rattle.pool_types.specs.Contents.{ByText, Contents, files_of}
use Rattle.pool_types.specs.declared.contents.definition.Definition.{Definition}
use Rattle.name_tables.specs.Entries.{Entry, first_of, names, names_with}
use Rattle.name_tables.proofs.Entries.{first-append, get-with, with-more, with-names}
use Rattle.name_tables.proofs.Names.{get-lookup}
use Rattle.name_resolution.proofs.Members.{Contains-cons_cases}
use Rattle.record_walk.specs.declared.counts.Counts.{Counts}
use Rattle.record_walk.specs.Counts.{counted, counts_in, no_counts}
use Rattle.record_walk.specs.Declarations.{declarations, file_walk}
use Rattle.record_walk.specs.Protos.{Proto, of_file}
use Rattle.record_walk.specs.Shown.{Shown, file_shown}
use Rattle.record_walk.specs.Walking.{within_file}
use Rattle.record_walk.proofs.Appended.{declarations-append}
use Rattle.record_walk.proofs.Walks.{IsInside, within-all}
use Rattle.pool_laws.specs.Laws.{SeenAmong}
use Rattle.name_pass.specs.Names.{entries, entries_of, package_entry, packages}
use Rattle.descriptor_pool.specs.Build.{declared_with}
use Rattle.descriptor_pool.specs.Invariant.{IsPool}
use Rattle.descriptor_pool.proofs.Declared.{declared-behind, entries-append, known_names}
use Rattle.descriptor_pool.proofs.Files.{counted-files, first-has, lie-from}
use Rattle.descriptor_pool.proofs.Resolved.{all-append}
use Rattle.descriptor_pool.proofs.Sound.{Known, made-sound}
use Rattle.pool_laws.specs.Laws.{ArePlain, HasScope, IsPlain, SeenNamesStand}
use Rattle.pool_laws.proofs.Relinks.{stays-known}
use Rattle.pool_laws.proofs.Entered.{entries-held, packages-held, prefixes_entered}
use Rattle.pool_laws.proofs.AllOf.{all-front, all-mapped, all-weaker, all-map, all-of}

-- the texts before the dots of a text whose first character is a dot or not
abbrev behind_first : ℕ → Bool → List ℕ → List (List ℕ)
behind_first c b cs = if b then [] ∷ map (λ front. c ∷ front) (fronts cs) else map (λ front. c ∷ front) (fronts cs)

module _ (P : List ℕ → Type 0) (c : ℕ) (cs : List ℕ) where
  abbrev Longer : List ℕ → Type 0
  Longer front = P (c ∷ front)

  behind-all : (b : Bool) → AllByRecursion P (behind_first c b cs) → AllByRecursion Longer (fronts cs)
  behind-all true all = all-mapped P (λ front. c ∷ front) (fronts cs) all.1
  behind-all false all = all-mapped P (λ front. c ∷ front) (fronts cs) all

  each-behind : (b : Bool) → AllByRecursion P (behind_first c b cs) → AllByRecursion (λ y. AllByRecursion Longer (fronts y)) (fronts cs)
      → AllByRecursion (λ y. AllByRecursion P (behind_first c b y)) (fronts cs)
  each-behind true all deeper =
      all-weaker (λ y. AllByRecursion Longer (fronts y)) (λ y. AllByRecursion P (behind_first c true y))
      (λ y fine. (all.0, all-map P (λ front. c ∷ front) (fronts y) fine)) (fronts cs) deeper
  each-behind false all deeper =
      all-weaker (λ y. AllByRecursion Longer (fronts y)) (λ y. AllByRecursion P (behind_first c false y))
      (λ y fine. all-map P (λ front. c ∷ front) (fronts y) fine) (fronts cs) deeper

  with-first : (Q : List ℕ → Type 0) (b : Bool) → Q [] → AllByRecursion (λ y. Q (c ∷ y)) (fronts cs) → AllByRecursion Q (behind_first c b cs)
  with-first Q true none all = (none, all-map Q (λ front. c ∷ front) (fronts cs) all)
  with-first Q false none all = all-map Q (λ front. c ∷ front) (fronts cs) all

-- what stands before the dots of a text that stands before a dot stands before a dot
fronts-within : (P : List ℕ → Type 0) (name : List ℕ) → AllByRecursion P (fronts name) → AllByRecursion (λ front. AllByRecursion P (fronts front)) (fronts name)
fronts-within P [] all = tt
fronts-within P (c ∷ cs) all =
    let deeper = fronts-within (λ front. P (c ∷ front)) cs (behind-all P c cs (is_dot c) all) in
    with-first P c cs (λ front. AllByRecursion P (fronts front)) (is_dot c) tt (each-behind P c cs (is_dot c) all deeper)

-- of packages too
packages-within : (P : List ℕ → Type 0) (name : List ℕ) → AllByRecursion P (packages name) → AllByRecursion (λ y. AllByRecursion P (fronts y)) (packages name)
packages-within P [] all = tt
packages-within P (c ∷ cs) all =
    let name : List ℕ = c ∷ cs in
    let before = all-front P (fronts name) (name ∷ []) all in
    all-append (λ y. AllByRecursion P (fronts y)) (fronts name) (name ∷ []) (fronts-within P name before) (before, tt)

-- an entry is found
entry-found : (es : List Entry) (name : List ℕ) (def : Definition) → Contains es (name, def) → IsSome (first_of es name)
entry-found [] name def there = absurd (omega (arith, there.1))
entry-found (e ∷ es) name def there =
    elim (bytes_eq name e.0) as (λ b. bytes_eq name e.0 ≡ b → IsSome (cond b (Some e.1) (first_of es name))) [
      | true ↦ λ _. refl
      | false ↦ λ other. elim (Contains-cons_cases e es (name, def) there) [
        | inl is ↦ let same = (bytes_decides name e.0).1 (sym (ap (λ (x : Entry). x.0) is)) in absurd (cc)
        | inr later ↦ entry-found es name def later
      ]
    ] refl

scope-found : (es : List Entry) (name : List ℕ) → HasScope es name → IsSome (first_of es name)
scope-found es name has = entry-found es name has.0 has.1

-- what a name means among entries has what holds of each entry
pub first-stands : {X : Type 0} (R : List ℕ → X → Type 0) (es : List (List ℕ × X)) → AllByRecursion (λ e. R e.0 e.1) es → (name : List ℕ) → IfSome (first_of es name) (R name)
first-stands R [] all name = tt
first-stands R (e ∷ es) all name =
    elim (bytes_eq name e.0) as (λ b. bytes_eq name e.0 ≡ b → IfSome (cond b (Some e.1) (first_of es name)) (R name))
    [ true ↦ λ same. subst (λ text. R text e.1) (sym ((bytes_decides name e.0).0 same)) all.0 | false ↦ λ _. first-stands R es all.1 name ] refl

-- the names of new files behind a pool are those of all files, declared from nothing
pub names-whole : (p : Contents) → Known p → (new : List FileDescriptorProto) → names_with p.names (entries (declared_with p new)) ≡ names (entries (declarations no_counts (files_of p ++ new)))
names-whole p known new =
    let more = entries (declared_with p new) in
    ap (λ held. names_with held more) known.names_are ∙ with-names (known_names p) more
    ∙ ap names (sym (ap entries (declared-behind p new known.counts_are new) ∙ entries-append (declarations no_counts (files_of p)) (declared_with p new)))

-- each text before a dot of a name is found
abbrev Rooted : List Entry → List ℕ → Type 0
Rooted es name = AllByRecursion (λ front. IsSome (first_of es front)) (fronts name)

found-first : (a b : Option Definition) → IsSome a → IsSome (option_or a b)
found-first None b some = absurd (cc)
found-first (Some def) b some = refl

pub found-second : {X : Type 0} (a b : Option X) → IsSome b → IsSome (option_or a b)
found-second None b some = some
found-second (Some x) b some = refl

rooted-first : (xs ys : List Entry) (name : List ℕ) → Rooted xs name → Rooted (xs ++ ys) name
rooted-first xs ys name =
    all-weaker (λ front. IsSome (first_of xs front)) (λ front. IsSome (first_of (xs ++ ys) front))
    (λ front some. subst IsSome (sym (first-append xs ys front)) (found-first (first_of xs front) (first_of ys front) some)) (fronts name)

rooted-second : (xs ys : List Entry) (name : List ℕ) → Rooted ys name → Rooted (xs ++ ys) name
rooted-second xs ys name =
    all-weaker (λ front. IsSome (first_of ys front)) (λ front. IsSome (first_of (xs ++ ys) front))
    (λ front some. subst IsSome (sym (first-append xs ys front)) (found-second (first_of xs front) (first_of ys front) some)) (fronts name)

-- a declaration that isn't a file enters its full name
own-rooted : (es : List Entry) (file : ℕ) (parent : Option ℕ) (index : ℕ) (path : List ℤ) (full_name : List ℕ) (p : Proto) → IsInside p → Rooted es full_name
    → let d : Shown = record { file = file; parent = parent; index = index; path = path; full_name = full_name; proto = p } in AllByRecursion (λ e. Rooted es e.0) (entries_of d)
own-rooted es file parent index path full_name (of_file f) inside rooted = absurd inside
own-rooted es file parent index path full_name _ inside rooted = (rooted, tt)

inner-rooted : (es : List Entry) (ds : List Shown) → All (λ d. IsInside d.proto) ds → AllByRecursion (λ d. Rooted es d.full_name) ds → AllByRecursion (λ e. Rooted es e.0) (entries ds)
inner-rooted es [] inside rooted = tt
inner-rooted es (d ∷ ds) inside rooted =
    let Inside = λ (d : Shown). IsInside d.proto in
    all-append (λ e. Rooted es e.0) (entries_of d) (entries ds)
    (own-rooted es d.file d.parent d.index d.path d.full_name d.proto (All-head Inside d ds inside) rooted.0)
    (inner-rooted es ds (All-tail Inside d ds inside) rooted.1)

-- what a plain file enters
file-rooted : (base : Counts) (f : FileDescriptorProto) → IsPlain base f → let es = entries (file_walk base f) in AllByRecursion (λ e. Rooted es e.0) es
file-rooted base f plain =
    let es = entries (file_walk base f) in
    let first = file_shown [] base.files f in
    let inner = within_file base.files base f in
    let own = packages (text_of f.«package») in
    let Held = λ (e : Shown). All (Contains es) (entries_of e) in
    let held = packages-held es base.files own (All-head Held first inner (entries-held (file_walk base f))) in
    let Found = λ (name : List ℕ). IsSome (first_of es name) in
    let found = all-weaker (HasScope es) Found (scope-found es) own (recursion_from_All (HasScope es) own held) in
    let inside = within-all (λ d. IsInside d.proto) (λ _. Unit {0}) (λ here tag position index proto is _. is) (λ here tag position index proto _. tt) (λ here tag position index proto _. tt) base f tt in
    let scoped = recursion_from_All (λ d. All (HasScope es) (fronts d.full_name)) inner (prefixes_entered f base plain) in
    let rooted = all-weaker (λ d. All (HasScope es) (fronts d.full_name)) (λ d. Rooted es d.full_name)
    (λ d all. all-weaker (HasScope es) Found (scope-found es) (fronts d.full_name) (recursion_from_All (HasScope es) (fronts d.full_name) all)) inner scoped in
    all-append (λ e. Rooted es e.0) (map (package_entry base.files) own) (entries inner)
    (all-map (λ e. Rooted es e.0) (package_entry base.files) own (packages-within Found (text_of f.«package») found))
    (inner-rooted es inner inside rooted)

-- files, one after another
files-rooted : (base : Counts) (fs : List FileDescriptorProto) → ArePlain base fs → let es = entries (declarations base fs) in AllByRecursion (λ e. Rooted es e.0) es
files-rooted base [] plain = tt
files-rooted base (f ∷ fs) plain =
    let walk = file_walk base f in
    let next = counted base walk in
    let first = entries walk in
    let rest = entries (declarations next fs) in
    let own = all-weaker (λ e. Rooted first e.0) (λ e. Rooted (first ++ rest) e.0) (λ e is. rooted-first first rest e.0 is) first (file-rooted base f plain.0) in
    let others = all-weaker (λ e. Rooted rest e.0) (λ e. Rooted (first ++ rest) e.0) (λ e is. rooted-second first rest e.0 is) rest (files-rooted next fs plain.1) in
    subst (λ es. AllByRecursion (λ e. Rooted es e.0) es) (sym (entries-append walk (declarations next fs)))
    (all-append (λ e. Rooted (first ++ rest) e.0) first rest own others)

-- entries lie where declarations lie
module _ (Lies : ℕ → Type 0) where
  own-lies : (file : ℕ) (parent : Option ℕ) (index : ℕ) (path : List ℤ) (full_name : List ℕ) (p : Proto) → Lies file
      → let d : Shown = record { file = file; parent = parent; index = index; path = path; full_name = full_name; proto = p } in AllByRecursion (λ e. Lies e.1.file) (entries_of d)
  own-lies file parent index path full_name (of_file f) lies = let names = packages (text_of f.«package») in all-map (λ e. Lies e.1.file) (package_entry file) names (all-of (λ _. lies) names)
  own-lies file parent index path full_name _ lies = (lies, tt)

  entries-lie : (ds : List Shown) → AllByRecursion (λ d. Lies d.file) ds → AllByRecursion (λ e. Lies e.1.file) (entries ds)
  entries-lie [] lie = tt
  entries-lie (d ∷ ds) lie =
      all-append (λ e. Lies e.1.file) (entries_of d) (entries ds) (own-lies d.file d.parent d.index d.path d.full_name d.proto lie.0) (entries-lie ds lie.1)

earlier-one : (a b : Option Definition) (def : Definition) → option_or a b ≡ Some def → (b ≡ Some def → ⊥) → a ≡ Some def
earlier-one None b def is later = absurd (later is)
earlier-one (Some d) b def is later = is

module _ (p : Contents) (entered : Known p) (front back : List FileDescriptorProto) (plain : ArePlain no_counts (files_of p ++ front))
    (seen : ℕ → Bool) (few : (n : ℕ) → seen n ≡ true → n < length p.files + length front) where
  abbrev fewer : List Shown
  fewer = declared_with p front

  abbrev later : List Shown
  later = declarations (counted (counts_in p) fewer) back

  abbrev known : ByText Definition
  known = names_with p.names (entries fewer)

  abbrev all : List Entry
  all = entries (declarations no_counts (files_of p ++ front))

  known-are : known ≡ names all
  known-are = names-whole p entered front

  all-are : names_with p.names (entries (declared_with p (front ++ back))) ≡ names_with known (entries later)
  all-are =
      ap (λ ds. names_with p.names (entries ds)) (declarations-append (counts_in p) front back)
      ∙ ap (names_with p.names) (entries-append fewer later)
      ∙ sym (with-more p.names (entries fewer) (entries later))

  lie-later : AllByRecursion (λ e. length p.files + length front ≤ e.1.file) (entries later)
  lie-later = subst (λ n. AllByRecursion (λ e. n ≤ e.1.file) (entries later)) (counted-files (counts_in p) front)
      (entries-lie (λ n. (counted (counts_in p) fewer).files ≤ n) later (lie-from (counted (counts_in p) fewer) back))

  seen-known : (name : List ℕ) (def : Definition) → finite.get (names_with known (entries later)) name ≡ Some def → seen def.file ≡ true → finite.get known name ≡ Some def
  seen-known name def is sees =
      earlier-one (finite.get known name) (first_of (entries later) name) def (sym (get-with known (entries later) name) ∙ is) not-later
    where
      not-later : first_of (entries later) name ≡ Some def → ⊥
      not-later found =
          let many = length p.files + length front in
          let past : many ≤ def.file = subst (λ o. IfSome o (λ d. many ≤ d.file)) found (first-has (λ d. many ≤ d.file) (entries later) name lie-later) in
          let below = few def.file sees in
          absurd (omega (arith, past, below))

  known-rooted : (name : List ℕ) (def : Definition) → finite.get known name ≡ Some def → All (λ y. IsSome (finite.get known y)) (fronts name)
  known-rooted name def is =
      let first = sym (ap (λ held. finite.get held name) known-are ∙ get-lookup all name) ∙ is in
      let rooted = subst (λ o. IfSome o (λ _. Rooted all name)) first (first-stands (λ name _. Rooted all name) all (files-rooted no_counts (files_of p ++ front) plain) name) in
      All-from_recursion (λ y. IsSome (finite.get known y)) (fronts name)
      (all-weaker (λ y. IsSome (first_of all y)) (λ y. IsSome (finite.get known y))
      (λ y some. subst IsSome (sym (ap (λ held. finite.get held y) known-are ∙ get-lookup all y)) some) (fronts name) rooted)

  pub seen-stand : SeenAmong known (names_with p.names (entries (declared_with p (front ++ back)))) seen
  seen-stand = subst (λ more. SeenAmong known more seen) (sym all-are) (record {
    stay = λ name def is. stays-known known (entries later) name def is;
    sees = seen-known;
    prefixes = λ name def is sees. known-rooted name def (seen-known name def is sees);
  })

pub seen-names-stand : (p : Contents) → IsPool p → SeenNamesStand p
seen-names-stand p pool front back plain seen few = seen-stand p (made-sound p pool.made).known front back plain seen few
