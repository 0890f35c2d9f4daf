-- New files of which two parts that stand next to each other are exchanged: what they declare, what they break in the first pass, and what they are read against.
use Rattle.std.proofs.Common.{◌≡◌, ◌≤◌, ◌<◌, ◌+◌, inl, inr, ℕ, Bool, true, false, Option, None, Some, List, [], ◌++◌, length, slice_get, unwrap_or, is_some, append_assoc, refl, ap, subst, sym, ◌∙◌, arith}
use Rattle.std.proofs.lemmas.Bool.{cases_lt}
use Rattle.std.specs.BTreeSet.{contains_by}
use Rattle.std.specs.FinMap as finite
use Rattle.std.specs.List.{AllByRecursion}
use Rattle.std.specs.Option.{IfSome, option_map, option_or}
use Rattle.std.specs.Ordering.{nat_cmp}
use Rattle.proto_types.specs.File.{no_file}
use Rattle.proto_types.specs.declared.file.FileDescriptorProto.{FileDescriptorProto}
use Rattle.plain_data.specs.Lists.{after_each}
use Rattle.pool_types.specs.Contents.{Contents, files_of}
use Rattle.pool_types.specs.declared.contents.definition.Definition.{Definition}
use Rattle.name_tables.specs.Entries.{first_of}
use Rattle.name_tables.proofs.Entries.{get-with}
use Rattle.name_tables.proofs.Names.{get-lookup}
use Rattle.record_walk.specs.declared.counts.Counts.{Counts}
use Rattle.record_walk.specs.Counts.{counted, counts_in}
use Rattle.record_walk.specs.Declarations.{declarations}
use Rattle.record_walk.specs.Shown.{Shown}
use Rattle.record_walk.proofs.Appended.{declarations-append}
use Rattle.record_walk.proofs.Counted.{counted-append}
use Rattle.name_pass.specs.Names.{entries, file_entries}
use Rattle.name_pass.specs.FirstPass.{first_faults, holder}
use Rattle.pool_types.specs.Syntaxes.{syntax_of}
use Rattle.reference_pass.specs.Setting.{Setting, seen_by}
use Rattle.descriptor_pool.specs.Build.{declared_with, name_faults, setting_with}
use Rattle.descriptor_pool.specs.Pool.{Made}
use Rattle.descriptor_pool.proofs.Files.{counted-files, lie-between, names-before}
use Rattle.descriptor_pool.proofs.Sound.{Known, made-sound}
use Rattle.pool_laws.proofs.Exchanged.{SyntaxMoves, file-names-exchanged, first-exchanged, names-exchanged}
use Rattle.pool_laws.proofs.ExchangedFiles.{exchanged, exchanged-at, exchanged-first, exchanged-front, exchanged-long, exchanged-one, exchanged-rest, exchanged-second, exchanged-within}
use Rattle.pool_laws.proofs.Moved.{AllMoved, BothAlike}
use Rattle.pool_laws.proofs.MovedWalk.{declarations-moved}
use Rattle.pool_laws.proofs.Behind.{mean-with, new-sees, old-sees, seen-within}
use Rattle.pool_laws.proofs.Relinked.{made-relinked}
use Rattle.pool_laws.proofs.Relinks.{long-pool, long-with, names-mean-files, names-mean-within, seen_in}
use Rattle.pool_laws.proofs.Renamed.{Renames}
use Rattle.pool_laws.proofs.SeenMoved.{seen-moved}
use Rattle.pool_laws.proofs.AllOf.{all-weaker}

-- what files declare behind files whose declarations are known
declared-behind : (base c : Counts) (fs gs : List FileDescriptorProto) (ds : List Shown) → declarations base fs ≡ ds → counted base ds ≡ c
    → declarations base (fs ++ gs) ≡ ds ++ declarations c gs
declared-behind base c fs gs ds are after =
    declarations-append base fs gs ∙ (λ i. are i ++ declarations (counted base (are i)) gs) ∙ ap (λ k. ds ++ declarations k gs) after

-- what four parts of files declare, each numbered on from those before it
module _ (base : Counts) (front first second rest : List FileDescriptorProto) where
  abbrev first_counts : Counts
  first_counts = counted base (declarations base front)

  abbrev second_counts : Counts
  second_counts = counted first_counts (declarations first_counts first)

  abbrev rest_counts : Counts
  rest_counts = counted second_counts (declarations second_counts second)

  declared-four : declarations base (front ++ first ++ second ++ rest)
      ≡ declarations base front ++ declarations first_counts first ++ declarations second_counts second ++ declarations rest_counts rest
  declared-four =
      let ws = declarations base front in
      let xs = declarations first_counts first in
      let ys = declarations second_counts second in
      let two = counted-append base ws xs in
      declared-behind base rest_counts (front ++ first ++ second) rest (ws ++ xs ++ ys)
      (declared-behind base second_counts (front ++ first) second (ws ++ xs) (declared-behind base first_counts front first ws refl refl) two)
      (counted-append base (ws ++ xs) ys ∙ ap (λ c. counted c ys) two)

  many-first : first_counts.files ≡ base.files + length front
  many-first = counted-files base front

  many-second : second_counts.files ≡ base.files + length front + length first
  many-second = let before = many-first in let more = counted-files first_counts first in omega (arith, before, more)

  many-rest : rest_counts.files ≡ base.files + length front + length first + length second
  many-rest = let before = many-second in let more = counted-files second_counts second in omega (arith, before, more)

-- a list in front of four parts
in-front : {X : Type 0} (fs ws xs ys zs : List X) → fs ++ (ws ++ xs ++ ys ++ zs) ≡ (fs ++ ws) ++ xs ++ ys ++ zs
in-front fs ws xs ys zs =
    sym (append_assoc fs (ws ++ xs ++ ys) zs)
    ∙ ap (λ es. es ++ zs) (sym (append_assoc fs (ws ++ xs) ys) ∙ ap (λ es. es ++ ys) (sym (append_assoc fs ws xs)))

some-moved : {X Y : Type 0} (f : X → Y) (found : Option X) → is_some (option_map f found) ≡ is_some found
some-moved f None = refl
some-moved f (Some x) = refl

-- what is found first or second lies where both do
either-lies : (end : ℕ) (found other : Option Definition) → ((def : Definition) → found ≡ Some def → def.file < end) → IfSome other (λ def. def.file < end)
    → (def : Definition) → option_or found other ≡ Some def → def.file < end
either-lies end None other first second def is = subst (λ o. IfSome o (λ d. d.file < end)) is second
either-lies end (Some d) other first second def is = first def is

never-true : (b : Bool) → (b ≡ true → ⊥) → b ≡ false
never-true true never = absurd (never refl)
never-true false never = refl

-- new files behind those of a pool, in four parts of which the middle two are exchanged
module _ (p : Contents) (front first second rest : List FileDescriptorProto) where
  -- the files as they were, and as they are
  abbrev pub were : List FileDescriptorProto
  were = front ++ first ++ second ++ rest

  abbrev pub are : List FileDescriptorProto
  are = front ++ second ++ first ++ rest

  -- the number of each file
  abbrev pub number : ℕ → ℕ
  number = exchanged (length p.files + length front) (length first) (length second)

  -- how many files there are
  abbrev pub many : ℕ
  many = length p.files + length were

  -- what each part declared
  abbrev pub was_front : List Shown
  was_front = declarations (counts_in p) front

  abbrev pub was_first : List Shown
  was_first = declarations (first_counts (counts_in p) front first second rest) first

  abbrev pub was_second : List Shown
  was_second = declarations (second_counts (counts_in p) front first second rest) second

  abbrev pub was_rest : List Shown
  was_rest = declarations (rest_counts (counts_in p) front first second rest) rest

  -- what each part declares
  abbrev pub is_front : List Shown
  is_front = declarations (counts_in p) front

  abbrev pub is_second : List Shown
  is_second = declarations (first_counts (counts_in p) front second first rest) second

  abbrev pub is_first : List Shown
  is_first = declarations (second_counts (counts_in p) front second first rest) first

  abbrev pub is_rest : List Shown
  is_rest = declarations (rest_counts (counts_in p) front second first rest) rest

  pub declared-were : declared_with p were ≡ was_front ++ was_first ++ was_second ++ was_rest
  declared-were = declared-four (counts_in p) front first second rest

  pub declared-are : declared_with p are ≡ is_front ++ is_second ++ is_first ++ is_rest
  declared-are = declared-four (counts_in p) front second first rest

  -- each part is moved
  part-moved : (b c : Counts) (fs : List FileDescriptorProto) (x y : ℕ) → b.files ≡ x → c.files ≡ y → ((i : ℕ) → i < length fs → number (x + i) ≡ y + i) → AllMoved number (declarations b fs) (declarations c fs)
  part-moved b c fs x y was is moves = declarations-moved number b c fs (λ i below. (λ j. is j + i) ∙ sym (moves i below) ∙ (λ j. number (sym was j + i)))

  pub front-moved : AllMoved number was_front is_front
  front-moved =
      part-moved (counts_in p) (counts_in p) front (length p.files) (length p.files) refl refl
      (λ i below. exchanged-front (length p.files + length front) (length first) (length second) (length p.files + i) (omega (arith, below)))

  pub first-moved : AllMoved number was_first is_first
  first-moved =
      let x = length p.files + length front in
      part-moved (first_counts (counts_in p) front first second rest) (second_counts (counts_in p) front second first rest) first x (x + length second)
      (many-first (counts_in p) front first second rest) (many-second (counts_in p) front second first rest) (exchanged-first x (length first) (length second))

  pub second-moved : AllMoved number was_second is_second
  second-moved =
      let x = length p.files + length front in
      part-moved (second_counts (counts_in p) front first second rest) (first_counts (counts_in p) front second first rest) second (x + length first) x
      (many-second (counts_in p) front first second rest) (many-first (counts_in p) front second first rest) (exchanged-second x (length first) (length second))

  pub rest-moved : AllMoved number was_rest is_rest
  rest-moved =
      let x = length p.files + length front in
      let turned : x + length second + length first ≡ x + length first + length second = omega arith in
      part-moved (rest_counts (counts_in p) front first second rest) (rest_counts (counts_in p) front second first rest) rest (x + length first + length second) (x + length first + length second)
      (many-rest (counts_in p) front first second rest) (many-rest (counts_in p) front second first rest ∙ turned) (λ i below. exchanged-rest x (length first) (length second) i)

  -- each declaration lies in one of the files
  pub lie-were : AllByRecursion (λ d. d.file < many) (declared_with p were)
  lie-were = (lie-between (counts_in p) were).1

  -- the settings that they are read against
  abbrev pub before : Setting
  before = setting_with p were

  abbrev pub after : Setting
  after = setting_with p are

  were-behind : before.files ≡ (files_of p ++ front) ++ first ++ second ++ rest
  were-behind = in-front (files_of p) front first second rest

  are-behind : after.files ≡ (files_of p ++ front) ++ second ++ first ++ rest
  are-behind = in-front (files_of p) front second first rest

  long-front : length (files_of p ++ front) ≡ length p.files + length front
  long-front = long-with p front

  long-were : length before.files ≡ many
  long-were = long-with p were

  long-are : length after.files ≡ length before.files
  long-are =
      ap length are-behind
      ∙ exchanged-long (length p.files + length front) (length first) (length second) (files_of p ++ front) first second rest long-front refl refl
      ∙ ap length (sym were-behind)

  number-within : (n : ℕ) → n < length before.files → number n < length before.files
  number-within n below =
      let long = ap length were-behind in
      let stays = exchanged-within (length p.files + length front) (length first) (length second) (files_of p ++ front) first second rest long-front refl refl n (omega (arith, below, long)) in
      omega (arith, stays, long)

  -- each file is where its number says
  pub files-moved : (n : ℕ) → n < many → slice_get after.files (number n) ≡ slice_get before.files n
  files-moved n below =
      let long = ap length were-behind in
      let whole = long-were in
      ap (λ fs. slice_get fs (number n)) are-behind
      ∙ exchanged-at (length p.files + length front) (length first) (length second) (files_of p ++ front) first second rest long-front refl refl n (omega (arith, below, long, whole))
      ∙ ap (λ fs. slice_get fs n) (sym were-behind)

  -- no two files have one number
  pub number-one : (m n : ℕ) → number m ≡ number n → m ≡ n
  number-one m n same = exchanged-one (length p.files + length front) (length first) (length second) m n same

  -- a file of the pool keeps its number
  pub number-kept : (n : ℕ) → n < length p.files → number n ≡ n
  number-kept n below = exchanged-front (length p.files + length front) (length first) (length second) n (omega (arith, below))

  -- and a new file stays behind the pool
  pub number-behind : (n : ℕ) → length p.files ≤ n → length p.files ≤ number n
  number-behind n from = elim (cases_lt (number n) (length p.files)) [
    | inl less ↦ let same = number-one (number n) n (number-kept (number n) less) in omega (arith, from, less, same)
    | inr more ↦ more
  ]

  pub syntaxes-moved : AllByRecursion (SyntaxMoves number before.files after.files) (declared_with p were)
  syntaxes-moved =
      all-weaker (λ d. d.file < many) (SyntaxMoves number before.files after.files)
      (λ d below. ap (λ o. syntax_of (unwrap_or o no_file)) (files-moved d.file below)) (declared_with p were) lie-were

  -- files that break nothing in the first pass
  module _ (made : Made p) (none : name_faults p were ≡ []) where
    known : Known p
    known = (made-sound p made).known

    none-four : after_each (first_faults before.files p) [] (was_front ++ was_first ++ was_second ++ was_rest) ≡ []
    none-four = ap (after_each (first_faults before.files p) []) (sym declared-were) ∙ none

    -- they break nothing as they are
    pub none-are : name_faults p are ≡ []
    none-are =
        ap (after_each (first_faults after.files p) []) declared-are
        ∙ first-exchanged number before.files after.files p was_front was_first was_second was_rest is_front is_first is_second is_rest
        front-moved first-moved second-moved rest-moved
        (subst (AllByRecursion (SyntaxMoves number before.files after.files)) declared-were syntaxes-moved) none-four

    names-held : (fs : List FileDescriptorProto) (ds : List Shown) → declared_with p fs ≡ ds → (name : List ℕ) → finite.get (setting_with p fs).names name ≡ holder p.names (entries ds) name
    names-held fs ds is name = get-with p.names (entries (declared_with p fs)) name ∙ ap (λ es. holder p.names (entries es) name) is

    file-names-held : (fs : List FileDescriptorProto) (ds : List Shown) → declared_with p fs ≡ ds → (name : List ℕ)
        → finite.get (setting_with p fs).file_names name ≡ holder p.file_names (file_entries ds) name
    file-names-held fs ds is name = get-with p.file_names (file_entries (declared_with p fs)) name ∙ ap (λ es. holder p.file_names (file_entries es) name) is

    -- a name of a file means the file that has the number given
    pub file-names-moved : (name : List ℕ) → finite.get after.file_names name ≡ option_map number (finite.get before.file_names name)
    file-names-moved name =
        let pool = long-pool p in
        file-names-held are (is_front ++ is_second ++ is_first ++ is_rest) declared-are name
        ∙ file-names-exchanged number before.files p was_front was_first was_second was_rest is_front is_first is_second is_rest
        front-moved first-moved second-moved rest-moved none-four
        (λ name n is. let below = names-mean-files p known name n is in number-kept n (omega (arith, below, pool))) name
        ∙ ap (option_map number) (sym (file-names-held were (was_front ++ was_first ++ was_second ++ was_rest) declared-were name))

    -- a name means a definition that is alike
    pub names-alike : (name : List ℕ) → BothAlike number (finite.get before.names name) (finite.get after.names name)
    names-alike name =
        let pool = long-pool p in
        let was = was_front ++ was_first ++ was_second ++ was_rest in
        let is = is_front ++ is_second ++ is_first ++ is_rest in
        subst (λ o. BothAlike number o (finite.get after.names name)) (sym (names-held were was declared-were name))
        (subst (λ o. BothAlike number (holder p.names (entries was) name) o) (sym (names-held are is declared-are name))
        (names-exchanged number before.files p was_front was_first was_second was_rest is_front is_first is_second is_rest
        front-moved first-moved second-moved rest-moved none-four
        (λ name def is. let below = names-mean-within p known name def is in number-kept def.file (omega (arith, below, pool))) name))

    names-lie : (name : List ℕ) (def : Definition) → finite.get before.names name ≡ Some def → def.file < many
    names-lie name def is =
        let pool = long-pool p in
        let es = entries (declared_with p were) in
        either-lies many (finite.get p.names name) (first_of es name)
        (λ d found. let below = names-mean-within p known name d found in omega (arith, below, pool))
        (subst (λ o. IfSome o (λ d. d.file < many)) (get-lookup es name) (names-before (counts_in p) were name))
        def (sym (get-with p.names es name) ∙ is)

    -- a file of the pool sees none behind the pool
    old-unseen : (n m : ℕ) → length p.files ≤ m → contains_by (nat_cmp m) (seen_in p n) ≡ false
    old-unseen n m from = never-true (contains_by (nat_cmp m) (seen_in p n)) (λ is.
        let pool = long-pool p in
        let below = seen-within (files_of p) (finite.get p.file_names) n m is in
        omega (arith, from, below, pool))

    -- each file sees what it saw
    pub sees-moved : (n m : ℕ) → n < many → m < many → contains_by (nat_cmp (number m)) (seen_by after (number n)) ≡ contains_by (nat_cmp m) (seen_by before n)
    sees-moved n m below_n below_m = elim (cases_lt n (length p.files)) [
      | inl old ↦
          let again = made-relinked p made in
          let here : seen_by after (number n) ≡ seen_in p n = ap (seen_by after) (number-kept n old) ∙ old-sees p are again n old in
          let was = old-sees p were again n old in
          ap (contains_by (nat_cmp (number m))) here ∙ elim (cases_lt m (length p.files)) [
            | inl within ↦ ap (λ k. contains_by (nat_cmp k) (seen_in p n)) (number-kept m within)
            | inr behind ↦ old-unseen n (number m) (number-behind m behind) ∙ sym (old-unseen n m behind)
          ] ∙ ap (contains_by (nat_cmp m)) (sym was)
      | inr new ↦
          let long = long-were in
          let same = long-are in
          let ours = long-with p are in
          let within = number-within n (omega (arith, below_n, long)) in
          ap (contains_by (nat_cmp (number m))) (new-sees p are (number n) (number-behind n new) (omega (arith, within, same, ours)))
          ∙ seen-moved before.files after.files (finite.get before.file_names) (finite.get after.file_names) number long-are
          (λ k below. files-moved k (omega (arith, below, long))) number-within (λ a b _ _ is. number-one a b is) file-names-moved (mean-with p were known)
          n m (omega (arith, below_n, long)) (omega (arith, below_m, long))
          ∙ ap (contains_by (nat_cmp m)) (sym (new-sees p were n new below_n))
    ]

    -- so the files are the same under other numbers
    pub renames-exchanged : Renames before after many number
    renames-exchanged = record {
      names = names-alike;
      lie = names-lie;
      files = files-moved;
      file_names = λ name. ap is_some (file-names-moved name) ∙ some-moved number (finite.get before.file_names name);
      sees = sees-moved;
    }
