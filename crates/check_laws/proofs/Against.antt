-- Where the check against older versions accepts, nothing is told of any of them.
use Rattle.std.proofs.Common.{◌≡◌, ◌==◌, ◌||◌, ℕ, zero, suc, Bool, true, false, not, if◌then◌else◌, List, [], ◌∷◌, ◌++◌, length, map, flat_map, Option, None, Some, Result, Ok, Err, refl, ap, subst, sym, ◌∙◌, arith}
use Rattle.std.proofs.lemmas.Bool.{eqb-true, false≢true}
use Rattle.std.specs.List.{AllByRecursion, Contains, list_any}
use Rattle.joined_files.specs.declared.joining.JoinedFiles.{JoinedFiles}
use Rattle.pool_types.specs.Contents.{Contents}
use Rattle.protoc_rules.specs.declared.faults.StrictFault.{StrictFault}
use Rattle.verdict_texts.specs.declared.telling.ToldFault.{ToldFault}
use Rattle.verdict_texts.specs.Refused.{too_many_text}
use Rattle.schema_changes.proofs.Keeping.{at-contained}
use Rattle.pool_changes.specs.Comparing.{directions, told_at, told_changes}
use Rattle.pool_changes.specs.Laws.{UntoldIsKept, UntoldIsRead, UntoldMapsAreRead}
use Rattle.pool_changes.specs.Sides.{Versions}
use Rattle.pool_changes.specs.declared.direction.Direction.{Direction}
use Rattle.pool_changes.specs.declared.told.ToldChanges.{ToldChanges}
use Rattle.descriptor_check.specs.Against.{answer_against, batch_against, compared_for, compared_with, compatibility_wanted, level_wanted, olders_answer, some_change, with_told}
use Rattle.descriptor_check.specs.Answers.{accepted_unless, answer_for, linked_answer, passed_over, unread_answer, verdict_answer}
use Rattle.descriptor_check.specs.Batches.{and_then, batch_of}
use Rattle.descriptor_check.specs.Described.{unknown_names}
use Rattle.descriptor_check.specs.Olders.{older_faults, older_judged, older_of, older_read, olders_behind, olders_of, refused_older, unequal_text}
use Rattle.descriptor_check.specs.Strict.{judgement_of, verdict_wanted}
use Rattle.descriptor_check.specs.Verdicts.{verdict_of_joined}
use Rattle.descriptor_check.specs.declared.answer.Answer.{Answer}
use Rattle.descriptor_check.specs.declared.answer.LinkedSet.{LinkedSet}
use Rattle.descriptor_check.specs.declared.answer.Status.{Status}
use Rattle.descriptor_check.specs.declared.answer.Status.TheVariants as status
use Rattle.descriptor_check.specs.declared.answer.Wanted.{Wanted}
use Rattle.descriptor_check.specs.declared.batches.NotASet.{NotASet}
use Rattle.descriptor_check.specs.declared.inputs.Input.{Input}
use Rattle.descriptor_check.specs.declared.olders.Older.{Older}
use Rattle.descriptor_check.specs.declared.verdicts.Verdict.{Verdict}
use Rattle.descriptor_check.specs.declared.verdicts.Verdict.TheVariants.{Accepted, Refused, TooMany, Unequal}
use Rattle.check_laws.specs.Against.{AcceptedIsRead, HasPools, OlderAs, ReadsIn}
use Rattle.check_laws.specs.Checked.{AcceptedAs}

-- ---- tests that no element passes

any-parts : {A : Type 0} (test : A → Bool) (xs ys : List A) → list_any test (xs ++ ys) ≡ false → (list_any test xs ≡ false) × (list_any test ys ≡ false)
any-parts test [] ys none = (refl, none)
any-parts test (x ∷ xs) ys none = by (test x) none (any-parts test xs ys)
  where
    by : (b : Bool) → (b || list_any test (xs ++ ys)) ≡ false → (list_any test (xs ++ ys) ≡ false → (list_any test xs ≡ false) × (list_any test ys ≡ false))
        → ((b || list_any test xs) ≡ false) × (list_any test ys ≡ false)
    by true none more = absurd (false≢true (sym none))
    by false none more = more none

each-false : {A B : Type 0} (test : B → Bool) (f : A → List B) (xs : List A) → list_any test (flat_map f xs) ≡ false → AllByRecursion (λ x. list_any test (f x) ≡ false) xs
each-false test f [] none = tt
each-false test f (x ∷ xs) none = let parts = any-parts test (f x) (flat_map f xs) none in (parts.0, each-false test f xs parts.1)

each-mapped-false : {A B : Type 0} (test : B → Bool) (f : A → B) (xs : List A) → list_any test (map f xs) ≡ false → AllByRecursion (λ x. test (f x) ≡ false) xs
each-mapped-false test f [] none = tt
each-mapped-false test f (x ∷ xs) none = let parts = any-parts test (f x ∷ []) (map f xs) none in (first (test (f x)) parts.0, each-mapped-false test f xs parts.1)
  where
    first : (b : Bool) → (b || false) ≡ false → b ≡ false
    first true h = h
    first false h = h

each-as : {A : Type 0} (P Q : A → Type 0) → ((x : A) → P x → Q x) → (xs : List A) → AllByRecursion P xs → AllByRecursion Q xs
each-as P Q step [] all = tt
each-as P Q step (x ∷ xs) all = (step x all.0, each-as P Q step xs all.1)

no-element : {A : Type 0} (xs : List A) → length xs ≡ 0 → xs ≡ []
no-element [] none = refl
no-element (x ∷ xs) none = absurd (omega (arith, none))

-- ---- what is told of an older version

-- nothing is told of it, in each direction that is wanted
abbrev Untold : Wanted → Contents → Older → Type 0
Untold w q o = AllByRecursion (λ d. told_at (record { direction = d; old = o.pool; new = q }) (level_wanted w) ≡ []) (directions (compatibility_wanted w))

-- what is told of it in a direction
abbrev told_in : Wanted → Contents → Older → Direction → ToldChanges
told_in w q o d = told_changes (record { direction = d; old = o.pool; new = q }) (level_wanted w) o.name w.most

abbrev changes_some : ToldChanges → Bool
changes_some r = not (r.count == 0)

counted-none : (w : Wanted) (q : Contents) (o : Older) (d : Direction) → changes_some (told_in w q o d) ≡ false → told_at (record { direction = d; old = o.pool; new = q }) (level_wanted w) ≡ []
counted-none w q o d none =
    let told : List ToldFault = told_at (record { direction = d; old = o.pool; new = q }) (level_wanted w) in
    no-element told (eqb-true (length told) 0 (by (length told == 0) none))
  where
    by : (b : Bool) → not b ≡ false → b ≡ true
    by true h = refl
    by false h = absurd (false≢true (sym h))

older-untold : (w : Wanted) (q : Contents) (o : Older) → list_any changes_some (compared_with w q o) ≡ false → Untold w q o
older-untold w q o none =
    each-as (λ d. changes_some (told_in w q o d) ≡ false) (λ d. told_at (record { direction = d; old = o.pool; new = q }) (level_wanted w) ≡ []) (λ d h. counted-none w q o d h)
    (directions (compatibility_wanted w)) (each-mapped-false changes_some (told_in w q o) (directions (compatibility_wanted w)) none)

all-untold : (w : Wanted) (q : Contents) (os : List Older) → some_change (flat_map (compared_with w q) os) ≡ false → AllByRecursion (Untold w q) os
all-untold w q os none =
    each-as (λ o. list_any changes_some (compared_with w q o) ≡ false) (Untold w q) (λ o h. older-untold w q o h) os (each-false changes_some (compared_with w q) os none)

-- ---- the older versions of inputs

abbrev older_with : List ℕ → Contents → Older
older_with name p = record { name = name; pool = p }

one-older : (o other : Older) (r : Result Older Answer) → r ≡ Ok o → r ≡ Ok other → o ≡ other
one-older o other r is h = cc (is, h)

-- what is no verdict accepts nothing
not-accepted : (f e : Answer) (r : Result Older Answer) → r ≡ Err f → r ≡ Err e → f.status ≡ status.NoVerdict → e.status ≡ status.Accepted → ⊥
not-accepted f e r is other none accepts =
    let same : f ≡ e = cc (is, other) in
    let no : status.NoVerdict ≡ status.Accepted = sym none ∙ ap (λ (a : Answer). a.status) same ∙ accepts in
    cc (no)

not-both : (o : Older) (e : Answer) (r : Result Older Answer) → r ≡ Ok o → r ≡ Err e → ⊥
not-both o e r is other = cc (is, other)

-- what an older version is refused with is no verdict
read-refused : (w : Wanted) (name : List ℕ) (r : Result JoinedFiles NotASet) (e : Answer) → older_read w name r ≡ Err e → e.status ≡ status.Accepted → ⊥
read-refused w name (Ok joined) e is accepts = by (verdict_of_joined false w.most joined) is
  where
    by : (v : Verdict) → older_judged w name v ≡ Err e → ⊥
    by (Accepted p) h = not-both (older_with name p) e (older_judged w name (Accepted p)) refl h
    by (Refused r) h = not-accepted (refused_older w name (older_faults w r)) e (older_judged w name (Refused r)) refl h refl accepts
    by (TooMany kind) h = not-accepted (refused_older w name (too_many_text kind)) e (older_judged w name (TooMany kind)) refl h refl accepts
    by (Unequal us) h = not-accepted (refused_older w name (unequal_text w us)) e (older_judged w name (Unequal us)) refl h refl accepts
read-refused w name (Err n) e is accepts = not-accepted (unread_answer w n) e (older_read w name (Err n)) refl is refl accepts

some-last : {A : Type 0} (P : A → Type 0) (xs : List A) (y : A) → AllByRecursion P (xs ++ y ∷ []) → AllByRecursion P xs × P y
some-last P [] y all = (tt, all.0)
some-last P (x ∷ xs) y all = let more = some-last P xs y all.1 in ((all.0, more.0), more.1)

module _ (w : Wanted) where
  -- one older version more, by what it is
  behind-refused : (acc : List Older) (is : List Input) (e : Answer) → olders_behind w acc is ≡ Err e → e.status ≡ status.Accepted → ⊥
  behind-refused acc [] e none accepts = cc
  behind-refused acc (i ∷ is) e none accepts = by (older_of w i) refl none (λ o. behind-refused (acc ++ o ∷ []) is e)
    where
      by : (r : Result Older Answer) → older_of w i ≡ r → and_then r (λ o. olders_behind w (acc ++ o ∷ []) is) ≡ Err e
          → ((o : Older) → olders_behind w (acc ++ o ∷ []) is ≡ Err e → e.status ≡ status.Accepted → ⊥) → ⊥
      by (Ok o) this h more = more o h accepts
      by (Err f) this h more = read-refused w i.name (batch_of (i ∷ [])) f this (let same : f ≡ e = cc in ap (λ (x : Answer). x.status) same ∙ accepts)

  -- what holds of each older version holds of that of each input
  abbrev OfInput : (Older → Type 0) → Input → Type 0
  OfInput P i = (o : Older) × (older_of w i ≡ Ok o) × P o

  behind-each : (P : Older → Type 0) (acc : List Older) (is : List Input) (os : List Older) → olders_behind w acc is ≡ Ok os → AllByRecursion P os → AllByRecursion P acc × AllByRecursion (OfInput P) is
  behind-each P acc [] os made all = let same : acc ≡ os = cc in (subst (AllByRecursion P) (sym same) all, tt)
  behind-each P acc (i ∷ is) os made all = by (older_of w i) refl made (λ o h. behind-each P (acc ++ o ∷ []) is os h all)
    where
      by : (r : Result Older Answer) → older_of w i ≡ r → and_then r (λ o. olders_behind w (acc ++ o ∷ []) is) ≡ Ok os
          → ((o : Older) → olders_behind w (acc ++ o ∷ []) is ≡ Ok os → AllByRecursion P (acc ++ o ∷ []) × AllByRecursion (OfInput P) is)
          → AllByRecursion P acc × (OfInput P i × AllByRecursion (OfInput P) is)
      by (Ok o) this h more =
          let rest = more o h in
          let last = some-last P acc o rest.0 in
          (last.0, ((o, this, last.1), rest.1))
      by (Err f) this h more = absurd cc

-- ---- the answer

-- an answer that accepts is for a verdict that accepts
verdict-accepts : (w : Wanted) (strict : List StrictFault) (v : Verdict) → (verdict_answer w strict v).status ≡ status.Accepted → (p : Contents) × (v ≡ Accepted p)
verdict-accepts w strict (Accepted p) accepts = (p, refl)
verdict-accepts w strict (Refused r) accepts = absurd cc
verdict-accepts w strict (TooMany kind) accepts = absurd cc
verdict-accepts w strict (Unequal us) accepts = absurd cc

abbrev by_change : Bool → Answer → Status × Option LinkedSet
by_change b a = if b then (status.Refused, None) else (a.status, a.linked)

-- what an answer that accepts tells of older versions is nothing, and without them it accepts
told-accepts : (told : List ToldChanges) (a : Answer) (w : Wanted) → (with_told w told a).status ≡ status.Accepted → (some_change told ≡ false) × (a.status ≡ status.Accepted)
told-accepts told a w accepts = by (some_change told) refl accepts
  where
    by : (b : Bool) → some_change told ≡ b → (by_change b a).0 ≡ status.Accepted → (some_change told ≡ false) × (a.status ≡ status.Accepted)
    by true is h = absurd cc
    by false is h = (is, h)

-- what is answered for the files of sets: the verdict accepts, and nothing is told
record Agrees (w : Wanted) (os : List Older) (inputs : List Input) : Type 0 where
  joined : JoinedFiles
  read : batch_of inputs ≡ Ok joined
  pool : Contents
  accepted : verdict_wanted w joined ≡ Accepted pool
  untold : AllByRecursion (Untold w pool) os

batch-agrees : (w : Wanted) (os : List Older) (inputs : List Input) → (batch_against w os (batch_of inputs)).status ≡ status.Accepted → Agrees w os inputs
batch-agrees w os inputs accepts = by (batch_of inputs) refl accepts
  where
    by : (r : Result JoinedFiles NotASet) → batch_of inputs ≡ r → (batch_against w os r).status ≡ status.Accepted → Agrees w os inputs
    by (Err n) reads h = absurd (let no = (told-accepts [] (unread_answer w n) w h).1 in cc)
    by (Ok joined) reads h =
        let v = verdict_wanted w joined in
        let a : Answer = verdict_answer w (judgement_of w joined).strict v in
        let both = told-accepts (compared_for w os v a.status) a w h in
        let p = verdict-accepts w (judgement_of w joined).strict v both.1 in
        let told : compared_for w os v a.status ≡ flat_map (compared_with w p.0) os = ap (compared_for w os v) both.1 ∙ ap (λ u. compared_for w os u status.Accepted) p.1 in
        record {
          joined = joined;
          read = reads;
          pool = p.0;
          accepted = p.1;
          untold = all-untold w p.0 os (sym (ap some_change told) ∙ both.0);
        }

-- the older versions that were read, and that they agree
agrees : (w : Wanted) (j : Input) (js inputs : List Input) → (answer_against w (j ∷ js) inputs).status ≡ status.Accepted
    → (os : List Older) × (olders_of w (j ∷ js) ≡ Ok os) × Agrees w os inputs
agrees w j js inputs accepts = by (olders_of w (j ∷ js)) refl accepts
  where
    by : (r : Result (List Older) Answer) → olders_of w (j ∷ js) ≡ r → (olders_answer w inputs r).status ≡ status.Accepted → (os : List Older) × (olders_of w (j ∷ js) ≡ Ok os) × Agrees w os inputs
    by (Ok os) reads h = (os, reads, batch-agrees w os inputs h)
    by (Err e) reads h = absurd (behind-refused w [] (j ∷ js) e reads (told-accepts [] e w h).1)

-- a pool by which inputs are accepted is one alone
one-accepted : (w : Wanted) (inputs : List Input) (joined : JoinedFiles) (p q : Contents) → batch_of inputs ≡ Ok joined → verdict_wanted w joined ≡ Accepted p → AcceptedAs w inputs q → p ≡ q
one-accepted w inputs joined p q reads accepts other =
    let same : joined ≡ other.joined = cc (reads, other.read) in
    let one : Accepted p ≡ Accepted q = sym accepts ∙ ap (verdict_wanted w) same ∙ other.accepted in
    cc

-- nothing is told of the older version of an input
input-untold : (w : Wanted) (olders inputs : List Input) (old new : Contents) → (answer_against w olders inputs).status ≡ status.Accepted → (i : Input) → Contains olders i → OlderAs w i old → AcceptedAs w inputs new
    → (d : Direction) → Contains (directions (compatibility_wanted w)) d → told_at (record { direction = d; old = old; new = new }) (level_wanted w) ≡ []
input-untold w [] inputs old new accepts i has older accepted d asked = absurd (omega (arith, has.1))
input-untold w (j ∷ js) inputs old new accepts i has older accepted d asked =
    let both = agrees w j js inputs accepts in
    let all = (behind-each w (Untold w (both.2).pool) [] (j ∷ js) both.0 both.1 (both.2).untold).1 in
    let own = at-contained (OfInput w (Untold w (both.2).pool)) (j ∷ js) i all has in
    let own_older : Older = record { name = i.name; pool = old } in
    let same : own.0 ≡ own_older = one-older own.0 own_older (older_of w i) own.1 older in
    let one : (own.0).pool ≡ old = ap (λ (o : Older). o.pool) same in
    let pool : (both.2).pool ≡ new = one-accepted w inputs (both.2).joined (both.2).pool new (both.2).read (both.2).accepted accepted in
    let here = at-contained (λ e. told_at (record { direction = e; old = (own.0).pool; new = (both.2).pool }) (level_wanted w) ≡ []) (directions (compatibility_wanted w)) d own.2 asked in
    subst (λ p. told_at (record { direction = d; old = old; new = p }) (level_wanted w) ≡ []) pool
    (subst (λ p. told_at (record { direction = d; old = p; new = (both.2).pool }) (level_wanted w) ≡ []) one here)

pub accepted-read : (w : Wanted) (olders inputs : List Input) (a : Answer) (old new : Contents) → ((d : Direction) → UntoldIsRead (record { direction = d; old = old; new = new }))
    → ((d : Direction) → UntoldMapsAreRead (record { direction = d; old = old; new = new })) → UntoldIsKept old new → AcceptedIsRead w olders inputs a old new
accepted-read w olders inputs a old new read maps kept is accepts i has older accepted d asked =
    let untold = input-untold w olders inputs old new (sym (ap (λ (b : Answer). b.status) is) ∙ accepts) i has older accepted d asked in
    record {
      values = read d (level_wanted w) (λ _ _. false) untold (λ a b k here pair besides. absurd (false≢true besides));
      maps = maps d (level_wanted w) (λ _ _. false) untold (λ a b k here pair besides. absurd (false≢true besides));
      names = λ back m x at plain.
          let k = kept (level_wanted w) (subst (λ e. told_at (record { direction = e; old = old; new = new }) (level_wanted w) ≡ []) back untold) m x at plain in
          (k.0, k.1);
    }

each-own : (os : List Older) → AllByRecursion (λ o. Older) os
each-own [] = tt
each-own (o ∷ os) = (o, each-own os)

-- the older version of an input has its name
judged-name : (w : Wanted) (name : List ℕ) (o : Older) (v : Verdict) → older_judged w name v ≡ Ok o → o.name ≡ name
judged-name w name o (Accepted p) h = sym (ap (λ (x : Older). x.name) (one-older (older_with name p) o (older_judged w name (Accepted p)) refl h))
judged-name w name o (Refused r) h = absurd (not-both o (refused_older w name (older_faults w r)) (older_judged w name (Refused r)) h refl)
judged-name w name o (TooMany kind) h = absurd (not-both o (refused_older w name (too_many_text kind)) (older_judged w name (TooMany kind)) h refl)
judged-name w name o (Unequal us) h = absurd (not-both o (refused_older w name (unequal_text w us)) (older_judged w name (Unequal us)) h refl)

read-name : (w : Wanted) (name : List ℕ) (o : Older) (r : Result JoinedFiles NotASet) → older_read w name r ≡ Ok o → o.name ≡ name
read-name w name o (Ok joined) h = judged-name w name o (verdict_of_joined false w.most joined) h
read-name w name o (Err n) h = absurd (not-both o (unread_answer w n) (older_read w name (Err n)) h refl)

-- an answer without older versions that accepts is for inputs that are accepted
answer-pool : (w : Wanted) (inputs : List Input) → (answer_for w (batch_of inputs)).status ≡ status.Accepted → (q : Contents) × AcceptedAs w inputs q
answer-pool w inputs accepts = by (batch_of inputs) refl accepts
  where
    by : (r : Result JoinedFiles NotASet) → batch_of inputs ≡ r → (answer_for w r).status ≡ status.Accepted → (q : Contents) × AcceptedAs w inputs q
    by (Err n) reads h = absurd cc
    by (Ok joined) reads h =
        let p = verdict-accepts w (judgement_of w joined).strict (verdict_wanted w joined) h in
        (p.0, record { joined = joined; read = reads; accepted = p.1 })

pub has-pools : (w : Wanted) (olders inputs : List Input) (a : Answer) → a ≡ answer_against w olders inputs → a.status ≡ status.Accepted → HasPools w olders inputs
has-pools w [] inputs a is accepts =
    let q = answer-pool w inputs (sym (ap (λ (b : Answer). b.status) is) ∙ accepts) in
    record { new = q.0; accepted = q.1; older = λ i has. absurd (omega (arith, has.1)) }
has-pools w (j ∷ js) inputs a is accepts =
    let both = agrees w j js inputs (sym (ap (λ (b : Answer). b.status) is) ∙ accepts) in
    let all = (behind-each w (λ o. Older) [] (j ∷ js) both.0 both.1 (each-own both.0)).1 in
    record {
      new = (both.2).pool;
      accepted = record { joined = (both.2).joined; read = (both.2).read; accepted = (both.2).accepted };
      older = λ i has.
          let own = at-contained (OfInput w (λ o. Older)) (j ∷ js) i all has in
          ((own.0).pool, own.1 ∙ ap (λ name. Ok (older_with name (own.0).pool)) (read-name w i.name own.0 (batch_of (i ∷ [])) own.1));
    }
