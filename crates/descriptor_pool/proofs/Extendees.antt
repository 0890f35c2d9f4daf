-- Each message of a pool lists all extensions that extend it, and leads from numbers to them; each extension extends a message of the pool, and no two of a message have one number.
use Rattle.std.proofs.Common.{◌≡◌, ◌≤◌, ◌<◌, ◌+◌, ◌==◌, ℕ, ℤ, Bool, zero, suc, true, false, cond, Option, Some, None, List, [], ◌∷◌, ◌++◌, length, map, take, drop, refl, ap, subst, sym, ◌∙◌, append-nil, append_assoc, arith}
use Rattle.std.proofs.lemmas.Bool.Decides.{nat_tests}
use Rattle.std.proofs.lemmas.List.{length-append}
use Rattle.std.proofs.lemmas.List.Elements.{All-append, All-from_recursion, All-nil, All-weaker, recursion_from_All}
use Rattle.std.specs.BTreeSet.{contains_by}
use Rattle.std.specs.FinMap as finite
use Rattle.std.specs.List.{AllByRecursion, find, flat_map}
use Rattle.std.specs.Option.{IfSome, option_and_then, option_map, option_or}
use Rattle.std.specs.Prelude.{slice_get}
use Rattle.std.specs.Ordering.{nat_cmp}
use Rattle.plain_data.specs.Each.{map_enumerated}
use Rattle.proto_types.specs.declared.records.field.FieldDescriptorProto.{FieldDescriptorProto}
use Rattle.proto_types.specs.declared.tag.field.TheConstants as field
use Rattle.plain_data.specs.Lists.{listed}
use Rattle.proto_types.specs.Readers.{text_of}
use Rattle.pool_types.specs.Contents.{Contents, no_contents}
use Rattle.pool_types.specs.declared.contents.extension.ExtensionDescriptorInner.{ExtensionDescriptorInner}
use Rattle.pool_types.specs.declared.contents.message.MessageDescriptorInner.{MessageDescriptorInner}
use Rattle.record_walk.specs.Protos.{Proto, as_message, of_file, of_message, of_field, of_oneof, of_service, of_method, of_enum, of_value, of_extension}
use Rattle.record_walk.specs.Shown.{Shown, of_kind}
use Rattle.name_resolution.specs.declared.filter.ResolveNameFilter.TheVariants.{Message}
use Rattle.name_resolution.specs.References.{reference_fault}
use Rattle.name_resolution.specs.Resolution.{Resolution, found, invalid_type, not_imported, shadowed, not_found}
use Rattle.name_resolution.proofs.Found.{IsNamed, resolution-named, IsWanted, resolution-wanted}
use Rattle.reference_pass.specs.SecondPass.{owner_faults}
use Rattle.reference_pass.specs.Extension.{extendee_faults}
use Rattle.reference_pass.specs.Items.{extension_item, message_item, extension_items, message_items}
use Rattle.reference_pass.specs.References.{message_found, resolve_message, index_or_max}
use Rattle.reference_pass.specs.Setting.{Setting, seen_by}
use Rattle.pool_contents.specs.Extended.{NumbersLieBefore, extended_by, with_extensions}
use Rattle.pool_types.specs.Extension.{NumbersLead, extending, extension_numbered, has_number, number_held}
use Rattle.pool_contents.proofs.Extending.{with-more}
use Rattle.pool_contents.proofs.Numbered.{first-extending, first_numbered, numbers-entered}
use Rattle.reference_pass.proofs.Owners.{owners-tell}
use Rattle.reference_pass.proofs.Unbroken.{AllNew, IsNew, all-new-append, both-empty, extension-parts, owners-apart}
use Rattle.pool_contents.proofs.Each.{each-append, each-same, each-twice, length-each}
use Rattle.proto_types.specs.declared.file.FileDescriptorProto.{FileDescriptorProto}
use Rattle.proto_types.specs.declared.message.DescriptorProto.{DescriptorProto}
use Rattle.record_walk.specs.Counts.{counts_in}
use Rattle.std.proofs.lemmas.Cmp.{by_ranked, ranked}
use Rattle.descriptor_pool.specs.Build.{declared_with, with_batch, reference_faults, setting_with}
use Rattle.descriptor_pool.specs.Extensions.{ExtendeesLieIn, ListsAreWhole, NumbersAreUnique, bare}
use Rattle.descriptor_pool.specs.Invariant.{IsPool}
use Rattle.descriptor_pool.specs.Pool.{Made, empty, linked_to, new_files}
use Rattle.descriptor_pool.proofs.Indexed.{MeansBefore, messages-lie}
use Rattle.descriptor_pool.proofs.Keyed.{taken-at}
use Rattle.descriptor_pool.proofs.Sound.{Known, link-known, made-sound}
use Rattle.descriptor_pool.proofs.Wanted.{message-wanted}

-- an extendee without a fault was found, and is one of the messages that names mean
found-below : (s : Setting) (end : ℕ) (path : List ℤ) (file : ℕ) (written : List ℕ) (r : Resolution)
    → ((name : List ℕ) → IfSome (finite.get s.names name) (MeansBefore end)) → IsNamed s.names r → IsWanted Message r
    → listed (reference_fault s.files written file path r) ≡ [] → index_or_max (message_found r) < end
found-below s end path file written (found name def) lie named wanted none =
    message-wanted end def.kind wanted (subst (λ got. IfSome got (MeansBefore end)) named (lie name))
found-below s end path file written (invalid_type name def filter) lie named wanted none = absurd (cc)
found-below s end path file written (not_imported name other) lie named wanted none = absurd (cc)
found-below s end path file written (shadowed name other) lie named wanted none = absurd (cc)
found-below s end path file written not_found lie named wanted none = absurd (cc)

module _ (s : Setting) (end : ℕ) (lie : (name : List ℕ) → IfSome (finite.get s.names name) (MeansBefore end)) where
  extendee-below : (d : Shown) (x : FieldDescriptorProto) → extendee_faults s d x ≡ [] → (extension_item s d x).extendee < end
  extendee-below d x none =
      let sees : ℕ → Bool = λ n. contains_by (nat_cmp n) (seen_by s d.file) in
      found-below s end (d.path ++ field.EXTENDEE ∷ []) d.file (text_of x.extendee) (resolve_message s d x.extendee) lie
      (resolution-named s.names sees Message d.full_name (text_of x.extendee)) (resolution-wanted s.names sees Message d.full_name (text_of x.extendee)) none

  -- one declaration without a fault, before others
  one-below : (file : ℕ) (parent : Option ℕ) (index : ℕ) (path : List ℤ) (full_name : List ℕ) (p : Proto) (ds : List Shown)
      → let d : Shown = record { file = file; parent = parent; index = index; path = path; full_name = full_name; proto = p } in
      owner_faults s [] d ≡ [] → AllByRecursion (λ x. x.extendee < end) (extension_items s ds) → AllByRecursion (λ x. x.extendee < end) (extension_items s (d ∷ ds))
  one-below file parent index path full_name (of_file f) ds none rest = rest
  one-below file parent index path full_name (of_message m) ds none rest = rest
  one-below file parent index path full_name (of_field f) ds none rest = rest
  one-below file parent index path full_name (of_oneof o) ds none rest = rest
  one-below file parent index path full_name (of_service v) ds none rest = rest
  one-below file parent index path full_name (of_method m) ds none rest = rest
  one-below file parent index path full_name (of_enum e) ds none rest = rest
  one-below file parent index path full_name (of_value v) ds none rest = rest
  one-below file parent index path full_name (of_extension x) ds none rest =
      let d : Shown = record { file = file; parent = parent; index = index; path = path; full_name = full_name; proto = of_extension x } in
      let parts = extension-parts s d x [] none in
      (extendee-below d x parts.extendee, rest)

  all-below : (ds : List Shown) → flat_map (owner_faults s []) ds ≡ [] → AllByRecursion (λ x. x.extendee < end) (extension_items s ds)
  all-below [] none = tt
  all-below (d ∷ ds) none =
      let both = both-empty (owner_faults s [] d) (flat_map (owner_faults s []) ds) none in
      one-below d.file d.parent d.index d.path d.full_name d.proto ds both.0 (all-below ds both.1)

-- extensions behind others
pub extending-append : (message first : ℕ) (xs ys : List ExtensionDescriptorInner)
    → extending message first (xs ++ ys) ≡ extending message first xs ++ extending message (first + length xs) ys
extending-append message first [] ys = let here : first ≡ first + 0 = omega arith in ap (λ n. extending message n ys) here
extending-append message first (x ∷ xs) ys =
    let there : first + 1 + length xs ≡ first + suc (length xs) = omega arith in
    let rest = extending-append message (first + 1) xs ys ∙ ap (λ n. extending message (first + 1) xs ++ extending message n ys) there in
    elim (x.extendee == message) as (λ b. cond b ((first, x) ∷ extending message (first + 1) (xs ++ ys)) (extending message (first + 1) (xs ++ ys))
    ≡ cond b ((first, x) ∷ extending message (first + 1) xs) (extending message (first + 1) xs) ++ extending message (first + suc (length xs)) ys)
    [ true ↦ ap (λ es. (first, x) ∷ es) rest | false ↦ rest ]

extending-behind : (message : ℕ) (xs ys : List ExtensionDescriptorInner) → extending message 0 (xs ++ ys) ≡ extending message 0 xs ++ extending message (length xs) ys
extending-behind message xs ys =
    let from : 0 + length xs ≡ length xs = omega arith in
    extending-append message 0 xs ys ∙ ap (λ n. extending message 0 xs ++ extending message n ys) from

-- extensions of other messages
pub extending-none : (message first end : ℕ) (xs : List ExtensionDescriptorInner) → AllByRecursion (λ x. x.extendee < end) xs → end ≤ message → extending message first xs ≡ []
extending-none message first end [] all past = refl
extending-none message first end (x ∷ xs) all past =
    let below = all.0 in
    let other : (x.extendee == message) ≡ false = grind (arith, nat_tests) in
    ap (λ b. cond b ((first, x) ∷ extending message (first + 1) xs) (extending message (first + 1) xs)) other
    ∙ extending-none message (first + 1) end xs all.1 past

pub drop-front : {X : Type 0} (xs ys : List X) → drop (length xs) (xs ++ ys) ≡ ys
drop-front [] ys = refl
drop-front (x ∷ xs) ys = drop-front xs ys

-- new entries, which are made alike
pub each-made : {X Y Z : Type 0} (f : ℕ → Y → Z) (g : X → Y) (i : ℕ) (xs : List X) → map_enumerated f i (map g xs) ≡ map_enumerated (λ n x. f n (g x)) i xs
each-made f g i [] = refl
each-made f g i (x ∷ xs) = ap (λ rest. f i (g x) ∷ rest) (each-made f g (suc i) xs)

-- a message, by its index, that has all of these
abbrev listing : List ExtensionDescriptorInner → ℕ → MessageDescriptorInner → MessageDescriptorInner
listing xs n m = with_extensions (extending n 0 xs) (bare m)

-- old messages that have all old extensions, and new ones that have none, have all once the new extensions are added
module _ {X : Type 0} (old new : List ExtensionDescriptorInner) (ms : List MessageDescriptorInner) (make : X → MessageDescriptorInner) (made : List X) (is-bare : (x : X) → make x ≡ bare (make x))
    (whole : ms ≡ map_enumerated (listing old) 0 ms) (below : AllByRecursion (λ x. x.extendee < length ms) old) where
  abbrev more : ℕ → MessageDescriptorInner → MessageDescriptorInner
  more = extended_by (length old) new

  both : (n : ℕ) (m : MessageDescriptorInner) → more n (listing old n m) ≡ listing (old ++ new) n m
  both n m = with-more (extending n 0 old) (extending n (length old) new) (bare m) ∙ ap (λ es. with_extensions es (bare m)) (sym (extending-behind n old new))

  first-more : map_enumerated more 0 ms ≡ map_enumerated (listing (old ++ new)) 0 ms
  first-more =
      ap (map_enumerated more 0) whole
      ∙ each-twice more (listing old) 0 ms
      ∙ each-same (λ n m. more n (listing old n m)) (listing (old ++ new)) 0 ms (λ n m _ _. both n m)

  later-more : map_enumerated more (0 + length ms) (map make made) ≡ map_enumerated (listing (old ++ new)) (0 + length ms) (map make made)
  later-more =
      each-made more make (0 + length ms) made
      ∙ each-same (λ n x. more n (make x)) (λ n x. listing (old ++ new) n (make x)) (0 + length ms) made (λ n x from _. same n x from)
      ∙ sym (each-made (listing (old ++ new)) make (0 + length ms) made)
    where
      same : (n : ℕ) (x : X) → 0 + length ms ≤ n → more n (make x) ≡ listing (old ++ new) n (make x)
      same n x from =
          ap (with_extensions (extending n (length old) new)) (is-bare x)
          ∙ ap (λ es. with_extensions es (bare (make x)))
          (sym (extending-behind n old new ∙ ap (λ es. es ++ extending n (length old) new) (extending-none n 0 (length ms) old below (omega (arith, from)))))

  pub all-more : map_enumerated more 0 (ms ++ map make made) ≡ map_enumerated (listing (old ++ new)) 0 (map_enumerated more 0 (ms ++ map make made))
  all-more =
      let all = ms ++ map make made in
      let now : map_enumerated more 0 all ≡ map_enumerated (listing (old ++ new)) 0 all =
      each-append more 0 ms (map make made) ∙ (λ i. first-more i ++ later-more i) ∙ sym (each-append (listing (old ++ new)) 0 ms (map make made)) in
      now ∙ sym (each-twice (listing (old ++ new)) more 0 all)

-- what is true of the contents of every pool
pub record Whole (p : Contents) : Type 0 where
  pub lists : ListsAreWhole p
  pub extendees : ExtendeesLieIn p
  pub numbers : AllNew [] p.extensions

nothing-whole : Whole no_contents
nothing-whole = record { lists = refl; extendees = All-nil (λ x. x.extendee < 0); numbers = tt }

-- so it is behind new files that break nothing in the second pass
pub link-whole : (q : Contents) (new : List FileDescriptorProto) → Known q → Whole q → reference_faults q new ≡ [] → Whole (with_batch q new)
link-whole q new known was none =
    let s = setting_with q new in
    let ds = declared_with q new in
    let old = q.extensions in
    let came = extension_items s ds in
    let ms = q.messages in
    let make = λ (e : Shown × _). message_item s e.0 e.1 in
    let later = message_items s ds in
    let end = length (with_batch q new).messages in
    let many : end ≡ length (ms ++ later) = length-each (extended_by (length old) (drop (length old) (old ++ came))) 0 (ms ++ later) in
    let more : length ms ≤ end = let sum = length-append ms later in omega (arith, many, sum) in
    let below = recursion_from_All (λ x. x.extendee < length ms) old was.extendees in
    let rest = drop-front old came in
    let told = owners-apart s old ds (sym (owners-tell s old (counts_in q) new) ∙ none) in
    record {
      lists = ap (λ xs. map_enumerated (extended_by (length old) xs) 0 (ms ++ later)) rest
          ∙ all-more old came ms make (of_kind as_message ds) (λ _. refl) was.lists below
          ∙ ap (λ xs. map_enumerated (listing (old ++ came)) 0 (map_enumerated (extended_by (length old) xs) 0 (ms ++ later))) (sym rest);
      extendees = All-append (λ x. x.extendee < end) old came
          (All-weaker (λ x. x.extendee < length ms) (λ x. x.extendee < end) (λ x here. omega (arith, here, more)) old was.extendees)
          (All-from_recursion (λ x. x.extendee < end) came (all-below s end (messages-lie (with_batch q new) (link-known q new known)) ds told.0));
      numbers = all-new-append [] old came was.numbers told.1;
    }

pub made-whole : (p : Contents) → Made p → Whole p
made-whole p (empty is) = subst Whole (sym is) nothing-whole
made-whole p (linked_to {q = q} batch made accepts fits is) =
    subst Whole (sym is) (link-whole q (new_files q batch) (made-sound q made).known (made-whole q made) accepts.1)

-- each message lists all extensions that extend it
pub lists_are_whole : (p : Contents) → IsPool p → ListsAreWhole p
lists_are_whole p pool = (made-whole p pool.made).lists

-- each extension extends a message of the pool
pub extendees_lie : (p : Contents) → IsPool p → ExtendeesLieIn p
extendees_lie p pool = (made-whole p pool.made).extendees

-- a message, by its index, in a list in which each is made of another, by its index
message-made : (f : ℕ → MessageDescriptorInner → MessageDescriptorInner) (at : ℕ) (ms : List MessageDescriptorInner) (n : ℕ)
    → slice_get (map_enumerated f at ms) n ≡ option_map (f (at + n)) (slice_get ms n)
message-made f at [] n = refl
message-made f at (m ∷ ms) zero = let here : at ≡ at + 0 = omega arith in ap (λ i. Some (f i m)) here
message-made f at (m ∷ ms) (suc n) =
    let there : suc at + n ≡ at + suc n = omega arith in
    message-made f (suc at) ms n ∙ ap (λ i. option_map (f i) (slice_get ms n)) there

pub past-end : {X : Type 0} (xs : List X) (n : ℕ) → slice_get xs n ≡ None → length xs ≤ n
past-end [] n none = omega arith
past-end (x ∷ xs) zero none = absurd (cc)
past-end (x ∷ xs) (suc n) none = let rest = past-end xs n none in omega (arith, rest)

-- the messages of a pool lead from numbers to its extensions
pub numbers_lead : (p : Contents) → IsPool p → NumbersLead p.extensions p.messages
numbers_lead p pool message number =
    ap (λ ms. number_held ms message number) whole.lists
    ∙ ap (option_and_then held) (message-made (listing xs) 0 p.messages message ∙ ap (λ n. option_map (listing xs n) (slice_get p.messages message)) first)
    ∙ by (slice_get p.messages message) refl
  where
    xs : List ExtensionDescriptorInner
    xs = p.extensions

    whole : Whole p
    whole = made-whole p pool.made

    first : 0 + message ≡ message
    first = omega arith

    held : MessageDescriptorInner → Option ℕ
    held m = finite.get m.extension_numbers number

    by : (got : Option MessageDescriptorInner) → slice_get p.messages message ≡ got → option_and_then held (option_map (listing xs message) got) ≡ extension_numbered xs message number
    by None past =
        let end = past-end p.messages message past in
        let none = extending-none message 0 (length p.messages) xs (recursion_from_All (λ x. x.extendee < length p.messages) xs whole.extendees) end in
        sym (ap (first_numbered number) none) ∙ first-extending message number 0 xs
    by (Some m) there =
        numbers-entered finite.empty (extending message 0 xs) number
        ∙ ap (λ got. option_or got (first_numbered number (extending message 0 xs))) (finite.get-empty nat_cmp number)
        ∙ first-extending message number 0 xs

none-first : {X : Type 0} (b : Bool) (x : X) (later : Option X) → cond b (Some x) later ≡ None → (b ≡ false) × (later ≡ None)
none-first true x later none = absurd (cc)
none-first false x later none = (refl, none)

-- none of a list in which nothing is found passes
none-passes : {X : Type 0} (p : X → Bool) (xs : List X) (i : ℕ) (x : X) → find p xs ≡ None → slice_get xs i ≡ Some x → p x ≡ false
none-passes p [] i x none there = absurd (cc)
none-passes p (y ∷ ys) zero x none there = let same : y ≡ x = cc in ap p (sym same) ∙ (none-first (p y) y (find p ys) none).0
none-passes p (y ∷ ys) (suc n) x none there = none-passes p ys n x (none-first (p y) y (find p ys) none).1 there

-- one of extensions that are new has a new number behind those before it
new-at : (earlier xs : List ExtensionDescriptorInner) (j : ℕ) (y : ExtensionDescriptorInner) → AllNew earlier xs → slice_get xs j ≡ Some y → IsNew (earlier ++ take j xs) y
new-at earlier [] j y all there = absurd (cc)
new-at earlier (x ∷ xs) zero y all there = let same : x ≡ y = cc in subst (IsNew (earlier ++ [])) same (subst (λ es. IsNew es x) (sym (append-nil earlier)) all.0)
new-at earlier (x ∷ xs) (suc n) y all there = subst (λ es. IsNew es y) (append_assoc earlier (x ∷ []) (take n xs)) (new-at (earlier ++ x ∷ []) xs n y all.1 there)

-- no later extension has the message and the number of an earlier one
later-differs : (xs : List ExtensionDescriptorInner) (i j : ℕ) (x y : ExtensionDescriptorInner) → AllNew [] xs → slice_get xs i ≡ Some x → slice_get xs j ≡ Some y → i < j
    → x.extendee ≡ y.extendee → x.number ≡ y.number → ⊥
later-differs xs i j x y all at-i at-j before extendee number =
    let other = none-passes (has_number y.extendee y.number) (take j xs) i x (new-at [] xs j y all at-j) (taken-at xs i j before ∙ at-i) in
    let same : has_number y.extendee y.number x ≡ true = grind (arith, nat_tests, extendee, number) in
    absurd (cc)

pub numbers_are_unique : (p : Contents) → IsPool p → NumbersAreUnique p
numbers_are_unique p pool i j x y at-i at-j extendee number =
    let all = (made-whole p pool.made).numbers in
    by_ranked (i < j) (i ≡ j) (j < i) (nat_cmp i j) (ranked i j (nat_cmp i j) refl)
    (λ _ before. absurd (later-differs p.extensions i j x y all at-i at-j before extendee number))
    (λ _ same. same)
    (λ _ before. absurd (later-differs p.extensions j i y x all at-j at-i before (sym extendee) (sym number)))

-- messages behind others, and new ones, which have no numbers
pub numbers-append : (end : ℕ) (ms ns : List MessageDescriptorInner) → NumbersLieBefore end ms → NumbersLieBefore end ns → NumbersLieBefore end (ms ++ ns)
numbers-append end [] ns first second = second
numbers-append end (m ∷ ms) ns first second = (first.0, numbers-append end ms ns first.1 second)

pub numbers-new : (end : ℕ) (s : Setting) (es : List (Shown × DescriptorProto)) → NumbersLieBefore end (map (λ e. message_item s e.0 e.1) es)
numbers-new end s [] = tt
numbers-new end s (e ∷ es) = (λ number. subst (λ got. IfSome got (λ k. k < end)) (sym (finite.get-empty nat_cmp number)) tt, numbers-new end s es)
