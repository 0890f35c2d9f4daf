-- Extensions that are given to the messages that they extend, one after another, and are taken away again.
use Rattle.std.proofs.Common.{◌≡◌, ◌≢◌, ◌≤◌, ◌<◌, ◌+◌, ◌-◌, ◌==◌, ℕ, zero, suc, Bool, true, false, cond, Option, None, Some, IfSome, MatchOption, is_some, List, [], ◌∷◌, ◌++◌, length, map, take, drop, set, get_or, if◌then◌else◌, refl, ap, subst, sym, ◌∙◌, append_assoc, append-nil, arith}
use Rattle.std.specs.FinMap as finite
use Rattle.std.specs.List.{AllByRecursion, between, enumerate_from, filter, fold}
use Rattle.std.specs.Ordering.{eq_by_cmp, nat_cmp}
use Rattle.std.proofs.lemmas.Bool.Decides.{nat_tests}
use Rattle.std.proofs.lemmas.List.{get_or-set_same, get_or_default, length-drop, map-append, same_from_push, set-get_or, set-set, take_all}
use Rattle.std.proofs.lemmas.List.Edits.{between_more, between_none, length-between}
use Rattle.std.proofs.lemmas.List.Elements.{filter-append}
use Rattle.std.proofs.lemmas.List.Sums.{fold-append}
use Rattle.plain_data.specs.Maps.{ByNumber}
use Rattle.std.specs.Cmp.{nat_cmp_total}
use Rattle.plain_data.specs.Each.{map_enumerated}
use Rattle.pool_types.specs.declared.contents.extension.ExtensionDescriptorInner.{ExtensionDescriptorInner}
use Rattle.pool_types.specs.declared.contents.message.MessageDescriptorInner.{MessageDescriptorInner}
use Rattle.pool_contents.specs.Extended.{LieBefore, NumbersLieBefore, extended_between, extended_by, with_extensions, with_number}
use Rattle.pool_types.specs.Extension.{Indexed, extending}
use Rattle.pool_contents.proofs.Each.{changed-elsewhere, changed-here, each-same, each-still, each-twice, length-each, one, set-each}

-- a message that one more extension extends
abbrev pub with_extension : Indexed → MessageDescriptorInner → MessageDescriptorInner
with_extension e m = with_extensions (e ∷ []) m

abbrev index_of : Indexed → ℕ
index_of e = e.0

abbrev pub pair_of : Indexed → ℕ × ℕ
pair_of e = (e.0, e.1.number)

-- extensions behind others
pub with-more : (es fs : List Indexed) (m : MessageDescriptorInner) → with_extensions fs (with_extensions es m) ≡ with_extensions (es ++ fs) m
with-more es fs m = λ i. record m {
  extensions = (append_assoc m.extensions (map index_of es) (map index_of fs) ∙ ap (λ ns. m.extensions ++ ns) (sym (map-append index_of es fs))) i;
  extension_numbers = (sym (fold-append with_number m.extension_numbers (map pair_of es) (map pair_of fs))
      ∙ ap (fold with_number m.extension_numbers) (sym (map-append pair_of es fs))) i;
}

pub with-none : (m : MessageDescriptorInner) → with_extensions [] m ≡ m
with-none m = λ i. record m { extensions = append-nil m.extensions i }

-- one more extension behind others
enumerated-push : {X : Type 0} (first : ℕ) (xs : List X) (x : X) → enumerate_from first (xs ++ x ∷ []) ≡ enumerate_from first xs ++ (first + length xs, x) ∷ []
enumerated-push first [] x = let here : first ≡ first + 0 = omega arith in ap (λ n. (n, x) ∷ []) here
enumerated-push first (y ∷ ys) x =
    let there : first + 1 + length ys ≡ first + suc (length ys) = omega arith in
    ap (λ es. (first, y) ∷ es) (enumerated-push (first + 1) ys x ∙ ap (λ n. enumerate_from (first + 1) ys ++ (n, x) ∷ []) there)

extending-push : (message first : ℕ) (xs : List ExtensionDescriptorInner) (x : ExtensionDescriptorInner)
    → extending message first (xs ++ x ∷ []) ≡ extending message first xs ++ cond (x.extendee == message) ((first + length xs, x) ∷ []) []
extending-push message first xs x =
    let extends : Indexed → Bool = λ e. e.1.extendee == message in
    ap (filter extends) (enumerated-push first xs x) ∙ filter-append extends (enumerate_from first xs) ((first + length xs, x) ∷ [])

extended-push : (first : ℕ) (xs : List ExtensionDescriptorInner) (x : ExtensionDescriptorInner) (message : ℕ) (m : MessageDescriptorInner)
    → extended_by first (xs ++ x ∷ []) message m ≡ one (with_extension (first + length xs, x)) x.extendee message (extended_by first xs message m)
extended-push first xs x message m =
    let e : Indexed = (first + length xs, x) in
    let es = extending message first xs in
    ap (λ fs. with_extensions fs m) (extending-push message first xs x)
    ∙ sym (with-more es (cond (x.extendee == message) (e ∷ []) []) m)
    ∙ elim (x.extendee == message) as (λ b. (x.extendee == message) ≡ b
    → with_extensions (cond b (e ∷ []) []) (with_extensions es m) ≡ one (with_extension e) x.extendee message (with_extensions es m)) [
      | true ↦ λ is.
          let here : message ≡ x.extendee = grind (arith, nat_tests) in
          sym (changed-here (with_extension e) x.extendee message (with_extensions es m) here)
      | false ↦ λ is.
          with-none (with_extensions es m)
          ∙ sym (changed-elsewhere (with_extension e) x.extendee message (with_extensions es m) (λ same. grind (arith, nat_tests)))
    ] refl

-- one message has one more extension, or there is no such message
pub message-given : (ms : List MessageDescriptorInner) (message : ℕ) (e : Indexed) (was now : MessageDescriptorInner) → message < length ms
    → was ≡ get_or ms message was → now ≡ with_extension e was
    → set ms message now ≡ map_enumerated (one (with_extension e) message) 0 ms
message-given ms message e was now below read given =
    let first : 0 + message ≡ message = omega arith in
    ap (set ms message) (given ∙ ap (with_extension e) read) ∙ set-each (with_extension e) 0 message ms was below
    ∙ ap (λ n. map_enumerated (one (with_extension e) n) 0 ms) first

pub message-missing : (ms : List MessageDescriptorInner) (message : ℕ) (e : Indexed) → length ms ≤ message → ms ≡ map_enumerated (one (with_extension e) message) 0 ms
message-missing ms message e past =
    sym (each-still (one (with_extension e) message) 0 ms (λ n m from to. changed-elsewhere (with_extension e) message n m (λ same. omega (arith, past, to, same))))

-- no extensions leave messages as they are
pub extended-by-none : (first : ℕ) (ms : List MessageDescriptorInner) → map_enumerated (extended_by first []) 0 ms ≡ ms
extended-by-none first ms = each-still (extended_by first []) 0 ms (λ n m from to. with-none m)

module _ (first : ℕ) (xs : List ExtensionDescriptorInner) (ms : List MessageDescriptorInner) where
  -- none by now, and all at the end
  pub extended-none : extended_between first first xs ms ≡ ms
  extended-none = ap (λ es. map_enumerated (extended_by first es) 0 ms) (between_none xs first) ∙ extended-by-none first ms

  pub extended-all : (end : ℕ) → length xs ≤ end → extended_between first end xs ms ≡ map_enumerated (extended_by first (drop first xs)) 0 ms
  extended-all end whole =
      let rest = length-drop first xs in
      ap (λ es. map_enumerated (extended_by first es) 0 ms) (take_all (end - first) (drop first xs) (omega (arith, whole, rest)))

  -- one more extension is put behind the list of its message
  pub extended-next : (k : ℕ) (x : ExtensionDescriptorInner) → first ≤ k → k < length xs → x ≡ get_or xs k x
      → map_enumerated (one (with_extension (k, x)) x.extendee) 0 (extended_between first k xs ms) ≡ extended_between first (k + 1) xs ms
  extended-next k x from below is =
      let earlier = between first k xs in
      let many = length-between xs first k (omega (arith, below)) in
      let last : first + length earlier ≡ k = omega (arith, many, from) in
      let more : between first (k + 1) xs ≡ earlier ++ x ∷ [] = between_more xs first k x from below ∙ ap (λ y. earlier ++ y ∷ []) (sym is) in
      each-twice (one (with_extension (k, x)) x.extendee) (extended_by first earlier) 0 ms
      ∙ each-same (λ n m. one (with_extension (k, x)) x.extendee n (extended_by first earlier n m)) (extended_by first (earlier ++ x ∷ [])) 0 ms
      (λ n m _ _. ap (λ index. one (with_extension (index, x)) x.extendee n (extended_by first earlier n m)) (sym last) ∙ sym (extended-push first earlier x n m))
      ∙ ap (λ es. map_enumerated (extended_by first es) 0 ms) (sym more)

-- the message that an extension extends has it behind its list
pub extended-one : (k : ℕ) (x : ExtensionDescriptorInner) (xs : List ExtensionDescriptorInner) (ms : List MessageDescriptorInner) → k < length xs → x ≡ get_or xs k x
    → map_enumerated (one (with_extension (k, x)) x.extendee) 0 ms ≡ extended_between k (k + 1) xs ms
extended-one k x xs ms below is =
    ap (map_enumerated (one (with_extension (k, x)) x.extendee) 0) (sym (extended-none k xs ms))
    ∙ extended-next k xs ms k x (omega arith) below is

-- and those that extend what came before it
pub extended-more : (first k : ℕ) (xs : List ExtensionDescriptorInner) (ms : List MessageDescriptorInner) → first ≤ k → k < length xs
    → extended_between k (k + 1) xs (extended_between first k xs ms) ≡ extended_between first (k + 1) xs ms
extended-more first k [] ms from below = absurd (omega (arith, below))
extended-more first k (y ∷ ys) ms from below =
    let x = get_or (y ∷ ys) k y in
    let is : x ≡ get_or (y ∷ ys) k x = get_or_default (y ∷ ys) k y x below in
    sym (extended-one k x (y ∷ ys) (extended_between first k (y ∷ ys) ms) below is)
    ∙ extended-next first (y ∷ ys) ms k x from below is

-- the numbers of one of the messages
numbers-at : (end : ℕ) (ms : List MessageDescriptorInner) (n : ℕ) (d : MessageDescriptorInner) → n < length ms → NumbersLieBefore end ms → LieBefore end (get_or ms n d).extension_numbers
numbers-at end [] n d below all = absurd (omega (arith, below))
numbers-at end (m ∷ ms) zero d below all = all.0
numbers-at end (m ∷ ms) (suc n) d below all = numbers-at end ms n d (omega (arith, below)) all.1

-- numbers that lead before an index still do with an earlier extension
number-more : (end : ℕ) (numbers : ByNumber ℕ) (e : ℕ × ℕ) → e.0 < end → LieBefore end numbers → LieBefore end (with_number numbers e)
number-more end numbers e below lie number =
    by (finite.contains_key numbers e.1)
  where
    inserted : (b : Bool) → IfSome (cond b (Some e.0) (finite.get numbers number)) (λ k. k < end)
    inserted true = below
    inserted false = lie number

    by : (b : Bool) → IfSome (finite.get (if b then numbers else finite.insert numbers e.1 e.0) number) (λ k. k < end)
    by true = lie number
    by false = subst (λ got. IfSome got (λ k. k < end)) (sym (finite.get-insert nat_cmp_total numbers e.1 e.0 number)) (inserted (eq_by_cmp nat_cmp number e.1))

pub numbers-more : (end : ℕ) (numbers : ByNumber ℕ) (es : List Indexed) → AllByRecursion (λ e. e.0 < end) es → LieBefore end numbers → LieBefore end (fold with_number numbers (map pair_of es))
numbers-more end numbers [] all lie = lie
numbers-more end numbers (e ∷ es) all lie = numbers-more end (with_number numbers (pair_of e)) es all.1 (number-more end numbers (pair_of e) all.0 lie)

-- the indexes of extensions that extend a message
pub extending-before : (message end first : ℕ) (xs : List ExtensionDescriptorInner) → first + length xs ≤ end → AllByRecursion (λ e. e.0 < end) (extending message first xs)
extending-before message end first [] within = tt
extending-before message end first (x ∷ xs) within =
    let later = extending-before message end (first + 1) xs (omega (arith, within)) in
    elim (x.extendee == message) as (λ b. AllByRecursion (λ (e : Indexed). e.0 < end)
    (cond b ((first, x) ∷ extending message (first + 1) xs) (extending message (first + 1) xs)))
    [ true ↦ (omega (arith, within), later) | false ↦ later ]

lie-later : (end more : ℕ) (numbers : ByNumber ℕ) → end ≤ more → LieBefore end numbers → LieBefore more numbers
lie-later end more numbers le lie number = by (finite.get numbers number) (lie number)
  where
    by : (got : Option ℕ) → IfSome got (λ k. k < end) → IfSome got (λ k. k < more)
    by None below = tt
    by (Some k) below = omega (arith, le, below)

-- the numbers of messages with the extensions up to an index
numbers-each : (first end at : ℕ) (xs : List ExtensionDescriptorInner) (ms : List MessageDescriptorInner) → first + length xs ≤ end
    → NumbersLieBefore first ms → NumbersLieBefore end (map_enumerated (extended_by first xs) at ms)
numbers-each first end at xs [] within all = tt
numbers-each first end at xs (m ∷ ms) within all = (
  numbers-more end m.extension_numbers (extending at first xs) (extending-before at end first xs within)
      (lie-later first end m.extension_numbers (omega (arith, within)) all.0),
  numbers-each first end (suc at) xs ms within all.1,
)

pub numbers-between : (first k : ℕ) (xs : List ExtensionDescriptorInner) (ms : List MessageDescriptorInner) → first ≤ k → k ≤ length xs
    → NumbersLieBefore first ms → NumbersLieBefore k (extended_between first k xs ms)
numbers-between first k xs ms from within all =
    numbers-each first k 0 (between first k xs) ms (let many = length-between xs first k within in omega (arith, many, from)) all

eq_by_cmp-refl : (n : ℕ) → eq_by_cmp nat_cmp n n ≡ true
eq_by_cmp-refl n = grind (arith, nat_tests)

-- a number that an extension has taken is free again, and one that it hasn't is as it was
module _ (was old : ByNumber ℕ) (index number : ℕ) (before : LieBefore index was) (is : old ≡ with_number was (index, number)) where
  abbrev chosen : Bool → ByNumber ℕ
  chosen b = if b then was else finite.insert was number index

  absent : (got : Option ℕ) → is_some got ≡ false → got ≡ None
  absent None none = refl
  absent (Some k) none = absurd (cc)

  pub number-freed : finite.get old number ≡ Some index → finite.remove old number ≡ was
  number-freed holds = by (finite.contains_key was number) refl
    where
      by : (b : Bool) → finite.contains_key was number ≡ b → finite.remove old number ≡ was
      by true has =
          let same : old ≡ was = is ∙ ap chosen has in
          let below : index < index = subst (λ got. IfSome got (λ e. e < index)) (sym (ap (λ m. finite.get m number) same) ∙ holds) (before number) in
          absurd (omega (arith, below))
      by false lacks =
          let grown : old ≡ finite.insert was number index = is ∙ ap chosen lacks in
          let none : finite.get was number ≡ None = absent (finite.get was number) lacks in
          finite.same_map nat_cmp_total finite.nat_cmp-IsAntisymmetric (finite.remove old number) was (λ q.
          ap (λ m. finite.get (finite.remove m number) q) grown ∙ finite.get-remove nat_cmp_total (finite.insert was number index) number q
          ∙ elim (eq_by_cmp nat_cmp q number) as (λ b. eq_by_cmp nat_cmp q number ≡ b → cond b None (finite.get (finite.insert was number index) q) ≡ finite.get was q) [
            | true ↦ λ e. let here : q ≡ number = grind (arith, nat_tests, e) in sym (ap (finite.get was) here ∙ none)
            | false ↦ λ e. finite.get-insert nat_cmp_total was number index q ∙ ap (λ b. cond b (Some index) (finite.get was q)) e
          ] refl)

  pub number-kept : finite.get old number ≢ Some index → old ≡ was
  number-kept other = by (finite.contains_key was number) refl
    where
      by : (b : Bool) → finite.contains_key was number ≡ b → old ≡ was
      by true has = is ∙ ap chosen has
      by false lacks =
          let grown : old ≡ finite.insert was number index = is ∙ ap chosen lacks in
          absurd (other (ap (λ m. finite.get m number) grown ∙ finite.get-insert nat_cmp_total was number index number
          ∙ ap (λ b. cond b (Some index) (finite.get was number)) (eq_by_cmp-refl number)))

some-last : (xs : List ℕ) (x : ℕ) → xs ++ x ∷ [] ≡ [] → ⊥
some-last [] x none = absurd (cc)
some-last (y ∷ ys) x none = absurd (cc)

-- a message without its last extension
pub message-back : (old was : MessageDescriptorInner) (e : Indexed) (popped : Option ℕ) (es : List ℕ) (ns : ByNumber ℕ)
    → MatchOption popped ((old.extensions ≡ []) × (es ≡ [])) (λ last. old.extensions ≡ es ++ last ∷ [])
    → ns ≡ was.extension_numbers → old ≡ with_extension e was → record old { extensions = es; extension_numbers = ns } ≡ was
message-back old was e popped es ns pop numbers is =
    let listed : old.extensions ≡ was.extensions ++ e.0 ∷ [] = ap (λ (m : MessageDescriptorInner). m.extensions) is in
    (λ i. record (is i) { extensions = front popped pop listed i; extension_numbers = numbers i })
  where
    front : (o : Option ℕ) → MatchOption o ((old.extensions ≡ []) × (es ≡ [])) (λ last. old.extensions ≡ es ++ last ∷ [])
        → old.extensions ≡ was.extensions ++ e.0 ∷ [] → es ≡ was.extensions
    front None none listed = absurd (some-last was.extensions e.0 (sym listed ∙ none.0))
    front (Some last) popped listed = (same_from_push es was.extensions last e.0 (sym popped ∙ listed)).0

-- a message whose extension is taken away again
pub retracted-here : (held ms : List MessageDescriptorInner) (xs : List ExtensionDescriptorInner) (k : ℕ) (x : ExtensionDescriptorInner) (was now : MessageDescriptorInner)
    → x.extendee < length held → was ≡ get_or held x.extendee was → k < length xs → x ≡ get_or xs k x
    → ((m : MessageDescriptorInner) → LieBefore k m.extension_numbers → was ≡ with_extension (k, x) m → now ≡ m)
    → NumbersLieBefore k ms → held ≡ extended_between k (k + 1) xs ms → set held x.extendee now ≡ ms
retracted-here held ms xs k x was now below read there is back numbers made =
    let change = one (with_extension (k, x)) x.extendee in
    let own = get_or ms x.extendee was in
    let one_more : held ≡ map_enumerated change 0 ms = made ∙ sym (extended-one k x xs ms there is) in
    let many : length held ≡ length ms = ap length one_more ∙ length-each change 0 ms in
    let inside : x.extendee < length ms = omega (arith, below, many) in
    let first : 0 + x.extendee ≡ x.extendee = omega arith in
    let given : map_enumerated change 0 ms ≡ set ms x.extendee (with_extension (k, x) own) =
    sym (set-each (with_extension (k, x)) 0 x.extendee ms was inside ∙ ap (λ n. map_enumerated (one (with_extension (k, x)) n) 0 ms) first) in
    let had : was ≡ with_extension (k, x) own =
    read ∙ ap (λ ys. get_or ys x.extendee was) (one_more ∙ given) ∙ get_or-set_same ms x.extendee (with_extension (k, x) own) was inside in
    let has = back own (numbers-at k ms x.extendee was inside numbers) had in
    (λ i. set ((one_more ∙ given) i) x.extendee (has i)) ∙ set-set ms x.extendee (with_extension (k, x) own) own ∙ set-get_or ms x.extendee was

-- there is no such message
pub retracted-nowhere : (held ms : List MessageDescriptorInner) (xs : List ExtensionDescriptorInner) (k : ℕ) (x : ExtensionDescriptorInner)
    → length held ≤ x.extendee → k < length xs → x ≡ get_or xs k x → held ≡ extended_between k (k + 1) xs ms → held ≡ ms
retracted-nowhere held ms xs k x past there is made =
    let change = one (with_extension (k, x)) x.extendee in
    let one_more : held ≡ map_enumerated change 0 ms = made ∙ sym (extended-one k x xs ms there is) in
    let many : length held ≡ length ms = ap length one_more ∙ length-each change 0 ms in
    one_more ∙ sym (message-missing ms x.extendee (k, x) (omega (arith, past, many)))

-- no extensions lie between an index and an earlier one
pub extended-past : (first end : ℕ) (xs : List ExtensionDescriptorInner) (ms : List MessageDescriptorInner) → end ≤ first → extended_between first end xs ms ≡ ms
extended-past first end xs ms past =
    let none : end - first ≡ 0 = omega (arith, past) in
    ap (λ n. map_enumerated (extended_by first (take n (drop first xs))) 0 ms) none ∙ extended-by-none first ms
