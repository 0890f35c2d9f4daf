-- That there is room for what is left.
use Rattle.std.proofs.Common.{Result, Ok, Err, OnOk, ◌≡◌, ℕ, suc, ◌+◌, ◌<◌, ◌≤◌, Bool, true, false, ◌&&◌, List, [], ◌∷◌, ◌++◌, length, drop, get_or, refl, ap, sym, subst, ◌∙◌, arith, add-one}
use Rattle.std.proofs.Math.Seq.{drop-cons}
use Rattle.std.specs.List.{list_all}
use Rattle.std.specs.Result.{is_err}
use Rattle.record_walk.specs.declared.counts.Counts.{Counts}
use Rattle.record_walk.specs.Protos.{Proto, of_file, of_message, of_field, of_oneof, of_service, of_method, of_enum, of_value, of_extension}
use Rattle.record_walk.specs.Shown.{Shown}
use Rattle.record_walk.specs.Counts.{counted, counting, lists_fit}
use Rattle.record_walk.specs.Walking.{WithinLimits, Room}
use Rattle.record_walk.proofs.Counted.{counted-append}

pub first-true : (b c : Bool) → (b && c) ≡ true → b ≡ true
first-true true c h = refl
first-true false c h = h

pub second-true : (b c : Bool) → (b && c) ≡ true → c ≡ true
second-true true c h = h
second-true false c h = absurd (cc)

all-front : (ds es : List Shown) → list_all (λ d. lists_fit d.proto) (ds ++ es) ≡ true → list_all (λ d. lists_fit d.proto) ds ≡ true
all-front [] es h = refl
all-front (d ∷ ds) es h = λ i. first-true (lists_fit d.proto) (list_all (λ d. lists_fit d.proto) (ds ++ es)) h i
    && all-front ds es (second-true (lists_fit d.proto) (list_all (λ d. lists_fit d.proto) (ds ++ es)) h) i

all-back : (ds es : List Shown) → list_all (λ d. lists_fit d.proto) (ds ++ es) ≡ true → list_all (λ d. lists_fit d.proto) es ≡ true
all-back [] es h = h
all-back (d ∷ ds) es h = all-back ds es (second-true (lists_fit d.proto) (list_all (λ d. lists_fit d.proto) (ds ++ es)) h)

record AtMost (a b : Counts) : Type 0 where
  files : a.files ≤ b.files
  messages : a.messages ≤ b.messages
  enums : a.enums ≤ b.enums
  services : a.services ≤ b.services
  extensions : a.extensions ≤ b.extensions

one-grows : (c : Counts) (p : Proto) → AtMost c (counting c p)
one-grows c (of_file f) = record { files = omega arith; messages = omega arith; enums = omega arith; services = omega arith; extensions = omega arith }
one-grows c (of_message m) = record { files = omega arith; messages = omega arith; enums = omega arith; services = omega arith; extensions = omega arith }
one-grows c (of_enum e) = record { files = omega arith; messages = omega arith; enums = omega arith; services = omega arith; extensions = omega arith }
one-grows c (of_service s) = record { files = omega arith; messages = omega arith; enums = omega arith; services = omega arith; extensions = omega arith }
one-grows c (of_extension x) = record { files = omega arith; messages = omega arith; enums = omega arith; services = omega arith; extensions = omega arith }
one-grows c (of_field f) = record { files = omega arith; messages = omega arith; enums = omega arith; services = omega arith; extensions = omega arith }
one-grows c (of_oneof o) = record { files = omega arith; messages = omega arith; enums = omega arith; services = omega arith; extensions = omega arith }
one-grows c (of_method m) = record { files = omega arith; messages = omega arith; enums = omega arith; services = omega arith; extensions = omega arith }
one-grows c (of_value v) = record { files = omega arith; messages = omega arith; enums = omega arith; services = omega arith; extensions = omega arith }

counted-grows : (c : Counts) (ds : List Shown) → AtMost c (counted c ds)
counted-grows c [] = record { files = omega arith; messages = omega arith; enums = omega arith; services = omega arith; extensions = omega arith }
counted-grows c (d ∷ ds) =
    let one = one-grows c d.proto in
    let more = counted-grows (counting c d.proto) ds in
    record {
      files = omega (arith, one.files, more.files);
      messages = omega (arith, one.messages, more.messages);
      enums = omega (arith, one.enums, more.enums);
      services = omega (arith, one.services, more.services);
      extensions = omega (arith, one.extensions, more.extensions);
    }

within-below : {a b : Counts} → AtMost a b → WithinLimits b → WithinLimits a
within-below {a} {b} less within = record {
  files = omega (arith, less.files, within.files);
  messages = omega (arith, less.messages, within.messages);
  enums = omega (arith, less.enums, within.enums);
  services = omega (arith, less.services, within.services);
  extensions = omega (arith, less.extensions, within.extensions);
}

-- the counts so far are within the limits
pub within-now : {c : Counts} {ds : List Shown} → Room c ds → WithinLimits c
within-now {c} {ds} room = within-below (counted-grows c ds) room.within

-- where there is room for two lists in a row, there is room for the first, and then for the second
pub room-front : {c : Counts} (ds es : List Shown) → Room c (ds ++ es) → Room c ds
room-front {c} ds es room = record {
  short = all-front ds es room.short;
  within = within-below (counted-grows (counted c ds) es) (subst WithinLimits (counted-append c ds es) room.within);
}

pub room-back : {c : Counts} (ds es : List Shown) → Room c (ds ++ es) → Room (counted c ds) es
room-back {c} ds es room = record {
  short = all-back ds es room.short;
  within = subst WithinLimits (counted-append c ds es) room.within;
}

-- what holds of the answer's value, in other words
pub on-ok : {A E P Q : Type 0} (r : Result A E) → (P → Q) → OnOk r P → OnOk r Q
on-ok (Ok x) f p = f p
on-ok (Err e) f p = tt

-- what holds where no error came
pub after-ok : {A E P : Type 0} (r : Result A E) → false ≡ is_err r → OnOk r P → P
after-ok (Ok x) well p = p
after-ok (Err e) well p = absurd (cc)

-- what is left of a list begins with the item at the position
pub next : {X : Type 0} (xs : List X) (i : ℕ) (x : X) → i < length xs → x ≡ get_or xs i x → drop i xs ≡ x ∷ drop (i + 1) xs
next xs i x within is = rw add-one (drop-cons xs i x within ∙ ap (λ y. y ∷ drop (suc i) xs) (sym is))

-- the counts after the first of what there is room for are within the limits
pub within-first : {c : Counts} {d : Shown} {ds : List Shown} → Room c (d ∷ ds) → WithinLimits (counting c d.proto)
within-first {c} {d} {ds} room = within-below (counted-grows (counting c d.proto) ds) room.within
