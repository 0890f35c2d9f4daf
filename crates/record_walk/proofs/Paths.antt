-- The path of each declaration of files leads to its record, in the file with its index.
use Rattle.std.proofs.Common.{◌≡◌, ℕ, suc, ◌-◌, ◌≤◌, nat_le, Bool, true, false, Option, Some, None, List, [], ◌∷◌, slice_get, slice_index_or, cond, refl, ap, sym, ◌∙◌, arith}
use Rattle.std.specs.List.{All}
use Rattle.std.specs.Option.{option_and_then}
use Rattle.std.proofs.lemmas.Bool.Decides.{nat_tests}
use Rattle.std.proofs.lemmas.List.Elements.{All-nil, All-head, All-tail, All-append, All-weaker}
use Rattle.proto_types.specs.declared.file.FileDescriptorProto.{FileDescriptorProto}
use Rattle.record_walk.specs.declared.counts.Counts.{Counts}
use Rattle.record_walk.specs.Protos.{Proto, of_file, of_message, of_field, of_oneof, of_service, of_method, of_enum, of_value, of_extension}
use Rattle.record_walk.specs.Shown.{Shown}
use Rattle.record_walk.specs.Counts.{counted, counting}
use Rattle.record_walk.specs.Declarations.{file_walk, declarations}
use Rattle.record_walk.specs.Walking.{within_file}
use Rattle.record_walk.specs.Leads.{leads, file_with, PathsLeadIn}
use Rattle.record_walk.proofs.Leading.{paths-lead}
use Rattle.record_walk.proofs.Walks.{IsInside, within-all, file-all}

-- what stands in files adds none to their count
files-keep-one : (c : Counts) (p : Proto) → IsInside p → (counting c p).files ≡ c.files
files-keep-one c (of_file f) inside = absurd inside
files-keep-one c (of_message m) inside = refl
files-keep-one c (of_field f) inside = refl
files-keep-one c (of_oneof o) inside = refl
files-keep-one c (of_service s) inside = refl
files-keep-one c (of_method m) inside = refl
files-keep-one c (of_enum e) inside = refl
files-keep-one c (of_value v) inside = refl
files-keep-one c (of_extension x) inside = refl

files-keep : (c : Counts) (ds : List Shown) → All (λ d. IsInside d.proto) ds → (counted c ds).files ≡ c.files
files-keep c [] all = refl
files-keep c (d ∷ ds) all =
    files-keep (counting c d.proto) ds (All-tail (λ e. IsInside e.proto) d ds all)
    ∙ files-keep-one c d.proto (All-head (λ e. IsInside e.proto) d ds all)

-- a file and what it declares are one file
pub one-file : (base : Counts) (f : FileDescriptorProto) → (counted base (file_walk base f)).files ≡ suc base.files
one-file base f =
    files-keep (counting base (of_file f)) (within_file base.files base f)
    (within-all (λ d. IsInside d.proto) (λ _. Unit {0}) (λ here tag position index proto inside _. inside) (λ here tag position index proto _. tt) (λ here tag position index proto _. tt) base f tt)

-- the first of files has the index that counts give, and each other is one of the files behind it
first-with : (base : Counts) (f : FileDescriptorProto) (fs : List FileDescriptorProto) (index : ℕ) → index ≡ base.files → file_with base (f ∷ fs) index ≡ Some f
first-with base f fs index is =
    let reached : nat_le base.files index ≡ true = grind (arith, nat_tests) in
    let none : index - base.files ≡ 0 = omega arith in
    ap (λ b. cond b (slice_get (f ∷ fs) (index - base.files)) None) reached ∙ ap (slice_get (f ∷ fs)) none

later-with : (base next : Counts) (f : FileDescriptorProto) (fs : List FileDescriptorProto) (index : ℕ) → next.files ≡ suc base.files → next.files ≤ index
    → file_with next fs index ≡ file_with base (f ∷ fs) index
later-with base next f fs index one within =
    let reached : nat_le next.files index ≡ true = grind (arith, nat_tests) in
    let reached_before : nat_le base.files index ≡ true = grind (arith, nat_tests) in
    let one_less : index - base.files ≡ suc (index - next.files) = omega arith in
    ap (λ b. cond b (slice_get fs (index - next.files)) None) reached
    ∙ sym (ap (slice_get (f ∷ fs)) one_less)
    ∙ sym (ap (λ b. cond b (slice_get (f ∷ fs) (index - base.files)) None) reached_before)

-- where a path leads, in the file with an index
abbrev there : Counts → List FileDescriptorProto → Shown → Option Proto
there base fs d = option_and_then (λ f. leads f d.path) (file_with base fs d.file)

-- what leads somewhere among the files behind the first leads there among all
leads-by : (base next : Counts) (f : FileDescriptorProto) (fs : List FileDescriptorProto) (d : Shown) → next.files ≡ suc base.files
    → (b : Bool) → nat_le next.files d.file ≡ b → option_and_then (λ g. leads g d.path) (cond b (slice_get fs (d.file - next.files)) None) ≡ Some d.proto
    → there base (f ∷ fs) d ≡ Some d.proto
leads-by base next f fs d one true reached known =
    let within : next.files ≤ d.file = grind (arith, nat_tests) in
    ap (option_and_then (λ g. leads g d.path)) (sym (later-with base next f fs d.file one within)
    ∙ ap (λ b. cond b (slice_get fs (d.file - next.files)) None) reached) ∙ known
leads-by base next f fs d one false reached known = absurd (cc)

leads-later : (base next : Counts) (f : FileDescriptorProto) (fs : List FileDescriptorProto) (d : Shown) → next.files ≡ suc base.files
    → there next fs d ≡ Some d.proto → there base (f ∷ fs) d ≡ Some d.proto
leads-later base next f fs d one known = leads-by base next f fs d one (nat_le next.files d.file) refl known

-- each declaration of the first file stands in it
stands-first : (base : Counts) (f : FileDescriptorProto) → All (λ d. d.file ≡ base.files) (file_walk base f)
stands-first base f =
    file-all (λ d. d.file ≡ base.files) (λ here. here.file ≡ base.files) (λ here tag position index proto _ stands. stands)
    (λ here tag position index proto stands. stands) (λ here tag position index proto stands. stands) base f refl refl

leads-first : (base : Counts) (f : FileDescriptorProto) (fs : List FileDescriptorProto) → All (λ d. there base (f ∷ fs) d ≡ Some d.proto) (file_walk base f)
leads-first base f fs k d below =
    let e = slice_index_or (file_walk base f) k d in
    ap (option_and_then (λ g. leads g e.path)) (first-with base f fs e.file (stands-first base f k d below)) ∙ paths-lead base f k d below

-- files, one after another
pub paths-lead-in : (base : Counts) (fs : List FileDescriptorProto) → PathsLeadIn base fs
paths-lead-in base [] = All-nil (λ d. there base [] d ≡ Some d.proto)
paths-lead-in base (f ∷ fs) =
    let first = file_walk base f in
    let next = counted base first in
    let Leads = λ (d : Shown). there base (f ∷ fs) d ≡ Some d.proto in
    All-append Leads first (declarations next fs) (leads-first base f fs)
    (All-weaker (λ d. there next fs d ≡ Some d.proto) Leads (λ d. leads-later base next f fs d (one-file base f)) (declarations next fs) (paths-lead-in next fs))
