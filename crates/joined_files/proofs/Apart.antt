-- Files are joined as they are apart from their places.
use Rattle.std.proofs.Common.{◌≡◌, ℕ, Bool, true, false, cond, List, [], ◌∷◌, ◌++◌, Option, None, Some, fold, map, refl, sym, ap, ◌∙◌}
use Rattle.std.specs.List.{find}
use Rattle.std.specs.Prelude.{is_some}
use Rattle.joined_files.specs.Apart.{apart_from_places}
use Rattle.joined_files.specs.Differences.{difference}
use Rattle.joined_files.specs.Joining.{JoinedApartFromPlaces, Joined, apart_in_set, apart_joined, is_named, join, joined, kept, kept_by, name_in, none_joined, unequal_by, unequal_file, unequal_to}
use Rattle.joined_files.specs.Words.{name_of, part_path, words_with, word_of, position_of}
use Rattle.joined_files.specs.declared.differences.FilePart.{FilePart}
use Rattle.joined_files.specs.declared.differences.FilePart.TheVariants as part
use Rattle.joined_files.specs.declared.unequal.SetFile.{SetFile}
use Rattle.joined_files.proofs.Exactness.{differences-exact}
use Rattle.proto_types.specs.declared.file.FileDescriptorProto.{FileDescriptorProto}

-- what differs is not read of the places
differs-apart : (f g : FileDescriptorProto) → difference (apart_from_places f) (apart_from_places g) ≡ difference f g
unfolding difference
differs-apart f g = refl

-- nor are names
named-apart : (f g : FileDescriptorProto) (p : FilePart) → name_of (apart_from_places f) (apart_from_places g) p ≡ name_of f g p
named-apart f g part.Name = refl
named-apart f g part.Package = refl
named-apart f g (part.Import at) = refl
named-apart f g (part.Message at) = refl
named-apart f g (part.Enum at) = refl
named-apart f g (part.Service at) = refl
named-apart f g (part.Extension at) = refl
named-apart f g part.Options = refl
named-apart f g (part.PublicImport at) = refl
named-apart f g (part.WeakImport at) = refl
named-apart f g part.Syntax = refl

told-apart : (first f : SetFile) (p : FilePart) → unequal_file (apart_in_set first) (apart_in_set f) p ≡ unequal_file first f p
told-apart first f p i = record {
  name = name_in f;
  first = first.set;
  further = f.set;
  path = part_path p;
  part = words_with (word_of p) (position_of p) (named-apart first.file f.file p i);
}

-- what is told of a further file
unequal-apart-by : (d : Option FilePart) (first f : SetFile) → unequal_by d (apart_in_set first) (apart_in_set f) ≡ unequal_by d first f
unequal-apart-by None first f = refl
unequal-apart-by (Some p) first f = ap (λ u. u ∷ []) (told-apart first f p)

unequal-apart : (first f : SetFile) → unequal_by (difference (apart_from_places first.file) (apart_from_places f.file)) (apart_in_set first) (apart_in_set f)
    ≡ unequal_by (difference first.file f.file) first f
unequal-apart first f =
    ap (λ d. unequal_by d (apart_in_set first) (apart_in_set f)) (differs-apart first.file f.file) ∙ unequal-apart-by (difference first.file f.file) first f

-- the first file of a name
find-apart : (name : List ℕ) (fs : List SetFile) (f : SetFile) → unequal_to (find (is_named name) (map apart_in_set fs)) (apart_in_set f) ≡ unequal_to (find (is_named name) fs) f
find-apart name [] f = refl
find-apart name (g ∷ gs) f =
    elim (is_named name g) as (λ b. unequal_to (cond b (Some (apart_in_set g)) (find (is_named name) (map apart_in_set gs))) (apart_in_set f) ≡ unequal_to (cond b (Some g) (find (is_named name) gs)) f)
    [ true ↦ unequal-apart g f | false ↦ find-apart name gs f ]

-- one of two files that are equal apart from their places
placed-apart : (b : Bool) (f g : FileDescriptorProto) → apart_from_places f ≡ apart_from_places g → apart_from_places g ≡ apart_from_places (cond b f g)
placed-apart true f g same = sym same
placed-apart false f g same = refl

kept-apart-by : (first f : SetFile) (d : Option FilePart) → difference first.file f.file ≡ d → kept_by d (apart_in_set first) (apart_in_set f) ≡ apart_in_set (kept_by d first f)
kept-apart-by first f None none =
    ap (λ (file : FileDescriptorProto). record { set = first.set; file = file })
    (placed-apart (is_some first.file.source_code_info) first.file f.file ((differences-exact first.file f.file).0 none))
kept-apart-by first f (Some p) some = refl

kept-apart : (first f : SetFile) → kept (apart_in_set first) (apart_in_set f) ≡ apart_in_set (kept first f)
kept-apart first f =
    ap (λ d. kept_by d (apart_in_set first) (apart_in_set f)) (differs-apart first.file f.file) ∙ kept-apart-by first f (difference first.file f.file) refl

join-apart : (fs : List SetFile) (f : SetFile) → join (map apart_in_set fs) (apart_in_set f) ≡ map apart_in_set (join fs f)
join-apart [] f = refl
join-apart (g ∷ gs) f =
    elim (is_named (name_in f) g) as (λ b. cond b (kept (apart_in_set g) (apart_in_set f) ∷ map apart_in_set gs) (apart_in_set g ∷ join (map apart_in_set gs) (apart_in_set f))
    ≡ map apart_in_set (cond b (kept g f ∷ gs) (g ∷ join gs f)))
    [ true ↦ ap (λ k. k ∷ map apart_in_set gs) (kept-apart g f) | false ↦ ap (λ fs. apart_in_set g ∷ fs) (join-apart gs f) ]

step-apart : (j : Joined) (f : SetFile) → joined (apart_joined j) (apart_in_set f) ≡ apart_joined (joined j f)
step-apart j f i = record { files = join-apart j.files f i; unequal = j.unequal ++ find-apart (name_in f) j.files f i }

all-apart : (j : Joined) (fs : List SetFile) → apart_joined (fold joined j fs) ≡ fold joined (apart_joined j) (map apart_in_set fs)
all-apart j [] = refl
all-apart j (f ∷ fs) = all-apart (joined j f) fs ∙ ap (λ k. fold joined k (map apart_in_set fs)) (sym (step-apart j f))

pub joined-apart : JoinedApartFromPlaces
joined-apart fs gs same = all-apart none_joined fs ∙ ap (fold joined none_joined) same ∙ sym (all-apart none_joined gs)
