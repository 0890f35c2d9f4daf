-- The full name of each declaration ends with the name in its record.
use Rattle.std.proofs.Common.{◌≡◌, ℕ, true, IsOk, List, [], ◌∷◌, ◌++◌, refl, sym, append_assoc}
use Rattle.std.specs.List.{All, AllByRecursion, list_all}
use Rattle.std.proofs.lemmas.List.Elements.{All-nil, All-append, recursion_from_All}
use Rattle.proto_types.specs.declared.file.FileDescriptorProto.{FileDescriptorProto}
use Rattle.proto_types.specs.Names.{join}
use Rattle.record_walk.specs.declared.counts.Counts.{Counts}
use Rattle.record_walk.specs.Counts.{counted, lists_fit}
use Rattle.record_walk.specs.Fits.{counts_with}
use Rattle.record_walk.specs.Shown.{Shown}
use Rattle.record_walk.specs.Declarations.{declarations, file_walk}
use Rattle.record_walk.specs.FullNames.{EndsWith, EndsWithName, CanBeRead}
use Rattle.record_walk.specs.Protos.{name_of}
use Rattle.record_walk.proofs.Listings.{first-true, second-true}
use Rattle.record_walk.proofs.Room.{room-fits}
use Rattle.record_walk.proofs.Walks.{file-all}

pub join-ends : (scope name : List ℕ) → EndsWith (join scope name) name
join-ends [] name = ([], refl)
join-ends (c ∷ cs) name = ((c ∷ cs) ++ 46 ∷ [], sym (append_assoc (c ∷ cs) (46 ∷ []) name))

all-end : (base : Counts) (fs : List FileDescriptorProto) → All EndsWithName (declarations base fs)
all-end base [] = All-nil EndsWithName
all-end base (f ∷ fs) =
    let first = file_walk base f in
    All-append EndsWithName first (declarations (counted base first) fs)
    (file-all EndsWithName (λ _. Unit {0}) (λ here tag position index proto _ q. join-ends here.scope (name_of proto)) (λ _ _ _ _ _ _. tt) (λ _ _ _ _ _ _. tt)
    base f ([], refl) tt)
    (all-end (counted base first) fs)

read-each : (ds : List Shown) → AllByRecursion EndsWithName ds → list_all (λ d. lists_fit d.proto) ds ≡ true → CanBeRead ds
read-each [] ends short = tt
read-each (d ∷ ds) ends short =
    let rest = list_all (λ e. lists_fit e.proto) ds in
    ((ends.0, first-true (lists_fit d.proto) rest short), read-each ds ends.1 (second-true (lists_fit d.proto) rest short))

-- the declarations of files that fit can be read
pub declarations-read : (base : Counts) (fs : List FileDescriptorProto) → IsOk (counts_with base fs) → CanBeRead (declarations base fs)
declarations-read base fs ok =
    let ds = declarations base fs in read-each ds (recursion_from_All EndsWithName ds (all-end base fs)) (room-fits base fs ok).short
