-- Records that are moved from one list into another, and back, one after another.
use Rattle.std.proofs.Common.{◌≡◌, ℕ, ◌+◌, ◌<◌, List, [], ◌∷◌, ◌++◌, length, map, take, drop, set, get_or, ap, sym, ◌∙◌, arith, append_assoc}
use Rattle.std.proofs.Math.ListN.{get_or-map}
use Rattle.std.proofs.lemmas.List.{drop-drop, drop-set-add, drop-set-lt, get_or-drop, map-append, map-set, take_more, take_more_set}
use Rattle.pool_types.specs.declared.contents.file.FileDescriptorInner.{FileDescriptorInner}
use Rattle.proto_types.specs.declared.file.FileDescriptorProto.{FileDescriptorProto}
use Rattle.pool_contents.specs.Growing.{records_from}
use Rattle.pool_contents.specs.Unlinked.{unlinked}

-- the entry at a position, where two lists are one from there on
pub same-here : {X : Type 0} (k : ℕ) (xs ys : List X) (d : X) → drop k xs ≡ drop k ys → get_or xs k d ≡ get_or ys k d
same-here k xs ys d left =
    let here : k + 0 ≡ k = omega arith in
    ap (λ n. get_or xs n d) (sym here) ∙ sym (get_or-drop k xs 0 d) ∙ ap (λ zs. get_or zs 0 d) left ∙ get_or-drop k ys 0 d ∙ ap (λ n. get_or ys n d) here

-- they are one from the next position on, whatever is put there
pub left-more : {X : Type 0} (k : ℕ) (xs ys : List X) (x : X) → drop k xs ≡ drop k ys → drop (k + 1) (set xs k x) ≡ drop (k + 1) ys
left-more k xs ys x left = drop-set-lt (k + 1) xs k x (omega arith) ∙ sym (drop-drop 1 k xs) ∙ ap (drop 1) left ∙ drop-drop 1 k ys

-- one more file is put behind others
pub added-more : (fs : List FileDescriptorInner) (now new : List FileDescriptorProto) (k : ℕ) (file d : FileDescriptorProto) → k < length new
    → drop k now ≡ drop k new → file ≡ get_or now k d → (fs ++ map unlinked (take k new)) ++ unlinked file ∷ [] ≡ fs ++ map unlinked (take (k + 1) new)
added-more fs now new k file d below left is =
    append_assoc fs (map unlinked (take k new)) (unlinked file ∷ [])
    ∙ ap (λ gs. fs ++ gs) (sym (map-append unlinked (take k new) (file ∷ []))
    ∙ ap (map unlinked) (ap (λ f. take k new ++ f ∷ []) (is ∙ same-here k now new d left) ∙ sym (take_more new k d below)))

-- the record of a file that came, by its position among these
pub record-at : (first k : ℕ) (fs : List FileDescriptorInner) (d : FileDescriptorInner) → get_or (records_from first fs) k d.raw ≡ (get_or fs (first + k) d).raw
record-at first k fs d = get_or-map (λ f. f.raw) (drop first fs) k d ∙ ap (λ (f : FileDescriptorInner). f.raw) (get_or-drop first fs k d)

-- the records, where another is put at one position
pub records-set : (first k : ℕ) (fs : List FileDescriptorInner) (x : FileDescriptorInner) → records_from first (set fs (first + k) x) ≡ set (records_from first fs) k x.raw
records-set first k fs x = ap (map (λ f. f.raw)) (drop-set-add first fs k x) ∙ map-set (λ f. f.raw) (drop first fs) k x

-- one more record is given back
pub given-more : (now all : List FileDescriptorProto) (k : ℕ) (v d : FileDescriptorProto) → k < length now → k < length all → take k now ≡ take k all → v ≡ get_or all k d
    → take (k + 1) (set now k v) ≡ take (k + 1) all
given-more now all k v d here there so-far is =
    take_more_set now k v here ∙ (λ i. so-far i ++ is i ∷ []) ∙ sym (take_more all k d there)
