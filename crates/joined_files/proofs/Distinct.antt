-- Files of which no two have one name: each stands behind those before it.
use Rattle.std.proofs.Common.{◌≡◌, ℕ, ◌+◌, cond, false, List, [], ◌∷◌, ◌++◌, None, Some, fold, map, refl, sym, ap, subst, ◌∙◌, append_assoc, append-nil}
use Rattle.std.proofs.lemmas.List.{map-append}
use Rattle.std.specs.Cmp.Lexicographic.{nat_list_eq_equiv}
use Rattle.std.specs.List.{AllByRecursion, IsDistinct, position_from}
use Rattle.std.specs.Str.{bytes_eq}
use Rattle.plain_data.proofs.Distinct.{apart-before}
use Rattle.joined_files.specs.Joining.{Joined, is_named, joined, joined_all, name_in}
use Rattle.joined_files.specs.declared.unequal.SetFile.{SetFile}
use Rattle.joined_files.proofs.Joins.{join-none, told-none}

-- files that were joined, of which none is told
abbrev untold : List SetFile → Joined
untold fs = record { files = fs; unequal = [] }

-- none of some files has a name
none-named : (name : List ℕ) (i : ℕ) (fs : List SetFile) → AllByRecursion (λ k. bytes_eq name k ≡ false) (map name_in fs) → position_from (is_named name) i fs ≡ None
none-named name i [] apart = refl
none-named name i (f ∷ fs) apart =
    ap (λ b. cond b (Some i) (position_from (is_named name) (i + 1) fs)) (nat_list_eq_equiv.symm (name_in f) name ∙ apart.0)
    ∙ none-named name (i + 1) fs apart.1

joined-behind : (before fs : List SetFile) → IsDistinct bytes_eq (map name_in (before ++ fs)) → fold joined (untold before) fs ≡ untold (before ++ fs)
joined-behind before [] apart = ap untold (sym (append-nil before))
joined-behind before (f ∷ fs) apart =
    let none = none-named (name_in f) 0 before (apart-before (map name_in before) (map name_in fs) (name_in f) (subst (IsDistinct bytes_eq) (map-append name_in before (f ∷ fs)) apart)) in
    let step : joined (untold before) f ≡ untold (before ++ f ∷ []) = λ i. record { files = sym (join-none f 0 before none) i; unequal = sym (told-none f before none) i } in
    ap (λ j. fold joined j fs) step
    ∙ joined-behind (before ++ f ∷ []) fs (subst (λ gs. IsDistinct bytes_eq (map name_in gs)) (sym (append_assoc before (f ∷ []) fs)) apart)
    ∙ ap untold (append_assoc before (f ∷ []) fs)

-- so all are in the batch, in order, and none is told
pub joined-distinct : (fs : List SetFile) → IsDistinct bytes_eq (map name_in fs) → joined_all fs ≡ untold fs
joined-distinct fs apart = joined-behind [] fs apart
