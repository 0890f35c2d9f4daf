-- The scopes around a scope, by its last dot.
use Rattle.std.proofs.Common.{◌≡◌, ◌≢◌, ◌<◌, ◌+◌, arith, ℕ, suc, one-add, true, false, cond, eqb, List, [], ◌∷◌, ◌++◌, length, get_or, map, reverse, refl, ap, sym, subst, ◌∙◌}
use Rattle.std.specs.List.{count_by}
use Rattle.std.specs.Str.Pattern.{RFindsChar, SplitsAroundMatch}
use Rattle.std.specs.Str.{NoCharPasses}
use Rattle.std.proofs.lemmas.Str.Pattern.{NoCharPasses-char, drop_at_char}
use Rattle.std.proofs.lemmas.Bool.Decides.{nat_tests}
use Rattle.std.proofs.lemmas.List.Recursion.{is_count_by}
use Rattle.std.proofs.lemmas.List.{map-append, length-map, length-reverse, length-append, reverse-append, take-append-drop}
use Rattle.proto_types.specs.Names.{fronts, is_dot}
use Rattle.name_resolution.specs.Parents.{outer, ParentsCount}

-- a text has no dot
abbrev pub IsUndotted : List ℕ → Type 0
IsUndotted text = (i : ℕ) → i < length text → get_or text i 0 ≢ 46

pub no_dot : (c : ℕ) → c ≢ 46 → is_dot c ≡ false
no_dot c other = grind (arith, nat_tests)

pub tail-undotted : (c : ℕ) (cs : List ℕ) → IsUndotted (c ∷ cs) → IsUndotted cs
tail-undotted c cs none i below = none (suc i) (omega arith)

-- it has nothing before a dot
fronts-undotted : (text : List ℕ) → IsUndotted text → fronts text ≡ []
fronts-undotted [] none = refl
fronts-undotted (c ∷ cs) none =
    (λ i. cond (no_dot c (none 0 (omega arith)) i) ([] ∷ map (λ front. c ∷ front) (fronts cs)) (map (λ front. c ∷ front) (fronts cs)))
    ∙ ap (map (λ front. c ∷ front)) (fronts-undotted cs (tail-undotted c cs none))

-- the last of the texts before a dot is the one before the last dot
fronts-last : (front back : List ℕ) → IsUndotted back → fronts (front ++ 46 ∷ back) ≡ fronts front ++ front ∷ []
fronts-last [] back none = ap (λ fs. [] ∷ map (λ front. 46 ∷ front) fs) (fronts-undotted back none)
fronts-last (c ∷ cs) back none =
    let longer = ap (map (λ front. c ∷ front)) (fronts-last cs back none) ∙ map-append (λ front. c ∷ front) (fronts cs) (cs ∷ []) in
    elim (is_dot c) as (λ b. cond b ([] ∷ map (λ front. c ∷ front) (fronts (cs ++ 46 ∷ back))) (map (λ front. c ∷ front) (fronts (cs ++ 46 ∷ back)))
    ≡ cond b ([] ∷ map (λ front. c ∷ front) (fronts cs)) (map (λ front. c ∷ front) (fronts cs)) ++ (c ∷ cs) ∷ [])
    [ true ↦ ap (λ fs. [] ∷ fs) longer | false ↦ longer ]

-- around a scope without a dot is the empty text alone
pub outer-undotted : (scope : List ℕ) → IsUndotted scope → outer scope ≡ scope ∷ [] ∷ []
outer-undotted scope none = ap (λ fs. scope ∷ (reverse fs ++ [] ∷ [])) (fronts-undotted scope none)

-- around any other is what stands before its last dot, and what is around that
pub outer-last : (scope front back : List ℕ) → scope ≡ front ++ 46 ∷ back → IsUndotted back → outer scope ≡ scope ∷ outer front
outer-last scope front back is none =
    ap (λ fs. scope ∷ (reverse fs ++ [] ∷ [])) (ap fronts is ∙ fronts-last front back none)
    ∙ ap (λ fs. scope ∷ (fs ++ [] ∷ [])) (reverse-append (fronts front) (front ∷ []))

-- a text in which no dot was found
pub none-found : (text : List ℕ) → NoCharPasses (λ c. eqb c 46) text → IsUndotted text
none-found text none i below = NoCharPasses-char 46 text i none (omega arith) below

-- a scope that was split at its last dot
pub outer-split : (scope front back : List ℕ) → SplitsAroundMatch (RFindsChar 46) scope front back → outer scope ≡ scope ∷ outer front
outer-split scope front back (i, j, (none, found), is_front, is_back, _, _, _) =
    outer-last scope front back
    (sym (take-append-drop i scope) ∙ (λ k. sym is_front k ++ (drop_at_char 46 scope i j found (omega arith) ∙ ap (λ bs. 46 ∷ bs) (sym is_back)) k))
    (none-found back (subst (NoCharPasses (λ c. eqb c 46)) (sym is_back) none))

count_next : (c : ℕ) (cs : List ℕ) → length (fronts (c ∷ cs)) ≡ cond (is_dot c) (1 + length (fronts cs)) (length (fronts cs))
count_next c cs =
    let same = length-map (fronts cs) (λ front. c ∷ front) in
    elim (is_dot c) as (λ b. length (cond b ([] ∷ map (λ front. c ∷ front) (fronts cs)) (map (λ front. c ∷ front) (fronts cs))) ≡ cond b (1 + length (fronts cs)) (length (fronts cs)))
    [ true ↦ ap suc same ∙ sym (one-add (length (fronts cs))) | false ↦ same ]

count_fronts : (text : List ℕ) → length (fronts text) ≡ count_by is_dot text
count_fronts text = is_count_by (λ t. length (fronts t)) is_dot refl count_next text

pub count_parents : ParentsCount
count_parents scope = omega (arith, count_fronts scope, length-reverse (fronts scope), length-append (reverse (fronts scope)) ([] ∷ []))
