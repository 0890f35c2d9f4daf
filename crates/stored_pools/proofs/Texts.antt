-- Names that are UTF-8: joined, cut before a dot, with a dot in front and without it.
use Rattle.std.proofs.Common.{◌≡◌, ℕ, zero, suc, true, false, cond, IfSome, Option, None, Some, List, [], ◌∷◌, ◌++◌, length, length-append, map, get_or, arith, refl, sym, subst, append_assoc}
use Rattle.std.proofs.lemmas.Bool.{eqb-true}
use Rattle.std.proofs.lemmas.List.{append-nil, take_at}
use Rattle.std.proofs.lemmas.Str.{IsUtf8-append, IsUtf8-nil, IsUtf8-take, IsUtf8-drop, IsUtf8-from_ascii, IsUtf8-from_is_utf8, is_utf8-from_IsUtf8, IsCharBoundary-before_ascii, IsCharBoundary-after_ascii}
use Rattle.std.proofs.Math.Seq.{get_or-append_seam}
use Rattle.std.specs.List.{AllByRecursion}
use Rattle.std.specs.Str.{IsAscii, IsUtf8}
use Rattle.proto_types.specs.Names.{fronts, is_dot, join}
use Rattle.proto_types.specs.Readers.{text_of}
use Rattle.descriptor_encoding.specs.Whole.{IsText}

pub empty-text : IsText []
empty-text = is_utf8-from_IsUtf8 [] IsUtf8-nil

pub name-text : (name : Option (List ℕ)) → IfSome name IsText → IsText (text_of name)
name-text None whole = empty-text
name-text (Some name) whole = whole

dot-ascii : IsAscii (46 ∷ [])
dot-ascii zero = omega arith
dot-ascii (suc i) = omega arith

dot : IsUtf8 (46 ∷ [])
dot = IsUtf8-from_ascii (46 ∷ []) dot-ascii

both : (front back : List ℕ) → IsText front → IsUtf8 back → IsText (front ++ back)
both front back whole more = is_utf8-from_IsUtf8 (front ++ back) (IsUtf8-append front back (IsUtf8-from_is_utf8 front whole) more)

dotted-utf8 : (name : List ℕ) → IsText name → IsUtf8 (46 ∷ name)
dotted-utf8 name whole = IsUtf8-append (46 ∷ []) name dot (IsUtf8-from_is_utf8 name whole)

-- with a dot in front
pub dotted : (name : List ℕ) → IsText name → IsText (46 ∷ name)
dotted name whole = is_utf8-from_IsUtf8 (46 ∷ name) (dotted-utf8 name whole)

-- without it
pub undotted : (c : ℕ) (name : List ℕ) → is_dot c ≡ true → IsText (c ∷ name) → IsText name
undotted c name is whole =
    let utf8 = IsUtf8-from_is_utf8 (c ∷ name) whole in
    let same : c ≡ 46 = eqb-true c 46 is in
    is_utf8-from_IsUtf8 name (IsUtf8-drop (c ∷ name) 1 utf8 (IsCharBoundary-after_ascii (c ∷ name) 0 utf8 (omega arith) (omega (arith, same))))

-- joined
pub joined : (scope name : List ℕ) → IsText scope → IsText name → IsText (join scope name)
joined [] name scoped whole = whole
joined (c ∷ cs) name scoped whole = both (c ∷ cs) (46 ∷ name) scoped (dotted-utf8 name whole)

-- cut before a dot
cut : (front name : List ℕ) → IsUtf8 (front ++ 46 ∷ name) → IsUtf8 front
cut front name whole =
    let byte : get_or (front ++ 46 ∷ name) (length front) 0 ≡ 46 = get_or-append_seam front 46 name 0 in
    let long = length-append front (46 ∷ name) in
    subst IsUtf8 (take_at front (46 ∷ name) (length front) refl)
    (IsUtf8-take (front ++ 46 ∷ name) (length front) whole (IsCharBoundary-before_ascii (front ++ 46 ∷ name) (length front) (omega (arith, long)) (omega (arith, byte))))

-- each front of a name, behind what stands before it
abbrev AllBehind : List ℕ → List (List ℕ) → Type 0
AllBehind before = AllByRecursion (λ front. IsUtf8 (before ++ front))

further : (before : List ℕ) (c : ℕ) (fronts : List (List ℕ)) → AllBehind (before ++ c ∷ []) fronts → AllBehind before (map (λ front. c ∷ front) fronts)
further before c [] all = tt
further before c (front ∷ more) all = (subst IsUtf8 (append_assoc before (c ∷ []) front) all.0, further before c more all.1)

fronts-behind : (before name : List ℕ) → IsUtf8 (before ++ name) → AllBehind before (fronts name)
fronts-behind before [] whole = tt
fronts-behind before (c ∷ cs) whole =
    let rest = further before c (fronts cs) (fronts-behind (before ++ c ∷ []) cs (subst IsUtf8 (sym (append_assoc before (c ∷ []) cs)) whole)) in
    elim (is_dot c) as (λ b. is_dot c ≡ b → AllBehind before (cond b ([] ∷ map (λ front. c ∷ front) (fronts cs)) (map (λ front. c ∷ front) (fronts cs)))) [
      | true ↦ λ is.
          let same : c ≡ 46 = eqb-true c 46 is in
          (subst IsUtf8 (sym (append-nil before)) (cut before cs (subst (λ d. IsUtf8 (before ++ d ∷ cs)) same whole)), rest)
      | false ↦ λ is. rest
    ] refl

texts-from : (names : List (List ℕ)) → AllBehind [] names → AllByRecursion IsText names
texts-from [] all = tt
texts-from (name ∷ names) all = (is_utf8-from_IsUtf8 name all.0, texts-from names all.1)

-- each front of a name
pub fronts-texts : (name : List ℕ) → IsText name → AllByRecursion IsText (fronts name)
fronts-texts name whole = texts-from (fronts name) (fronts-behind [] name (IsUtf8-from_is_utf8 name whole))
