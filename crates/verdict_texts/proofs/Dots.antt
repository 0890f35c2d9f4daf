-- What stands before the last dot of a name, and what stands behind it.
use Rattle.std.proofs.Common.{◌≡◌, ℕ, ◌+◌, ◌-◌, Bool, true, not, List, [], ◌∷◌, ◌++◌, reverse, length, take, drop, All, sym, ap, subst, ◌∙◌, append_assoc, append-nil, length-append, take_at, drop_at, zero-add, arith}
use Rattle.std.specs.List.{prefix_len, suffix_len, before_last, after_last}
use Rattle.std.specs.Str.Pattern.{RFindsChar, SplitsAroundMatch}
use Rattle.std.specs.Str.{NoCharPasses}
use Rattle.std.proofs.lemmas.Bool.{cond-true}
use Rattle.std.proofs.lemmas.Str.Pattern.{drop_at_char}
use Rattle.std.proofs.lemmas.List.{length_push, length-reverse, reverse-append, take-append-drop}
use Rattle.std.proofs.lemmas.List.Elements.{All-nil, All-cons, All-head, All-tail, All-append}
use Rattle.proto_types.specs.Names.{is_dot}
use Rattle.name_resolution.proofs.Fronts.{IsUndotted, no_dot, none-found, tail-undotted}

-- whether a byte is no dot
abbrev is_other : ℕ → Bool
is_other c = not (is_dot c)

abbrev Others : List ℕ → Type 0
Others text = All (λ c. is_other c ≡ true) text

others : (text : List ℕ) → IsUndotted text → Others text
others [] none = All-nil (λ c. is_other c ≡ true)
others (c ∷ cs) none =
    All-cons (λ c. is_other c ≡ true) c cs (ap not (no_dot c (none 0 (omega arith)))) (others cs (tail-undotted c cs none))

turned : (text : List ℕ) → Others text → Others (reverse text)
turned [] all = all
turned (c ∷ cs) all =
    subst Others (sym (reverse-append (c ∷ []) cs))
    (All-append (λ c. is_other c ≡ true) (reverse cs) (c ∷ []) (turned cs (All-tail (λ c. is_other c ≡ true) c cs all))
    (All-cons (λ c. is_other c ≡ true) c [] (All-head (λ c. is_other c ≡ true) c cs all) (All-nil (λ c. is_other c ≡ true))))

passed : (text rest : List ℕ) → Others text → prefix_len is_other (text ++ rest) ≡ length text + prefix_len is_other rest
passed [] rest all = sym (zero-add _)
passed (c ∷ cs) rest all =
    let more = passed cs rest (All-tail (λ c. is_other c ≡ true) c cs all) in
    cond-true (is_other c) _ 0 (All-head (λ c. is_other c ≡ true) c cs all) ∙ omega arith

behind-none : (text : List ℕ) → IsUndotted text → suffix_len is_other text ≡ length text
behind-none text none =
    let all = passed (reverse text) [] (turned text (others text none)) in
    ap (prefix_len is_other) (sym (append-nil (reverse text))) ∙ all ∙ omega (arith, length-reverse text)

behind-dot : (front back : List ℕ) → IsUndotted back → suffix_len is_other (front ++ 46 ∷ back) ≡ length back
behind-dot front back none =
    let whole : reverse (front ++ 46 ∷ back) ≡ reverse back ++ (46 ∷ reverse front) =
    reverse-append front (46 ∷ back) ∙ ap (λ ys. ys ++ reverse front) (reverse-append (46 ∷ []) back) ∙ append_assoc (reverse back) (46 ∷ []) (reverse front) in
    ap (prefix_len is_other) whole ∙ passed (reverse back) (46 ∷ reverse front) (turned back (others back none)) ∙ omega (arith, length-reverse back)

before-none : (text : List ℕ) → IsUndotted text → [] ≡ before_last is_dot text
before-none text none =
    let at : length text - suffix_len is_other text - 1 ≡ 0 = omega (arith, behind-none text none) in
    sym (ap (λ n. take n text) at)

after-none : (text : List ℕ) → IsUndotted text → text ≡ after_last is_dot text
after-none text none =
    let at : length text - suffix_len is_other text ≡ 0 = omega (arith, behind-none text none) in
    sym (ap (λ n. drop n text) at)

before-dot : (front back : List ℕ) → IsUndotted back → before_last is_dot (front ++ 46 ∷ back) ≡ front
before-dot front back none =
    take_at front (46 ∷ back) _ (omega (arith, behind-dot front back none, length-append front (46 ∷ back)))

after-dot : (front back : List ℕ) → IsUndotted back → after_last is_dot (front ++ 46 ∷ back) ≡ back
after-dot front back none =
    let n = length (front ++ 46 ∷ back) - suffix_len is_other (front ++ 46 ∷ back) in
    ap (drop n) (sym (append_assoc front (46 ∷ []) back))
    ∙ drop_at (front ++ 46 ∷ []) back n (omega (arith, behind-dot front back none, length-append front (46 ∷ back), length_push front 46))

-- a name without a dot
pub undotted-before : (name : List ℕ) → NoCharPasses (λ c. is_dot c) name → [] ≡ before_last is_dot name
undotted-before name none = before-none name (none-found name none)

pub undotted-after : (name : List ℕ) → NoCharPasses (λ c. is_dot c) name → name ≡ after_last is_dot name
undotted-after name none = after-none name (none-found name none)

split-whole : (name front back : List ℕ) → SplitsAroundMatch (RFindsChar 46) name front back → (name ≡ front ++ 46 ∷ back) × IsUndotted back
split-whole name front back (i, j, (none, found), is_front, is_back, _, _, _) = (
  sym (take-append-drop i name) ∙ (λ k. sym is_front k ++ (drop_at_char 46 name i j found (omega arith) ∙ ap (λ bs. 46 ∷ bs) (sym is_back)) k),
  none-found back (subst (NoCharPasses (λ c. is_dot c)) (sym is_back) none),
)

-- a name that was split at its last dot
pub split-before : (name front back : List ℕ) → SplitsAroundMatch (RFindsChar 46) name front back → front ≡ before_last is_dot name
split-before name front back split =
    let whole = split-whole name front back split in
    sym (ap (before_last is_dot) whole.0 ∙ before-dot front back whole.1)

pub split-after : (name front back : List ℕ) → SplitsAroundMatch (RFindsChar 46) name front back → back ≡ after_last is_dot name
split-after name front back split =
    let whole = split-whole name front back split in
    sym (ap (after_last is_dot) whole.0 ∙ after-dot front back whole.1)
