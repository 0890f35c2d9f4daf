-- The fronts of a text, each joined to the part behind its last dot.
use Rattle.std.proofs.Common.{◌≡◌, ◌<◌, ◌≤◌, ◌+◌, ◌-◌, ℕ, suc, List, [], ◌∷◌, ◌++◌, length, take, drop, get_or, refl, ap, sym, ◌∙◌, arith}
use Rattle.std.proofs.lemmas.List.{drop_more, drop-take, length-take-le, take-append-drop, take-take}
use Rattle.proto_types.specs.Names.{join}

-- a scope joined to what stands from a place on makes the text, up to any end
abbrev pub JoinsOn : List ℕ → ℕ → List ℕ → Type 0
JoinsOn bytes start scope = (end : ℕ) → start ≤ end → end ≤ length bytes → join scope (take (end - start) (drop start bytes)) ≡ take end bytes

pub joins-first : (bytes : List ℕ) → JoinsOn bytes 0 []
joins-first bytes end from below = let whole : end - 0 ≡ end = omega arith in ap (λ n. take n bytes) whole

join-some : (scope name : List ℕ) → 0 < length scope → join scope name ≡ scope ++ 46 ∷ name
join-some [] name some = absurd (omega arith)
join-some (c ∷ cs) name some = refl

-- what stands before a dot, and behind it
pub joins-next : (bytes : List ℕ) (dot : ℕ) → 0 < dot → dot < length bytes → get_or bytes dot 0 ≡ 46 → JoinsOn bytes (dot + 1) (take dot bytes)
joins-next bytes dot some within is end from below =
    let rest : List ℕ = take (end - (dot + 1)) (drop (dot + 1) bytes) in
    let more : end ≡ dot + suc (end - (dot + 1)) = omega arith in
    let long : 0 < length (take dot bytes) = omega (arith, length-take-le dot bytes (omega arith)) in
    let behind : drop dot (take end bytes) ≡ 46 ∷ rest =
    ap (λ n. drop dot (take n bytes)) more ∙ drop-take dot (suc (end - (dot + 1))) bytes
    ∙ ap (take (suc (end - (dot + 1)))) (drop_more bytes dot 0 within) ∙ ap (λ c. c ∷ rest) is in
    join-some (take dot bytes) rest long
    ∙ sym (λ i. take-take dot end bytes (omega arith) i ++ behind i)
    ∙ take-append-drop dot (take end bytes)
