-- What a visitor has made of the declarations that it was shown.
use Rattle.std.specs.Prelude.{◌≡◌, ◌↔◌, ℕ, zero, suc, List, [], ◌∷◌, ◌++◌}
use Rattle.record_walk.specs.declared.declaration.Declaration.{Declaration}
use Rattle.pool_types.specs.Contents.{Contents}
use Rattle.record_walk.specs.Shown.{Shown}
use Rattle.record_walk.specs.Telling.{Telling}

-- what a visitor has made so far: the contents of a pool, the faults that are told, and the
-- declarations that are listed
pub record Progress : Type 0 where
  pub contents : Contents
  pub faults : Telling
  pub listed : List Declaration

-- a visitor has been shown a list: after a further one it shows what it would have shown after
-- both, and it may be shown that one exactly where it might have been shown both
pub record HasSeen (after : List Shown → Progress) (ready : List Shown → Type 0)
    (after-now : List Shown → Progress) (ready-now : List Shown → Type 0)
    (ds : List Shown) : Type 0 where
  pub after_is : (rest : List Shown) → after-now rest ≡ after (ds ++ rest)
  pub ready_is : (rest : List Shown) → ready-now rest ↔ ready (ds ++ rest)

-- a visitor has been shown all of a list but the rest
pub record Remains (after : List Shown → Progress) (ready : List Shown → Type 0)
    (after-now : List Shown → Progress) (ready-now : List Shown → Type 0)
    (all rest : List Shown) : Type 0 where
  pub after_is : (more : List Shown) → after-now (rest ++ more) ≡ after (all ++ more)
  pub ready_is : (more : List Shown) → ready-now (rest ++ more) ↔ ready (all ++ more)

-- of a list, each entry before a position has become something else, one is free, and each behind
-- it is as it was
abbrev pub StopsAt : {X : Type 0} → (X → X → Type 0) → ℕ → List X → List X → Type 0
StopsAt R zero (x ∷ xs) (y ∷ ys) = ys ≡ xs
StopsAt R (suc n) (x ∷ xs) (y ∷ ys) = R x y × StopsAt R n xs ys
StopsAt R n [] ys = ⊥
StopsAt R n (x ∷ xs) [] = ⊥
