-- Two lists that go together element by element.
use Rattle.std.proofs.Common.{List, [], ◌∷◌, ◌++◌}
use Rattle.std.specs.List.{AllByRecursion, flat_map}
use Rattle.pool_laws.proofs.Sharing.{Across, Pairwise}

-- each of one list with that of the other at its place
abbrev pub Paired : {X Y : Type 0} → (X → Y → Type 0) → List X → List Y → Type 0
Paired R [] [] = Unit {0}
Paired R (x ∷ xs) (y ∷ ys) = R x y × Paired R xs ys
Paired R _ _ = ⊥

-- two such lists behind two others
pub paired-append : {X Y : Type 0} (R : X → Y → Type 0) (vs : List X) (ws : List Y) (xs : List X) (ys : List Y) → Paired R vs ws → Paired R xs ys → Paired R (vs ++ xs) (ws ++ ys)
paired-append R [] [] xs ys first second = second
paired-append R (v ∷ vs) (w ∷ ws) xs ys first second = (first.0, paired-append R vs ws xs ys first.1 second)
paired-append R _ _ xs ys first second = absurd first

module _ {X Y : Type 0} (R : X → Y → Type 0) where
  -- and four
  pub paired-four : (ws xs ys zs : List X) (ws2 xs2 ys2 zs2 : List Y) → Paired R ws ws2 → Paired R xs xs2 → Paired R ys ys2 → Paired R zs zs2
      → Paired R (ws ++ xs ++ ys ++ zs) (ws2 ++ xs2 ++ ys2 ++ zs2)
  paired-four ws xs ys zs ws2 xs2 ys2 zs2 first second third last =
      paired-append R (ws ++ xs ++ ys) (ws2 ++ xs2 ++ ys2) zs zs2
      (paired-append R (ws ++ xs) (ws2 ++ xs2) ys ys2 (paired-append R ws ws2 xs xs2 first second) third) last

  -- what is made of each
  pub paired-flat : {V W : Type 0} (S : V → W → Type 0) (f : X → List V) (g : Y → List W) → ((x : X) (y : Y) → R x y → Paired S (f x) (g y))
      → (xs : List X) (ys : List Y) → Paired R xs ys → Paired S (flat_map f xs) (flat_map g ys)
  paired-flat S f g each [] [] both = tt
  paired-flat S f g each (x ∷ xs) (y ∷ ys) both = paired-append S (f x) (g y) (flat_map f xs) (flat_map g ys) (each x y both.0) (paired-flat S f g each xs ys both.1)
  paired-flat S f g each _ _ both = absurd both

  -- what holds of each
  pub paired-all : (P : X → Type 0) (Q : Y → Type 0) → ((x : X) (y : Y) → R x y → P x → Q y) → (xs : List X) (ys : List Y) → Paired R xs ys → AllByRecursion P xs → AllByRecursion Q ys
  paired-all P Q each [] [] both all = tt
  paired-all P Q each (x ∷ xs) (y ∷ ys) both all = (each x y both.0 all.0, paired-all P Q each xs ys both.1 all.1)
  paired-all P Q each _ _ both all = absurd both

  -- what any two are to each other
  module _ (S : X → X → Type 0) (T : Y → Y → Type 0) (keep : (v : X) (w : Y) (x : X) (y : Y) → R v w → R x y → S v x → T w y) where
    paired-row : (v : X) (w : Y) → R v w → (xs : List X) (ys : List Y) → Paired R xs ys → AllByRecursion (S v) xs → AllByRecursion (T w) ys
    paired-row v w first = paired-all (S v) (T w) (λ x y. keep v w x y first)

    pub paired-across : (vs : List X) (ws : List Y) (xs : List X) (ys : List Y) → Paired R vs ws → Paired R xs ys → Across S vs xs → Across T ws ys
    paired-across vs ws xs ys first second = paired-all (λ v. AllByRecursion (S v) xs) (λ w. AllByRecursion (T w) ys) (λ v w both. paired-row v w both xs ys second) vs ws first

    pub paired-pairwise : (xs : List X) (ys : List Y) → Paired R xs ys → Pairwise S xs → Pairwise T ys
    paired-pairwise [] [] both all = tt
    paired-pairwise (x ∷ xs) (y ∷ ys) both all = (paired-row x y both.0 xs ys both.1 all.0, paired-pairwise xs ys both.1 all.1)
    paired-pairwise _ _ both all = absurd both
