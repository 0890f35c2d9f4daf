use Rattle.std.proofs.Common.{◌≡◌, ℕ, ◌+◌, ◌<◌, Bool, true, false, List, [], ◌∷◌, ◌++◌, ◌||◌, length, get_or, map, take, refl, ap, ◌∙◌, arith}
use Rattle.std.proofs.lemmas.Grind.{common_steps}
use Rattle.std.proofs.lemmas.List.{take_more}
use Rattle.std.specs.List.{list_any}
use Rattle.protoc_rules.proofs.packages.has_wrong_part.Goals as goal

or-false : (a : Bool) → (a || false) ≡ a
or-false true = refl
or-false false = refl

or-assoc : (a b c : Bool) → (a || (b || c)) ≡ ((a || b) || c)
or-assoc true b c = refl
or-assoc false b c = refl

any-append : {X Y : Type 0} (f : Y → Bool) (g : X → Y) (xs : List X) (x : X) → list_any f (map g (xs ++ x ∷ [])) ≡ (list_any f (map g xs) || f (g x))
any-append f g [] x = or-false (f (g x))
any-append f g (y ∷ ys) x = ap (λ b. f (g y) || b) (any-append f g ys x) ∙ or-assoc (f (g y)) (list_any f (map g ys)) (f (g x))

any-next : {X Y : Type 0} (f : Y → Bool) (g : X → Y) (xs : List X) (i : ℕ) (d : X) → i < length xs
    → list_any f (map g (take (i + 1) xs)) ≡ (list_any f (map g (take i xs)) || f (g (get_or xs i d)))
any-next f g xs i d below = ap (λ ys. list_any f (map g ys)) (take_more xs i d below) ∙ any-append f g (take i xs) (get_or xs i d)

pub loop-part-preserved : goal.loop-part-preserved
loop-part-preserved c = grind (arith, common_steps, any-next)
