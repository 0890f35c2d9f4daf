use Rattle.std.proofs.Common.{◌≡◌, ◌≢◌, ℕ, false, eqb, List, [], ◌∷◌, None, Some, refl, ap, arith}
use Rattle.std.proofs.lemmas.Bool.Decides.{nat_tests}
use Rattle.std.proofs.lemmas.Str.Pattern.{strip_prefix_char}
use Rattle.pool_contents.specs.LookUps.{without_dot}
use Rattle.pool_contents.proofs.look_ups.without_dot.Goals as goal

undotted : (name : List ℕ) → ((rest : List ℕ) → name ≢ 46 ∷ rest) → name ≡ without_dot name
undotted [] h = refl
undotted (x ∷ xs) h =
    let other : x ≢ 46 = λ e. h xs (ap (λ y. y ∷ xs) e) in
    let fails : eqb x 46 ≡ false = grind (arith, nat_tests) in
    rw fails refl

pub returns-in-None : goal.returns-in-None
returns-in-None c = undotted c.args.name.now (strip_prefix_char 46 c.args.name.now None c.in-None.ensures.cases (omega arith))

pub returns-in-Some : goal.returns-in-Some
returns-in-Some c =
    let e : c.args.name.now ≡ 46 ∷ c.in-Some.rest.now = strip_prefix_char 46 c.args.name.now (Some c.in-Some.rest) c.in-Some.ensures.cases (omega arith) in
    rw e refl
