use Rattle.std.proofs.Common.{◌≡◌, ◌≢◌, ◌==◌, ℕ, Bool, true, false, cond, List, [], ◌∷◌, None, refl, ap, ◌∙◌, arith}
use Rattle.std.proofs.lemmas.Bool.{eqb-true}
use Rattle.std.proofs.lemmas.Str.Pattern.{strip_prefix_char}
use Rattle.std.specs.FinMap as finite
use Rattle.pool_contents.specs.LookUps.{without_dot}
use Rattle.pool_changes.proofs.named.definition_of.Goals as goal

-- a name that begins with no dot loses none
undotted : (name : List ℕ) → ((rest : List ℕ) → name ≢ 46 ∷ rest) → without_dot name ≡ name
undotted [] other = refl
undotted (c ∷ cs) other = by (c == 46) refl
  where
    by : (b : Bool) → (c == 46) ≡ b → cond b cs (c ∷ cs) ≡ c ∷ cs
    by true dot = absurd (other cs (ap (λ d. d ∷ cs) (eqb-true c 46 dot)))
    by false none = refl

pub returns-in-None : goal.returns-in-None
returns-in-None c =
    let other = strip_prefix_char 46 c.args.name.now None c.in-None.ensures.cases (omega arith) in
    c.get_by_name.ensures.found ∙ ap (finite.get c.args.pool.now.names) (undotted c.args.name.now other)
