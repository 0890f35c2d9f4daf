use Rattle.std.proofs.Common.{◌≡◌, ◌∷◌, None, Some, refl, arith}
use Rattle.std.proofs.lemmas.Str.Pattern.{strip_prefix_char}
use Rattle.pool_changes.proofs.Openings.{behind-other}
use Rattle.pool_changes.proofs.objects.behind_brace.Goals as goal

pub returns-in-None : goal.returns-in-None
returns-in-None c = behind-other 123 c.args.text.now
    (strip_prefix_char 123 c.args.text.now None c.in-None.ensures.cases (omega arith))

pub returns-in-Some : goal.returns-in-Some
returns-in-Some c =
    let e : c.args.text.now ≡ 123 ∷ c.in-Some.rest.now = strip_prefix_char 123 c.args.text.now (Some c.in-Some.rest) c.in-Some.ensures.cases (omega arith) in
    rw e refl
