use Rattle.std.proofs.Common.{◌≡◌, ◌-◌, ◌∷◌, [], pos, length, length-append, ap, ◌∙◌, arith}
use Rattle.std.specs.Int.{w32}
use Rattle.std.specs.Prelude.{slice_set}
use Rattle.std.proofs.lemmas.Int.{to_z_pos}
use Rattle.record_walk.proofs.InPlace.{set-last}
use Rattle.record_walk.proofs.walking.site.Site.go_on.Goals as goal

pub returns-clause-path : goal.returns-clause-path
returns-clause-path c = λ front last is.
    let long = ap length is ∙ length-append front (last ∷ []) in
    let at : c.len-last.result - 1 ≡ length front = omega (arith, c.len-last.ensures, long) in
    (λ j. slice_set (is j) (at j) (to_z_pos w32 c.args.position c.requires.position j))
    ∙ set-last front last (pos c.args.position)
