use Rattle.std.proofs.Common.{◌≡◌, ℕ, ◌<◌, List, [], ◌∷◌, ◌++◌, length, get_or, refl, ap, sym, ◌∙◌, arith, append-nil}
use Rattle.std.proofs.lemmas.Grind.{common_steps}
use Rattle.std.proofs.lemmas.List.{get_or_default}
use Rattle.pool_types.specs.declared.contents.definition.Identity.{Identity}
use Rattle.protoc_rules.specs.Faults.{each_told}
use Rattle.protoc_rules.specs.Firsts.{HasFirstNumbers}
use Rattle.protoc_rules.specs.Imports.{import_faults}
use Rattle.protoc_rules.proofs.FirstKeys.{entered-next}
use Rattle.protoc_rules.proofs.Told.{told_next}
use Rattle.protoc_rules.proofs.imports.tell_imports.Goals as goal

pub loop-position-preserved : goal.loop-position-preserved
loop-position-preserved c =
    let imports = c.args.imports.now in
    let i = c.loop-position.position in
    let import = get_or imports i 0 in
    let below = c.loop-position-test.true in
    let is : import ≡ get_or imports i import = get_or_default imports i 0 import below in
    let held = c.loop-position.invariant.firsts import in
    let next = told_next (import_faults c.args.id.now imports) imports i import below is in
    record {
      firsts =
          entered-next (HasFirstNumbers c.loop-position.firsts) (HasFirstNumbers c.first_numbered.new.firsts) imports i import import below is refl
          c.in_ok-first.ensures.firsts c.loop-position.invariant.firsts;
      found = grind (arith, common_steps, next, held);
    }

-- of fewer than two imports none comes again
few : (id : Identity) (imports : List ℕ) → length imports < 2 → each_told (import_faults id imports) imports ≡ []
few id [] below = refl
few id (f ∷ []) below = refl
few id (f ∷ (g ∷ rest)) below = absurd (omega (arith, below))

pub returns-then-imports-lt2 : goal.returns-then-imports-lt2
returns-then-imports-lt2 c =
    sym (ap (λ told. c.args.found.now ++ told) (few c.args.id.now c.args.imports.now c.if-imports-lt2.true) ∙ append-nil c.args.found.now)
