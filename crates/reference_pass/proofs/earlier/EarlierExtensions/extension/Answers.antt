use Rattle.std.proofs.Common.{ap, sym, ◌∙◌}
use Rattle.std.specs.List.{find}
use Rattle.std.specs.Option.{option_copied, option_or}
use Rattle.std.proofs.lemmas.List.Folds.{find-append}
use Rattle.pool_types.specs.Extension.{has_number}
use Rattle.reference_pass.proofs.earlier.EarlierExtensions.extension.Goals as goal

-- the first of the pool, or else the first of the new ones
pub returns-in-Some : goal.returns-in-Some
returns-in-Some c =
    let old = c.args.self.pool.extensions.now in
    let new = c.args.self.new.now.extensions.items in
    let p = has_number c.args.message c.args.number in
    ap (λ got. option_or got (find p new)) (sym (ap option_copied c.in-Some.is) ∙ c.extension.ensures) ∙ sym (find-append p old new)

pub returns-in-None : goal.returns-in-None
returns-in-None c =
    let old = c.args.self.pool.extensions.now in
    let new = c.args.self.new.now.extensions.items in
    let p = has_number c.args.message c.args.number in
    c.extension-in-None.ensures ∙ ap (λ got. option_or got (find p new)) (sym (ap option_copied c.in-None.is) ∙ c.extension.ensures) ∙ sym (find-append p old new)
