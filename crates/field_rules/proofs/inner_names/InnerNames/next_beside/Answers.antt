use Rattle.std.proofs.Common.{◌≡◌, ◌++◌, [], append-nil, sym, ap, ◌∙◌, subst}
use Rattle.std.proofs.lemmas.Result.{IfOk-weaker}
use Rattle.std.proofs.lemmas.Str.{IsCharBoundary-at_seam, IsUtf8-append}
use Rattle.std.specs.Str.{IsUtf8}
use Rattle.field_rules.specs.InnerNames.{names_beside}
use Rattle.field_rules.proofs.NamesBehind.{both-cut}
use Rattle.field_rules.proofs.inner_names.InnerNames.next_beside.Goals as goal

-- what is cut off is the full name of the value
pub cut-requires-clause-text : goal.cut-requires-clause-text
cut-requires-clause-text c =
    let around = c.args.around.now in
    let name = c.name-name.result.now in
    let rest = names_beside around c.requires.0 in
    let all = rw c.in-Some.is at c.requires.1 in
    let are : c.in-Some.names ≡ (around ++ name) ++ rest = all ∙ ap (λ n. (around ++ n) ++ rest) (sym c.name-name.ensures) in
    subst (λ text. ∥ IsUtf8 text ∥₁) (sym (both-cut c.in-Some.names around name rest are)) ∣ IsUtf8-append around name c.utf8.around c.name-name.utf8 ∣₁

-- its own name begins where the text around it ends
pub returns-in-Some-clause-begins : goal.returns-in-Some-clause-begins
returns-in-Some-clause-begins c =
    let around = c.args.around.now in
    let name = c.name-name.result.now in
    let rest = names_beside around c.requires.0 in
    let all = rw c.in-Some.is at c.requires.1 in
    let are : c.in-Some.names ≡ (around ++ name) ++ rest = all ∙ ap (λ n. (around ++ n) ++ rest) (sym c.name-name.ensures) in
    let own = both-cut c.in-Some.names around name rest are in
    IfOk-weaker c.cut.result _ _ (λ piece is. IsCharBoundary-at_seam piece around name (is ∙ own) c.name-name.utf8) c.cut.ensures.piece

pub returns-in-None-clause-begins : goal.returns-in-None-clause-begins
returns-in-None-clause-begins c =
    let around = c.args.around.now in
    let name = c.name-name.result.now in
    IfOk-weaker c.concatenated.result (λ text. text ≡ around ++ [] ++ name) _ (λ text is. IsCharBoundary-at_seam text around name (is ∙ ap (λ front. front ++ name) (append-nil around)) c.name-name.utf8) c.concatenated.ensures
