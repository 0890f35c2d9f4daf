use Rattle.std.proofs.Common.{◌≡◌, ◌++◌, sym, ap, ◌∙◌, subst}
use Rattle.std.specs.Str.{IsUtf8}
use Rattle.proto_types.specs.Names.{join}
use Rattle.field_rules.specs.InnerNames.{names_behind}
use Rattle.field_rules.proofs.NamesBehind.{first-cut, join-IsUtf8}
use Rattle.field_rules.proofs.inner_names.InnerNames.next.Goals as goal

-- what is cut off is the full name of the field
pub cut-requires-clause-text : goal.cut-requires-clause-text
cut-requires-clause-text c =
    let scope = c.args.scope.now in
    let name = c.name-name.result.now in
    let rest = names_behind scope c.requires.0 in
    let all = rw c.in-Some.is at c.requires.1 in
    let are : c.in-Some.names ≡ join scope name ++ rest = all ∙ ap (λ n. join scope n ++ rest) (sym c.name-name.ensures) in
    let cut = first-cut c.in-Some.names (join scope name) rest c.joined_len.result are c.joined_len.ensures in
    subst (λ text. ∥ IsUtf8 text ∥₁) (sym cut) ∣ join-IsUtf8 scope name c.utf8.scope c.name-name.utf8 ∣₁
