use Rattle.std.proofs.Common.{◌≡◌, ◌-◌, get_or, length, ap, arith, sym, ◌∙◌}
use Rattle.std.proofs.lemmas.Bool.Decides.{nat_tests}
use Rattle.name_tables.proofs.Innermost.{innermost-means}
use Rattle.name_tables.proofs.scoped_names.ScopedNames.holder.Goals as goal

pub returns : goal.returns
returns c =
    let was = c.self.inside in
    let last : c.len.result ≡ length was.scopes.items = omega (arith, c.len.ensures, was.scopes.ok.0) in
    c.get-2.ensures
    ∙ sym (innermost-means was.branches.tree was.branches.definitions was.scopes.items c.self.invariant c.args.self.now c.self.view_is c.requires
    c.index-innermost.result.now (c.index-innermost.ensures ∙ ap (λ n. get_or was.scopes.items (n - 1) c.index-innermost.result.now) last) (grind (arith, nat_tests)))
