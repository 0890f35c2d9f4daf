use Rattle.std.proofs.Common.{◌≡◌, ◌-◌, get_or, length, ap, arith, sym, subst, ◌∙◌}
use Rattle.std.specs.FinMap as map
use Rattle.std.proofs.lemmas.Result.{err_from_is_err_and, on_err_weaker, on_ok_weaker}
use Rattle.name_tables.specs.Scopes.{AreScopes, scope_texts}
use Rattle.name_tables.proofs.Innermost.{innermost-called, innermost-stands, still-held, still-names, still-texts}
use Rattle.name_tables.proofs.scoped_names.ScopedNames.define.Goals as goal

pub invariant_of-self : goal.invariant_of-self
invariant_of-self c =
    let was = c.self.inside in
    still-held was.branches.tree was.branches.definitions was.scopes.items c.self.invariant c.args.self.now c.self.view_is c.requires.some c.name_branch.new.tree c.in_err-branch.ensures.keeps c.in_err-branch.ensures.tree

pub returns-in_err-branch-clause-scopes : goal.returns-in_err-branch-clause-scopes
returns-in_err-branch-clause-scopes c =
    let was = c.self.inside in
    still-texts was.branches.tree was.branches.definitions was.scopes.items c.self.invariant c.args.self.now c.self.view_is c.requires.some c.name_branch.new.tree c.in_err-branch.ensures.keeps c.in_err-branch.ensures.tree

pub returns-in_err-branch-clause-err : goal.returns-in_err-branch-clause-err
returns-in_err-branch-clause-err c =
    let was = c.self.inside in
    let error = err_from_is_err_and c.from_residual.result c.from_residual.ensures.1 in
    rw error.1 (still-names was.branches.tree was.branches.definitions was.scopes.items c.self.invariant c.args.self.now c.self.view_is c.requires.some c.name_branch.new.tree c.in_err-branch.ensures.keeps c.in_err-branch.ensures.tree)

pub define_new-requires-clause-below : goal.define_new-requires-clause-below
define_new-requires-clause-below c =
    let was = c.self.inside in
    let scope = c.index-innermost.result.now in
    let last : c.len.result ≡ length was.scopes.items = omega (arith, c.len.ensures, was.scopes.ok.0) in
    let at = c.index-innermost.ensures ∙ ap (λ n. get_or was.scopes.items (n - 1) scope) last in
    (innermost-stands was.branches.tree was.branches.definitions was.scopes.items c.self.invariant c.args.self.now c.self.view_is c.requires.some c.name_branch.new.tree c.in_ok-branch.ensures.keeps c.in_ok-branch.ensures.tree scope at c.in_ok-branch.branch c.in_ok-branch.ensures.descendant).0

pub define_new-requires-clause-inside : goal.define_new-requires-clause-inside
define_new-requires-clause-inside c =
    let was = c.self.inside in
    let scope = c.index-innermost.result.now in
    let last : c.len.result ≡ length was.scopes.items = omega (arith, c.len.ensures, was.scopes.ok.0) in
    let at = c.index-innermost.ensures ∙ ap (λ n. get_or was.scopes.items (n - 1) scope) last in
    (innermost-stands was.branches.tree was.branches.definitions was.scopes.items c.self.invariant c.args.self.now c.self.view_is c.requires.some c.name_branch.new.tree c.in_ok-branch.ensures.keeps c.in_ok-branch.ensures.tree scope at c.in_ok-branch.branch c.in_ok-branch.ensures.descendant).1

pub define_new-requires-clause-none : goal.define_new-requires-clause-none
define_new-requires-clause-none c =
    let was = c.self.inside in
    let scope = c.index-innermost.result.now in
    let last : c.len.result ≡ length was.scopes.items = omega (arith, c.len.ensures, was.scopes.ok.0) in
    let at = c.index-innermost.ensures ∙ ap (λ n. get_or was.scopes.items (n - 1) scope) last in
    (λ i. map.get (still-names was.branches.tree was.branches.definitions was.scopes.items c.self.invariant c.args.self.now c.self.view_is c.requires.some c.name_branch.new.tree c.in_ok-branch.ensures.keeps c.in_ok-branch.ensures.tree i)
    (innermost-called was.branches.tree was.branches.definitions was.scopes.items c.self.invariant c.args.self.now c.self.view_is c.requires.some c.name_branch.new.tree c.in_ok-branch.ensures.keeps c.in_ok-branch.ensures.tree scope at c.in_ok-branch.branch c.in_ok-branch.ensures.descendant i))
    ∙ c.requires.none

pub invariant_of-self-2 : goal.invariant_of-self-2
invariant_of-self-2 c =
    let was = c.self.inside in
    (c.define_new.ensures.are, subst (λ bs. AreScopes bs was.scopes.items) (sym c.define_new.ensures.tree) (still-held was.branches.tree was.branches.definitions was.scopes.items c.self.invariant c.args.self.now c.self.view_is c.requires.some c.name_branch.new.tree c.in_ok-branch.ensures.keeps c.in_ok-branch.ensures.tree).1)

pub returns-clause-ok : goal.returns-clause-ok
returns-clause-ok c =
    let was = c.self.inside in
    let scope = c.index-innermost.result.now in
    let last : c.len.result ≡ length was.scopes.items = omega (arith, c.len.ensures, was.scopes.ok.0) in
    let at = c.index-innermost.ensures ∙ ap (λ n. get_or was.scopes.items (n - 1) scope) last in
    on_ok_weaker c.define_new.result
    (λ is. is ∙ (λ i. map.insert (still-names was.branches.tree was.branches.definitions was.scopes.items c.self.invariant c.args.self.now c.self.view_is c.requires.some c.name_branch.new.tree c.in_ok-branch.ensures.keeps c.in_ok-branch.ensures.tree i)
    (innermost-called was.branches.tree was.branches.definitions was.scopes.items c.self.invariant c.args.self.now c.self.view_is c.requires.some c.name_branch.new.tree c.in_ok-branch.ensures.keeps c.in_ok-branch.ensures.tree scope at c.in_ok-branch.branch c.in_ok-branch.ensures.descendant i) c.args.definition))
    c.define_new.ensures.ok

pub returns-clause-scopes : goal.returns-clause-scopes
returns-clause-scopes c =
    let was = c.self.inside in
    ap (λ bs. scope_texts bs was.scopes.items) c.define_new.ensures.tree ∙ still-texts was.branches.tree was.branches.definitions was.scopes.items c.self.invariant c.args.self.now c.self.view_is c.requires.some c.name_branch.new.tree c.in_ok-branch.ensures.keeps c.in_ok-branch.ensures.tree

pub returns-clause-err : goal.returns-clause-err
returns-clause-err c =
    let was = c.self.inside in
    on_err_weaker c.define_new.result (λ same. same ∙ still-names was.branches.tree was.branches.definitions was.scopes.items c.self.invariant c.args.self.now c.self.view_is c.requires.some c.name_branch.new.tree c.in_ok-branch.ensures.keeps c.in_ok-branch.ensures.tree) c.define_new.ensures.err
