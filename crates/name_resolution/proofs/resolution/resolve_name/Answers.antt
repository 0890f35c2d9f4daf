use Rattle.std.proofs.Common.{◌≢◌, ◌==◌, ℕ, List, [], ◌∷◌, None, arith, rules, length, ap}
use Rattle.std.specs.BTreeSet.{contains_by}
use Rattle.std.specs.Ordering.{nat_cmp}
use Rattle.std.proofs.lemmas.Str.Pattern.{strip_prefix_char}
use Rattle.name_resolution.proofs.Dots.{resolution_without_dot, resolution-dotted, resolution-simple}
use Rattle.name_resolution.proofs.resolution.resolve_name.Goals as goal

pub returns-in-None : goal.returns-in-None
returns-in-None g c =
    let no_dot : (rest : List ℕ) → c.args.name.now ≢ 46 ∷ rest = strip_prefix_char 46 c.args.name.now None c.in-None.ensures.cases (omega arith) in
    let e = resolution_without_dot (g.N.NameTable.names c.args.names.now) (λ n. contains_by (nat_cmp n) c.args.visible.now) c.args.filter c.args.scope.now c.args.name.now no_dot in
    rw e (search rules)

pub returns-in-None-2 : goal.returns-in-None-2
returns-in-None-2 g c =
    let no_dot : (rest : List ℕ) → c.args.name.now ≢ 46 ∷ rest = strip_prefix_char 46 c.args.name.now None c.in-None.ensures.cases (omega arith) in
    let some : c.args.scope.now ≢ [] = λ e. let empty = ap (λ s. length s == 0) e in cc in
    let e = resolution-dotted (g.N.NameTable.names c.args.names.now) (λ n. contains_by (nat_cmp n) c.args.visible.now) c.args.filter c.args.scope.now c.args.name.now no_dot some c.if-contains.ensures.cases in
    rw e c.resolve_dotted.ensures

pub returns-in-None-3 : goal.returns-in-None-3
returns-in-None-3 g c =
    let no_dot : (rest : List ℕ) → c.args.name.now ≢ 46 ∷ rest = strip_prefix_char 46 c.args.name.now None c.in-None.ensures.cases (omega arith) in
    let some : c.args.scope.now ≢ [] = λ e. let empty = ap (λ s. length s == 0) e in cc in
    let e = resolution-simple (g.N.NameTable.names c.args.names.now) (λ n. contains_by (nat_cmp n) c.args.visible.now) c.args.filter c.args.scope.now c.args.name.now no_dot some c.if-contains.ensures.cases in
    rw e c.resolve_simple.ensures
