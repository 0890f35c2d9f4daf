use Rattle.std.proofs.Common.{◌≡◌, ◌≢◌, ◌==◌, ℕ, List, [], ◌∷◌, None, arith, length, ap, sym, subst, ◌∙◌}
use Rattle.std.specs.BTreeSet.{contains_by}
use Rattle.std.specs.FinMap as finite
use Rattle.std.specs.Ordering.{nat_cmp}
use Rattle.std.specs.Result.{IfOk}
use Rattle.std.proofs.lemmas.Str.Pattern.{strip_prefix_char}
use Rattle.proto_types.specs.Names.{join}
use Rattle.name_tables.proofs.NameParts.{part-undotted}
use Rattle.name_resolution.specs.Parents.{outer}
use Rattle.name_resolution.specs.Resolution.{resolution_in, resolution, look, simple, dotted}
use Rattle.name_resolution.proofs.Dots.{none-long, resolution-empty, resolution-dotted, resolution-simple}
use Rattle.name_resolution.proofs.Innermost.{undefined}
use Rattle.name_resolution.proofs.in_parts.resolve_in_parts.Goals as goal
use Rattle.name_resolution.proofs.in_parts.resolve_in_parts.Goals.{After-look_in-in-None, After-look_for_parts, After-look_outwards}

-- in the empty scope it means what the full name means
in_empty : (c : After-look_in-in-None)
    → look c.args.names.now (λ n. contains_by (nat_cmp n) c.args.visible.now) c.args.filter c.args.name.now
    ≡ resolution c.args.names.now (λ n. contains_by (nat_cmp n) c.args.visible.now) c.args.filter c.args.scope.now c.args.name.now
in_empty c =
    let no_dot : (rest : List ℕ) → c.args.name.now ≢ 46 ∷ rest = strip_prefix_char 46 c.args.name.now None c.in-None.ensures.cases (omega arith) in
    let empty = none-long c.args.scope.now (sym c.is_empty.ensures ∙ c.if-is_empty.true) in
    sym (resolution-empty c.args.names.now (λ n. contains_by (nat_cmp n) c.args.visible.now) c.args.filter c.args.scope.now c.args.name.now no_dot empty)

-- a name with a dot
in_scope-dotted : (c : After-look_for_parts)
    → dotted c.scope-in-None-2.result.0 (λ n. contains_by (nat_cmp n) c.args.visible.now) c.args.filter (outer c.scope-in-None-2.result.1) c.args.name.now
    ≡ resolution c.args.names.now (λ n. contains_by (nat_cmp n) c.args.visible.now) c.args.filter c.args.scope.now c.args.name.now
in_scope-dotted c =
    let no_dot : (rest : List ℕ) → c.args.name.now ≢ 46 ∷ rest = strip_prefix_char 46 c.args.name.now None c.in-None.ensures.cases (omega arith) in
    let some : c.args.scope.now ≢ [] = λ e. let empty = ap (λ s. length s == 0) e in cc in
    ap (λ s. dotted s.0 (λ n. contains_by (nat_cmp n) c.args.visible.now) c.args.filter (outer s.1) c.args.name.now) c.scope-in-None-2.ensures
    ∙ sym (resolution-dotted c.args.names.now (λ n. contains_by (nat_cmp n) c.args.visible.now) c.args.filter c.args.scope.now c.args.name.now no_dot some c.if-contains.ensures.cases)

-- a name without one
in_scope-simple : (c : After-look_outwards)
    → simple c.scope-in-None-3.result.0 (λ n. contains_by (nat_cmp n) c.args.visible.now) c.args.filter (outer c.scope-in-None-3.result.1) c.args.name.now
    ≡ resolution c.args.names.now (λ n. contains_by (nat_cmp n) c.args.visible.now) c.args.filter c.args.scope.now c.args.name.now
in_scope-simple c =
    let no_dot : (rest : List ℕ) → c.args.name.now ≢ 46 ∷ rest = strip_prefix_char 46 c.args.name.now None c.in-None.ensures.cases (omega arith) in
    let some : c.args.scope.now ≢ [] = λ e. let empty = ap (λ s. length s == 0) e in cc in
    ap (λ s. simple s.0 (λ n. contains_by (nat_cmp n) c.args.visible.now) c.args.filter (outer s.1) c.args.name.now) c.scope-in-None-3.ensures
    ∙ sym (resolution-simple c.args.names.now (λ n. contains_by (nat_cmp n) c.args.visible.now) c.args.filter c.args.scope.now c.args.name.now no_dot some c.if-contains.ensures.cases)

pub returns-in-None-clause-answer : goal.returns-in-None-clause-answer
returns-in-None-clause-answer c =
    let means = ap (λ s. look s.0 (λ n. contains_by (nat_cmp n) c.args.visible.now) c.args.filter (join s.1 c.args.name.now)) c.scope-in-None.ensures ∙ in_empty c in
    subst (λ x. IfOk c.look_in-in-None.result (λ r. resolution_in r ≡ x)) means c.look_in-in-None.ensures.answer

pub returns-in-None-clause-nothing : goal.returns-in-None-clause-nothing
returns-in-None-clause-nothing c nothing =
    c.look_in-in-None.ensures.nothing
    (ap (λ s. finite.get s.0 (join s.1 c.args.name.now)) c.scope-in-None.ensures
    ∙ undefined c.args.names.now (λ n. contains_by (nat_cmp n) c.args.visible.now) c.args.filter c.args.name.now (in_empty c ∙ nothing))

pub returns-in-None-2-clause-answer : goal.returns-in-None-2-clause-answer
returns-in-None-2-clause-answer c =
    subst (λ x. IfOk c.look_for_parts.result (λ r. resolution_in r ≡ x)) (in_scope-dotted c) c.look_for_parts.ensures.answer

pub returns-in-None-2-clause-nothing : goal.returns-in-None-2-clause-nothing
returns-in-None-2-clause-nothing c nothing = c.look_for_parts.ensures.nothing (in_scope-dotted c ∙ nothing)

pub returns-in-None-3-clause-answer : goal.returns-in-None-3-clause-answer
returns-in-None-3-clause-answer c =
    subst (λ x. IfOk c.look_outwards.result (λ r. resolution_in r ≡ x)) (in_scope-simple c) c.look_outwards.ensures.answer

pub returns-in-None-3-clause-nothing : goal.returns-in-None-3-clause-nothing
returns-in-None-3-clause-nothing c nothing = c.look_outwards.ensures.nothing (in_scope-simple c ∙ nothing)

pub look_outwards-requires : goal.look_outwards-requires
look_outwards-requires c = part-undotted c.args.name.now c.if-contains.ensures.cases
