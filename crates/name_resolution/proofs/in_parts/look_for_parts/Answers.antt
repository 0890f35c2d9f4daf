use Rattle.std.proofs.Common.{ℕ, Bool, refl, ap, sym, ◌∙◌}
use Rattle.std.specs.BTreeSet.{contains_by}
use Rattle.std.specs.Ordering.{nat_cmp}
use Rattle.proto_types.specs.Names.{join}
use Rattle.name_resolution.specs.Parents.{outer}
use Rattle.name_resolution.proofs.Held.{dotted-none, dotted-some, dotted-defined, dotted-undefined}
use Rattle.name_resolution.proofs.in_parts.look_for_parts.Goals as goal

pub returns-in_default-clause-answer : goal.returns-in_default-clause-answer
returns-in_default-clause-answer c =
    let seen : ℕ → Bool = λ n. contains_by (nat_cmp n) c.args.wanted.visible.now in
    sym (dotted-none c.args.scope.0 seen c.args.wanted.filter c.args.name.now (outer c.args.scope.1) (c.in_default.ensures.none seen c.args.wanted.filter refl))

pub returns-in_err-full_name-clause-nothing : goal.returns-in_err-full_name-clause-nothing
returns-in_err-full_name-clause-nothing c nothing =
    let seen : ℕ → Bool = λ n. contains_by (nat_cmp n) c.args.wanted.visible.now in
    absurd (dotted-some c.args.scope.0 seen c.args.wanted.filter c.args.name.now (outer c.args.scope.1) c.in-Some.scope
    (c.in-Some.ensures.found seen c.args.wanted.filter) nothing)

pub returns-in_err-from_str-in-None-clause-nothing : goal.returns-in_err-from_str-in-None-clause-nothing
returns-in_err-from_str-in-None-clause-nothing c nothing =
    let seen : ℕ → Bool = λ n. contains_by (nat_cmp n) c.args.wanted.visible.now in
    absurd (dotted-some c.args.scope.0 seen c.args.wanted.filter c.args.name.now (outer c.args.scope.1) c.in-Some.scope
    (c.in-Some.ensures.found seen c.args.wanted.filter) nothing)

pub returns-in-Some-find-clause-answer : goal.returns-in-Some-find-clause-answer
returns-in-Some-find-clause-answer c =
    let seen : ℕ → Bool = λ n. contains_by (nat_cmp n) c.args.wanted.visible.now in
    c.judge.ensures
    ∙ dotted-defined c.args.scope.0 seen c.args.wanted.filter c.args.name.now (outer c.args.scope.1) c.in-Some.scope
    (c.in-Some.ensures.found seen c.args.wanted.filter) c.from_string.result c.in-Some-find.def.now c.in-Some.ensures.names c.in-Some-find.ensures
    (c.from_string.ensures ∙ c.in_ok-full_name.ensures ∙ ap (λ t. join t c.args.name.now) c.text.ensures)

pub returns-in_ok-from_str-in-None-clause-answer : goal.returns-in_ok-from_str-in-None-clause-answer
returns-in_ok-from_str-in-None-clause-answer c =
    let seen : ℕ → Bool = λ n. contains_by (nat_cmp n) c.args.wanted.visible.now in
    dotted-undefined c.args.scope.0 seen c.args.wanted.filter c.args.name.now (outer c.args.scope.1) c.in-Some.scope
    (c.in-Some.ensures.found seen c.args.wanted.filter) c.in_ok-from_str-in-None.field-0 c.from_string-in-None.result
    c.in-Some.ensures.names c.in-None.ensures c.in_ok-from_str-in-None.ensures
    (c.from_string-in-None.ensures ∙ c.in_ok-full_name.ensures ∙ ap (λ t. join t c.args.name.now) c.text.ensures)
