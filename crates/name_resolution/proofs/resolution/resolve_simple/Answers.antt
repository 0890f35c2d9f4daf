use Rattle.std.specs.BTreeSet.{contains_by}
use Rattle.std.specs.Ordering.{nat_cmp}
use Rattle.std.specs.String.{string_bytes}
use Rattle.name_resolution.specs.Parents.{outer}
use Rattle.name_resolution.specs.Resolution.{resolution_in, simple}
use Rattle.name_resolution.proofs.Outward.{one-scope-further}
use Rattle.name_resolution.proofs.resolution.resolve_simple.Goals as goal

pub loop-parent-preserved : goal.loop-parent-preserved
loop-parent-preserved g c =
    let kept =
    one-scope-further (g.N.NameTable.names c.args.names.now) (λ n. contains_by (nat_cmp n) c.args.wanted.visible.now) c.args.wanted.filter c.args.reference.name.now
    (resolution_in c.loop-parent.best) (resolution_in c.in_ok-answer.answer) (resolution_in c.or-best.result)
    (simple (g.N.NameTable.names c.args.names.now) (λ n. contains_by (nat_cmp n) c.args.wanted.visible.now) c.args.wanted.filter (outer c.args.reference.scope.now) c.args.reference.name.now)
    c.in-Some.parent.now (string_bytes c.write_joined.new.full_name) c.as_str.result.now c.next.new.self c.loop-parent.parent-iterator c.is_found.result
    c.in-Some.ensures.steps c.in_ok-write_joined.ensures c.as_str.ensures.value c.in_ok-answer.ensures
    c.is_found.ensures c.if-is_found.false c.or-best.ensures c.loop-parent.invariant.2 in
    (tt, tt, kept)
