use Rattle.std.proofs.Common.{rules, ◌++◌, ap, sym, ◌∙◌, append-nil}
use Rattle.protoc_rules.proofs.Distinct.{across-quiet}
use Rattle.protoc_rules.proofs.spans.tell_across.Goals as goal

pub returns-then-branch : goal.returns-then-branch
returns-then-branch c =
    let none = across-quiet c.args.id.now c.args.ranges.reserved.now c.args.ranges.extensions.now (c.in_ok-are_all_apart.ensures (search rules)) in
    sym (ap (λ told. c.args.found.now ++ told) none ∙ append-nil c.args.found.now)
