use Rattle.std.proofs.Common.{◌∙◌, ap}
use Rattle.pool_faults.proofs.Firsts.{joined-none, joined-some}
use Rattle.std.specs.Option.{option_copied, option_map}
use Rattle.std.specs.Cmp.Lexicographic.{pointwise}
use Rattle.std.specs.Ordering.{int_eq}
use Rattle.std.specs.Prelude.{find}
use Rattle.pool_faults.specs.Labels.{span_of}
use Rattle.pool_faults.proofs.spans.Spans.span.Goals as goal

pub returns-in_err-get : goal.returns-in_err-get
returns-in_err-get c =
    c.from_residual.ensures ∙ joined-none (λ l. span_of l.span) (find (λ l. pointwise int_eq l.path c.args.path.now) c.args.self.now) (option_copied c.get.result)
    (c.get.ensures.value ∙ c.self.invariant c.args.path.now ∙ ap (λ ls. option_map (λ l. span_of l.span) (find (λ l. pointwise int_eq l.path c.args.path.now) ls)) c.self.view_is)
    (ap option_copied c.in_err-get.was)

pub returns : goal.returns
returns c =
    joined-some (λ l. span_of l.span) (find (λ l. pointwise int_eq l.path c.args.path.now) c.args.self.now) (option_copied c.get.result) c.in_ok-get.field-0.now
    (c.get.ensures.value ∙ c.self.invariant c.args.path.now ∙ ap (λ ls. option_map (λ l. span_of l.span) (find (λ l. pointwise int_eq l.path c.args.path.now) ls)) c.self.view_is)
    (ap option_copied c.in_ok-get.was)
