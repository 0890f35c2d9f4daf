use Rattle.std.proofs.Common.{◌≡◌, ◌∙◌, ap, sym, subst, map, find}
use Rattle.std.specs.Cmp.Lexicographic.{pointwise}
use Rattle.std.specs.Option.{IfSome, option_and_then, option_copied}
use Rattle.std.specs.Ordering.{int_eq}
use Rattle.pool_faults.specs.Labels.{locations, span_of}
use Rattle.proto_types.specs.File.{file_at}
use Rattle.pool_faults.proofs.labels.Labels.span.Goals as goal

pub returns-in-Some-clause-span : goal.returns-in-Some-clause-span
returns-in-Some-clause-span c =
    let all : c.in-Some.spans.now ≡ locations (file_at (map (λ f. f.raw) c.self.inside.files.now) c.args.index) =
    subst (λ found. IfSome found (λ ls. ls ≡ locations (file_at (map (λ f. f.raw) c.self.inside.files.now) c.args.index)))
    (sym c.get.ensures.value ∙ ap option_copied c.in-Some.is) (c.self.invariant c.args.index) in
    let here : file_at (map (λ f. f.raw) c.self.inside.files.now) c.args.index ≡ c.args.file.now =
    ap (λ files. file_at (map (λ f. f.raw) files) c.args.index) c.self.view_is ∙ sym c.requires in
    c.span.ensures
    ∙ ap (λ ls. option_and_then (λ l. span_of l.span) (find (λ l. pointwise int_eq l.path c.args.path.now) ls)) (all ∙ ap locations here)
