use Rattle.std.proofs.Common.{ap, sym, ◌∙◌}
use Rattle.std.specs.List.{list_all}
use Rattle.schema_changes.specs.Parts.{parts, has_value}
use Rattle.schema_changes.proofs.Held.{open_holds, closed_holds}
use Rattle.schema_changes.proofs.kinds.enum_holds_each.Goals as goal

pub returns-then-is_open : goal.returns-then-is_open
returns-then-is_open c =
    c.if-is_open.true ∙ sym (open_holds (parts c.args.items.now) c.args.index c.args.values.now (sym c.is_open.ensures ∙ c.if-is_open.true))

pub returns-else-is_open : goal.returns-else-is_open
returns-else-is_open c =
    c.has_each.ensures ∙ ap (λ xs. list_all (λ v. has_value xs v.number) c.args.values.now) c.values.ensures
    ∙ sym (closed_holds (parts c.args.items.now) c.args.index c.args.values.now (sym c.is_open.ensures ∙ c.if-is_open.false))
