use Rattle.std.proofs.Common.{sym}
use Rattle.wire_format.proofs.Steps.{tokens-none, first-none}
use Rattle.wire_format.proofs.fields.next_field.Goals as goal

pub returns-then-is_empty-clause-first : goal.returns-then-is_empty-clause-first
returns-then-is_empty-clause-first c = first-none _ _ _ (tokens-none _ _ (sym c.if-is_empty.ensures))

pub returns-in-Some : goal.returns-in-Some
returns-in-Some c =
    record {
      first = rw c.in-Some.is at c.short_field.ensures.first c.args.levels;
      shorter = rw c.in-Some.is at c.short_field.ensures.shorter;
    }
