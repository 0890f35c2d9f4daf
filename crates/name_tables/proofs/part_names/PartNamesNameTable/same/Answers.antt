use Rattle.std.proofs.Common.{sym, ◌∙◌}
use Rattle.std.proofs.lemmas.Bool.{true≢false}
use Rattle.name_tables.proofs.BranchNames.{names-same}
use Rattle.name_tables.proofs.part_names.PartNamesNameTable.same.Goals as goal

pub returns-then-is_within : goal.returns-then-is_within
returns-then-is_within c =
    let same = names-same c.self.inside.branches c.other.inside.branches c.self.invariant c.other.invariant in (
      λ yes. sym c.self.view_is ∙ same.1 (c.is_within.ensures.0 c.if-is_within.true, c.is_within-then-is_within.ensures.0 yes) ∙ c.other.view_is,
      λ is. c.is_within-then-is_within.ensures.1 (same.0 (c.self.view_is ∙ is ∙ sym c.other.view_is)).1,
    )

pub returns-else-is_within : goal.returns-else-is_within
returns-else-is_within c =
    let same = names-same c.self.inside.branches c.other.inside.branches c.self.invariant c.other.invariant in (
      λ yes. absurd (true≢false (sym yes ∙ c.if-is_within.false)),
      λ is. c.is_within.ensures.1 (same.0 (c.self.view_is ∙ is ∙ sym c.other.view_is)).0,
    )
