use Rattle.std.proofs.Common.{sym, subst, ◌∙◌}
use Rattle.std.proofs.lemmas.Bool.{true≢false}
use Rattle.name_tables.specs.FileNames.{IsAmong}
use Rattle.name_tables.proofs.NamedFiles.{files-same}
use Rattle.name_tables.proofs.file_names.FileNames.same.Goals as goal

pub returns-then-is_among : goal.returns-then-is_among
returns-then-is_among c =
    let self = c.self.inside in
    let other = c.other.inside in
    let same = files-same self.tree self.files c.self.invariant other.tree other.files c.other.invariant in (
      λ yes. sym c.self.view_is
          ∙ same.1 (subst (IsAmong self.tree self.files) (sym c.other.view_is) (c.is_among.ensures.0 c.if-is_among.true), subst (IsAmong other.tree other.files) (sym c.self.view_is) (c.is_among-then-is_among.ensures.0 yes))
          ∙ c.other.view_is,
      λ is. c.is_among-then-is_among.ensures.1 (subst (IsAmong other.tree other.files) c.self.view_is (same.0 (c.self.view_is ∙ is ∙ sym c.other.view_is)).1),
    )

pub returns-else-is_among : goal.returns-else-is_among
returns-else-is_among c =
    let self = c.self.inside in
    let other = c.other.inside in
    let same = files-same self.tree self.files c.self.invariant other.tree other.files c.other.invariant in (
      λ yes. absurd (true≢false (sym yes ∙ c.if-is_among.false)),
      λ is. c.is_among.ensures.1 (subst (IsAmong self.tree self.files) c.other.view_is (same.0 (c.self.view_is ∙ is ∙ sym c.other.view_is)).0),
    )
