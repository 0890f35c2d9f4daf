use Rattle.std.proofs.Common.{ap, sym, subst, ◌∙◌}
use Rattle.name_tables.specs.FileNames.{AreFileNames, files_of}
use Rattle.name_tables.specs.NameTables.{file_names_before}
use Rattle.name_tables.proofs.NamedFiles.{file_names-first, file_names-removed, files-first, files-left}
use Rattle.name_tables.proofs.file_names.FileNames.remove_from.Goals as goal

-- the names without later files
left : (c : goal.After-truncate) → AreFileNames c.self.inside.tree c.remove_from.new.self
left c = file_names-removed c.self.inside.tree c.self.inside.files c.self.invariant c.remove_from.new.self c.args.file c.remove_from.ensures.values c.remove_from.ensures.len

pub invariant_of-self : goal.invariant_of-self
invariant_of-self c =
    subst (λ tree. AreFileNames tree c.remove_from.new.self) (sym c.truncate.ensures)
    (file_names-first c.self.inside.tree c.remove_from.new.self c.len.result (left c) c.len.ensures)

pub returns : goal.returns
returns c =
    ap (λ tree. files_of tree c.remove_from.new.self) c.truncate.ensures
    ∙ files-first c.self.inside.tree c.remove_from.new.self c.len.result (left c) c.len.ensures
    ∙ files-left c.self.inside.tree c.self.inside.files c.self.invariant c.remove_from.new.self c.args.file c.remove_from.ensures.values c.remove_from.ensures.len
    ∙ ap (file_names_before c.args.file) c.self.view_is
