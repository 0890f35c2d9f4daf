use Rattle.std.proofs.Common.{rules, ap, ltb, sym, ◌∙◌}
use Rattle.std.proofs.lemmas.Map.Made.{filter_same_pairs}
use Rattle.plain_data.specs.Maps.{by_text}
use Rattle.plain_data.proofs.Texts.{get-retained}
use Rattle.name_tables.specs.NameTables.{without_files_from}
use Rattle.name_tables.proofs.Names.{same_names, get-kept_before}
use Rattle.name_tables.proofs.hashed_names.HashedNamesNameTable.remove_from.Goals as goal

pub returns : goal.returns
returns c =
    let table = c.self.inside.table in
    let left = filter_same_pairs _ (λ e. ltb e.1.file c.args.file) _ (λ k v b w f' t. search rules) _ _ c.retain.ensures.filtered in
    same_names (by_text c.retain.new.self) (without_files_from c.args.file (by_text table)) (λ name.
    get-retained (λ d. ltb d.file c.args.file) table c.retain.new.self c.retain.ensures.was_unique left name
    ∙ sym (get-kept_before (λ d. d.file) c.args.file (by_text table) name))
    ∙ ap (without_files_from c.args.file) c.self.view_is
