use Rattle.std.proofs.Common.{rules, ◌≡◌, None, Some, sym, subst, ◌∙◌}
use Rattle.std.specs.FinMap as finite
use Rattle.joined_files.specs.Joining.{HaveNames, name_in}
use Rattle.verdict_texts.proofs.Results.{on-ok}
use Rattle.joined_files.proofs.Joins.{join-none, names-next, names-stay, told-none}
use Rattle.joined_files.proofs.joining.join_file.Goals as goal

-- a file has the name
pub returns-in-Some-clause-names : goal.returns-in-Some-clause-names
returns-in-Some-clause-names c =
    let found : finite.get c.args.names.now (name_in c.args.file) ≡ Some c.in-Some.at = search rules in
    on-ok c.join_named.result
    (λ is. subst (HaveNames c.args.names.now) (sym is) (names-stay c.args.names.now c.args.files.now.items c.args.file c.in-Some.at c.requires found))
    c.join_named.ensures.files

-- none has it
pub returns-in_ok-join_new-in-None-clause-files : goal.returns-in_ok-join_new-in-None-clause-files
returns-in_ok-join_new-in-None-clause-files c =
    let none : finite.get c.args.names.now (name_in c.args.file) ≡ None = search rules in
    c.in_ok-join_new-in-None.ensures.files ∙ join-none c.args.file 0 c.args.files.now.items (sym (c.requires (name_in c.args.file)) ∙ none)

pub returns-in_ok-join_new-in-None-clause-names : goal.returns-in_ok-join_new-in-None-clause-names
returns-in_ok-join_new-in-None-clause-names c =
    let none : finite.get c.args.names.now (name_in c.args.file) ≡ None = search rules in
    let files = c.in_ok-join_new-in-None.ensures.files ∙ join-none c.args.file 0 c.args.files.now.items (sym (c.requires (name_in c.args.file)) ∙ none) in
    subst (λ names. HaveNames names c.join_new.new.files.items) (sym c.in_ok-join_new-in-None.ensures.names)
    (subst (HaveNames _) (sym files) (names-next c.args.names.now c.args.files.now.items c.args.file c.requires none))

pub returns-in_ok-join_new-in-None-clause-told : goal.returns-in_ok-join_new-in-None-clause-told
returns-in_ok-join_new-in-None-clause-told c =
    let none : finite.get c.args.names.now (name_in c.args.file) ≡ None = search rules in
    told-none c.args.file c.args.files.now.items (sym (c.requires (name_in c.args.file)) ∙ none)
