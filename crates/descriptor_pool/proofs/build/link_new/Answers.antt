use Rattle.std.proofs.Common.{subst, sym, ◌∙◌, rules}
use Rattle.descriptor_pool.specs.Build.{name_faults, reference_faults}
use Rattle.descriptor_pool.specs.Error.{TellsAll, TellsFaults}
use Rattle.descriptor_pool.specs.GivenBack.{GivesBack}
use Rattle.pool_contents.specs.Growing.{new_records}
use Rattle.pool_contents.specs.Inner.{contents_in}
use Rattle.descriptor_pool.proofs.Passed.{given-err, ok-is, tells-err}
use Rattle.descriptor_pool.proofs.Stages.{before-seen, begin-seen, counts-added, counts-seen, few-files, fresh, fresh-seen, imports-seen, items-seen, made-seen, names-told, numbers-seen, places-lie, references-told, short-added, short-seen, told-first, told-second}
use Rattle.descriptor_pool.proofs.build.link_new.Goals as goal

-- what is new fits
pub enter_names-requires-clause-counts : goal.enter_names-requires-clause-counts
enter_names-requires-clause-counts c =
    counts-added c.args.pool.now c.add_files.new.self c.add_files.new.self c.args.new.now c.requires.base c.requires.whole c.in_ok-add_files.ensures.ok c.add_files.ensures.kept c.requires.counts

pub enter_names-requires-clause-short : goal.enter_names-requires-clause-short
enter_names-requires-clause-short c =
    short-added c.args.pool.now c.add_files.new.self c.add_files.new.self c.args.new.now c.requires.base c.requires.whole c.in_ok-add_files.ensures.ok c.add_files.ensures.kept c.requires.short

-- the first pass is refused with its faults
pub returns-in_err-enter_names-clause-faults : goal.returns-in_err-enter_names-clause-faults
returns-in_err-enter_names-clause-faults c =
    let old = c.args.pool.now in
    let new = c.args.new.now in
    let e = c.in_err-enter_names.field-0.0 in
    let told = names-told old c.add_files.new.self c.enter_names.new.pool new c.requires.base c.requires.whole c.in_ok-add_files.ensures.ok c.add_files.ensures.kept in
    tells-err c.args.terms.most _ e _ (search rules)
    (told-first c.args.terms.most e (name_faults (contents_in old.inner) new) (reference_faults (contents_in old.inner) new) (subst (TellsFaults c.args.terms.most e) told c.in_err-enter_names.ensures.faults))

-- there are no more files than fit
pub see_files-requires-clause-few : goal.see_files-requires-clause-few
see_files-requires-clause-few c =
    few-files c.args.pool.now c.add_files.new.self c.enter_names.new.pool c.args.new.now c.requires.base c.requires.whole c.in_ok-add_files.ensures.ok c.add_files.ensures.kept
    c.in_ok-enter_names.ensures.entered c.enter_names.ensures.kept c.requires.counts

-- the names of files mean some of these
pub see_files-requires-clause-places : goal.see_files-requires-clause-places
see_files-requires-clause-places c =
    places-lie c.args.pool.now c.add_files.new.self c.enter_names.new.pool c.args.new.now c.requires.base c.requires.whole c.in_ok-add_files.ensures.ok c.add_files.ensures.kept
    c.in_ok-enter_names.ensures.entered c.enter_names.ensures.kept c.requires.before.1

-- what is new still fits
pub make_items-requires-clause-counts : goal.make_items-requires-clause-counts
make_items-requires-clause-counts c =
    counts-seen c.args.pool.now c.add_files.new.self c.enter_names.new.pool c.args.new.now c.requires.base c.requires.whole c.in_ok-add_files.ensures.ok c.add_files.ensures.kept
    c.in_ok-enter_names.ensures.entered c.enter_names.ensures.kept c.see_files.new.self c.in_ok-see_files.ensures.ok c.see_files.ensures.kept c.requires.counts

-- nothing but files and names came by now
pub make_items-requires-clause-before : goal.make_items-requires-clause-before
make_items-requires-clause-before c =
    before-seen c.args.pool.now c.add_files.new.self c.enter_names.new.pool c.args.new.now c.requires.base c.requires.whole c.in_ok-add_files.ensures.ok c.add_files.ensures.kept
    c.in_ok-enter_names.ensures.entered c.enter_names.ensures.kept c.see_files.new.self c.in_ok-see_files.ensures.ok c.see_files.ensures.kept

-- the messages of the pool lead to its extensions
pub make_items-requires-clause-numbers : goal.make_items-requires-clause-numbers
make_items-requires-clause-numbers c =
    numbers-seen c.args.pool.now c.add_files.new.self c.enter_names.new.pool c.args.new.now c.requires.base c.requires.whole c.in_ok-add_files.ensures.ok c.add_files.ensures.kept
    c.in_ok-enter_names.ensures.entered c.enter_names.ensures.kept c.see_files.new.self c.in_ok-see_files.ensures.ok c.see_files.ensures.kept c.requires.numbers

-- the names of messages begin where they began
pub make_items-requires-clause-names : goal.make_items-requires-clause-names
make_items-requires-clause-names c =
    begin-seen c.args.pool.now c.add_files.new.self c.enter_names.new.pool c.args.new.now c.requires.base c.requires.whole c.in_ok-add_files.ensures.ok c.add_files.ensures.kept
    c.in_ok-enter_names.ensures.entered c.enter_names.ensures.kept c.see_files.new.self c.in_ok-see_files.ensures.ok c.see_files.ensures.kept c.requires.names

-- no list of the files is too long
pub make_items-requires-clause-short : goal.make_items-requires-clause-short
make_items-requires-clause-short c =
    short-seen c.args.pool.now c.add_files.new.self c.enter_names.new.pool c.args.new.now c.requires.base c.requires.whole c.in_ok-add_files.ensures.ok c.add_files.ensures.kept
    c.in_ok-enter_names.ensures.entered c.enter_names.ensures.kept c.see_files.new.self c.in_ok-see_files.ensures.ok c.see_files.ensures.kept c.requires.short

-- each new file has its syntax and its imports
pub make_items-requires-clause-imports : goal.make_items-requires-clause-imports
make_items-requires-clause-imports c =
    imports-seen c.args.pool.now c.add_files.new.self c.enter_names.new.pool c.args.new.now c.requires.base c.requires.whole c.in_ok-add_files.ensures.ok c.add_files.ensures.kept
    c.in_ok-enter_names.ensures.entered c.enter_names.ensures.kept c.see_files.new.self c.in_ok-see_files.ensures.ok c.see_files.ensures.kept

-- the items will be those of what is declared
pub make_items-requires-clause-items : goal.make_items-requires-clause-items
make_items-requires-clause-items c =
    items-seen c.args.pool.now c.add_files.new.self c.enter_names.new.pool c.args.new.now c.requires.base c.requires.whole c.in_ok-add_files.ensures.ok c.add_files.ensures.kept
    c.in_ok-enter_names.ensures.entered c.enter_names.ensures.kept c.see_files.new.self c.in_ok-see_files.ensures.ok c.see_files.ensures.kept c.requires.made c.requires.counts

pub returns-clause-ok : goal.returns-clause-ok
returns-clause-ok c =
    let made = made-seen c.args.pool.now c.add_files.new.self c.enter_names.new.pool c.args.new.now c.requires.base c.requires.whole c.in_ok-add_files.ensures.ok c.add_files.ensures.kept
    c.in_ok-enter_names.ensures.entered c.enter_names.ensures.kept c.see_files.new.self c.in_ok-see_files.ensures.ok c.see_files.ensures.kept in
    ok-is c.make_items.result _ _ _ made c.make_items.ensures.made

pub returns-clause-faults : goal.returns-clause-faults
returns-clause-faults c =
    let p = contents_in c.args.pool.now.inner in
    let new = c.args.new.now in
    let first = names-told c.args.pool.now c.add_files.new.self c.enter_names.new.pool c.args.new.now c.requires.base c.requires.whole c.in_ok-add_files.ensures.ok c.add_files.ensures.kept in
    let second = references-told c.args.pool.now c.add_files.new.self c.enter_names.new.pool c.args.new.now c.requires.base c.requires.whole c.in_ok-add_files.ensures.ok c.add_files.ensures.kept
    c.in_ok-enter_names.ensures.entered c.enter_names.ensures.kept c.see_files.new.self c.in_ok-see_files.ensures.ok c.see_files.ensures.kept in
    told-second c.args.terms.most c.make_items.result (name_faults p new) (reference_faults p new) (sym first ∙ c.in_ok-enter_names.ensures.faults)
    (subst (TellsAll c.args.terms.most c.make_items.result) second c.make_items.ensures.faults)

-- the records are there, whichever pass tells faults
pub returns-in_err-enter_names-clause-there : goal.returns-in_err-enter_names-clause-there
returns-in_err-enter_names-clause-there c =
    given-err _ c.in_err-enter_names.field-0.0 _ _ (search rules)
    (c.enter_names.ensures.there ∙ fresh c.args.pool.now c.add_files.new.self c.add_files.new.self c.args.new.now c.requires.base c.requires.whole c.in_ok-add_files.ensures.ok c.add_files.ensures.kept)

pub returns-clause-there : goal.returns-clause-there
returns-clause-there c =
    subst (λ new. GivesBack c.make_items.result new (new_records c.make_items.new.pool))
    (fresh-seen c.args.pool.now c.add_files.new.self c.enter_names.new.pool c.args.new.now c.requires.base c.requires.whole c.in_ok-add_files.ensures.ok c.add_files.ensures.kept
    c.in_ok-enter_names.ensures.entered c.enter_names.ensures.kept c.see_files.new.self c.in_ok-see_files.ensures.ok c.see_files.ensures.kept)
    c.make_items.ensures.there
