use Rattle.std.proofs.Common.{◌≡◌, ap, sym, ◌∙◌, set, Some, None, ◌∷◌, [], arith}
use Rattle.joined_files.specs.Differences.{difference}
use Rattle.joined_files.specs.Joining.{name_in}
use Rattle.joined_files.proofs.Joins.{join-at, stands-below, told-at}
use Rattle.joined_files.proofs.joining.join_named.Goals as goal

-- the first of its name stands among the files
pub index_mut-first-requires : goal.index_mut-first-requires
index_mut-first-requires c = omega (arith, stands-below (name_in c.args.file) c.args.files.now.items c.args.at c.requires)

-- the two differ
pub returns-in_ok-unequal_file-in-Some-clause-files : goal.returns-in_ok-unequal_file-in-Some-clause-files
returns-in_ok-unequal_file-in-Some-clause-files c =
    let differs : difference c.index_mut-first.result.now.file c.args.file.file ≡ Some c.in-Some.part = sym c.difference.ensures ∙ c.in-Some.is in
    join-at c.args.file c.args.files.now.items c.args.at c.index_mut-first.result.now (Some c.in-Some.part) c.requires c.index_mut-first.ensures.value differs

pub returns-in_ok-unequal_file-in-Some-clause-told : goal.returns-in_ok-unequal_file-in-Some-clause-told
returns-in_ok-unequal_file-in-Some-clause-told c =
    let differs : difference c.index_mut-first.result.now.file c.args.file.file ≡ Some c.in-Some.part = sym c.difference.ensures ∙ c.in-Some.is in
    ap (λ u. u ∷ []) c.in_ok-unequal_file-in-Some.ensures
    ∙ told-at c.args.file c.args.files.now.items c.args.at c.index_mut-first.result.now (Some c.in-Some.part) c.requires c.index_mut-first.ensures.value differs

-- they are equal apart from their places
pub returns-in-None-clause-files : goal.returns-in-None-clause-files
returns-in-None-clause-files c =
    let differs : difference c.index_mut-first.result.now.file c.args.file.file ≡ None = sym c.difference.ensures ∙ c.in-None.is in
    ap (set c.args.files.now.items c.args.at) c.keep_places.ensures
    ∙ join-at c.args.file c.args.files.now.items c.args.at c.index_mut-first.result.now None c.requires c.index_mut-first.ensures.value differs

pub returns-in-None-clause-told : goal.returns-in-None-clause-told
returns-in-None-clause-told c =
    let differs : difference c.index_mut-first.result.now.file c.args.file.file ≡ None = sym c.difference.ensures ∙ c.in-None.is in
    told-at c.args.file c.args.files.now.items c.args.at c.index_mut-first.result.now None c.requires c.index_mut-first.ensures.value differs
