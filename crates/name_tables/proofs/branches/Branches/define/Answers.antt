use Rattle.std.proofs.Common.{None, ap, sym, ◌∙◌}
use Rattle.std.specs.Option.{option_copied}
use Rattle.name_tables.specs.Parts.{name_of}
use Rattle.name_tables.specs.Tree.{path}
use Rattle.name_tables.specs.Branches.{names_of}
use Rattle.name_tables.proofs.BranchNames.{branch-means}
use Rattle.name_tables.proofs.Inserted.{found-none, found-some, inserted-absent, inserted-present}
use Rattle.name_tables.proofs.branches.Branches.define.Goals as goal

pub returns-then-is_some-clause-ok : goal.returns-then-is_some-clause-ok
returns-then-is_some-clause-ok c =
    let branches = c.args.self.now in
    let bs = branches.tree in
    let ds = branches.definitions in
    let found = found-some c.get.result (sym c.is_some.ensures ∙ c.if-is_some.true) in
    sym (inserted-present (names_of bs ds) (name_of (path bs c.args.branch)) c.args.definition found.0.now
    (branch-means bs ds c.requires.are c.args.branch c.requires.below c.requires.inside ∙ sym c.get.ensures ∙ ap option_copied found.1))

pub define_new-requires-clause-none : goal.define_new-requires-clause-none
define_new-requires-clause-none c =
    let branches = c.args.self.now in
    branch-means branches.tree branches.definitions c.requires.are c.args.branch c.requires.below c.requires.inside
    ∙ sym c.get.ensures ∙ ap option_copied (found-none c.get.result (sym c.is_some.ensures ∙ c.if-is_some.false))

pub returns-clause-ok : goal.returns-clause-ok
returns-clause-ok c =
    let branches = c.args.self.now in
    let name = name_of (path branches.tree c.args.branch) in
    ap (λ names. (names, None)) c.in_ok-define_new.ensures.ok
    ∙ sym (inserted-absent (names_of branches.tree branches.definitions) name c.args.definition
    (branch-means branches.tree branches.definitions c.requires.are c.args.branch c.requires.below c.requires.inside
    ∙ sym c.get.ensures ∙ ap option_copied (found-none c.get.result (sym c.is_some.ensures ∙ c.if-is_some.false))))
