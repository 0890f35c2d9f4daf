use Rattle.std.proofs.Common.{◌≡◌, ◌<◌, ◌≤◌, ℕ, List, Option, None, Result, Ok, Err, OnOk, OnErr, length, sym, ◌∙◌}
use Rattle.std.specs.FinMap as map
use Rattle.std.proofs.lemmas.Result.{on_err_weaker, on_ok_weaker}
use Rattle.pool_types.specs.declared.contents.definition.Definition.{Definition}
use Rattle.name_tables.specs.Parts.{name_of}
use Rattle.name_tables.specs.Tree.{Branch, path}
use Rattle.name_tables.specs.Branches.{AreBranches, names_of}
use Rattle.name_tables.specs.Entered.{Enters, value_at}
use Rattle.name_tables.proofs.BranchNames.{branch-means, branches-entered, branches-same, definitions-alike, names-defined, own-descendant}
use Rattle.name_tables.proofs.branches.Branches.define_new.Goals as goal

-- where the branch has come to mean something, or not
module _ (bs : List Branch) (ds more : List (Option Definition)) (at : ℕ) (are : AreBranches bs ds) (below : 0 < at) (inside : at < length bs) (len : (n : ℕ) → length ds ≤ n → at < n → length more ≤ n) where
  fits : length more ≤ length bs
  fits = len (length bs) are.inside inside

  same : ((k : ℕ) → value_at more k ≡ value_at ds k) → AreBranches bs more
  same is = branches-same bs ds are more is fits

  entered : (d : Definition) → Enters ds more at d → AreBranches bs more
  entered d enters = branches-entered bs ds are more at d enters below fits

  more-names : (d : Definition) → Enters ds more at d → map.get (names_of bs ds) (name_of (path bs at)) ≡ None → names_of bs more ≡ map.insert (names_of bs ds) (name_of (path bs at)) d
  more-names d enters none =
      names-defined bs ds are more (name_of (path bs at)) at d enters (entered d enters) (own-descendant bs ds are at below inside)
      (sym (branch-means bs ds are at below inside) ∙ none)

-- either way
either : {U E P Q R : Type 0} (result : Result U E) → OnOk result P → OnErr result Q → (P → R) → (Q → R) → R
either (Ok u) p q met missed = met p
either (Err e) p q met missed = missed q

pub returns-clause-are : goal.returns-clause-are
returns-clause-are c =
    let branches = c.args.self.now in
    either c.insert.result c.insert.ensures.ok c.insert.ensures.err
    (entered branches.tree branches.definitions c.insert.new.self c.args.branch c.requires.are c.requires.below c.requires.inside c.insert.ensures.len c.args.definition)
    (same branches.tree branches.definitions c.insert.new.self c.args.branch c.requires.are c.requires.below c.requires.inside c.insert.ensures.len)

pub returns-clause-ok : goal.returns-clause-ok
returns-clause-ok c =
    let branches = c.args.self.now in
    on_ok_weaker c.insert.result (λ is. more-names branches.tree branches.definitions c.insert.new.self c.args.branch c.requires.are c.requires.below c.requires.inside c.insert.ensures.len
    c.args.definition is c.requires.none) c.insert.ensures.ok

pub returns-clause-err : goal.returns-clause-err
returns-clause-err c =
    let branches = c.args.self.now in
    on_err_weaker c.insert.result (definitions-alike branches.tree branches.definitions c.requires.are c.insert.new.self) c.insert.ensures.err
