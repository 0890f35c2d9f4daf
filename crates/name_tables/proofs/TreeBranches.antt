-- The branches for which nodes stand.
use Rattle.std.proofs.Common.{◌≡◌, ◌<◌, ℕ, List, Some, length, get_or, refl, sym, ap, ◌∙◌, subst}
use Rattle.std.specs.List.{slice_get}
use Rattle.std.specs.Option.{option_map}
use Rattle.std.proofs.lemmas.List.{length-map}
use Rattle.std.proofs.lemmas.Option.{slice_get-map}
use Rattle.name_tables.specs.Tree.{Branch, HasPart}
use Rattle.name_tables.specs.Nodes.{row, rows, branches_of, branch_of}
use Rattle.name_tables.specs.declared.nodes.Node.{Node}
use Rattle.name_tables.proofs.Lists.{some_at}
use Rattle.name_tables.proofs.Rows.{length-rows, get-row, row-some}

module _ (parts : List (List ℕ)) (nodes : List Node) (branches : List Branch) (are : branches_of (rows parts nodes) ≡ branches) where
  -- as many as nodes
  pub length-branches : length branches ≡ length nodes
  length-branches = ap length (sym are) ∙ length-map (rows parts nodes) branch_of ∙ length-rows parts nodes

  -- a node that is read
  pub branch-read : (at : ℕ) (node : Node) → at < length branches → node ≡ get_or nodes at node → (part : List ℕ) × (slice_get branches at ≡ Some (branch_of (row part node)))
  branch-read at node below is =
      let some = row-some parts nodes at node (subst (λ n. at < n) length-branches below) is in (
        some.0,
        ap (λ bs. slice_get bs at) (sym are) ∙ slice_get-map branch_of (rows parts nodes) at ∙ ap (option_map branch_of) some.1,
      )

  -- the part of a node
  pub part-read : (at : ℕ) (part : List ℕ) → at < length branches → slice_get parts at ≡ Some part → HasPart branches at part
  part-read at part below has =
      let node = some_at nodes at (subst (λ n. at < n) length-branches below) in (
        branch_of (row part node.0),
        ap (λ bs. slice_get bs at) (sym are) ∙ slice_get-map branch_of (rows parts nodes) at ∙ ap (option_map branch_of) (get-row parts nodes at part node.0 has node.1),
        refl,
      )
