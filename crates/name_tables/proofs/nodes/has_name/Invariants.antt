use Rattle.std.proofs.Common.{◌≡◌, ◌<◌, length}
use Rattle.name_tables.specs.Tree.{path}
use Rattle.name_tables.specs.Nodes.{rows, branches_of}
use Rattle.name_tables.specs.Parts.{name_of}
use Rattle.name_tables.proofs.nodes.has_name.Given as goal

abbrev pub invariant-parts : goal.invariant-parts
invariant-parts l = record {
  some : 0 < l.at;
  inside : l.at < length l.nodes;
  only : l.left ≡ name_of (path (branches_of (rows l.texts l.nodes)) l.at) → l.name ≡ name_of (path (branches_of (rows l.texts l.nodes)) l.fn.at);
  if_so : l.name ≡ name_of (path (branches_of (rows l.texts l.nodes)) l.fn.at) → l.left ≡ name_of (path (branches_of (rows l.texts l.nodes)) l.at);
}

abbrev pub decreases-parts : goal.decreases-parts
decreases-parts l = l.at
