use Rattle.std.proofs.Common.{◌≡◌, ◌<◌, length}
use Rattle.name_tables.specs.Nodes.{rows, digest_of}
use Rattle.name_tables.proofs.LookUp.{IsAhead}
use Rattle.name_tables.proofs.tree.NameTree.look_up.Given as goal

abbrev pub invariant-loop-level : goal.invariant-loop-level
invariant-loop-level l = record {
  inside : l.at < length l.self-inside.nodes.items;
  digested : l.digest ≡ digest_of l.name;
  ahead : IsAhead (rows l.self-inside.texts l.self-inside.nodes.items) l.name l.level l.at;
}
