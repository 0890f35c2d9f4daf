use Rattle.std.proofs.Common.{◌≡◌, ◌++◌, map, take}
use Rattle.pool_faults.specs.Labels.{label}
use Rattle.verdict_texts.proofs.places.add_labels.Given as goal

-- the paths so far have their labels
abbrev pub invariant-loop-path : goal.invariant-loop-path
invariant-loop-path l = record {
  labels : l.labels ≡ l.initial.labels ++ map (label l.file) (take l.path-index l.paths);
  spans : l.spans ≡ l.initial.spans;
}
