use Rattle.std.proofs.Common.{◌≡◌, ◌++◌, take}
use Rattle.protoc_rules.specs.Faults.{each_told}
use Rattle.protoc_rules.specs.Firsts.{HasFirstNumbers}
use Rattle.protoc_rules.specs.Imports.{import_faults}
use Rattle.protoc_rules.proofs.imports.tell_imports.Given as goal

-- the imports so far have their first positions, and those that come again are told
abbrev pub invariant-loop-position : goal.invariant-loop-position
invariant-loop-position l = record {
  firsts : HasFirstNumbers l.firsts (take l.position l.imports);
  found : l.found ≡ l.initial.found ++ each_told (import_faults l.id l.imports) (take l.position l.imports);
}
