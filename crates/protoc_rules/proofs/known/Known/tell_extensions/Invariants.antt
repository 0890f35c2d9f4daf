use Rattle.std.proofs.Common.{◌≡◌, ◌++◌, take}
use Rattle.std.specs.List.{flat_map}
use Rattle.protoc_rules.specs.Linked.{linked}
use Rattle.protoc_rules.specs.Extensions.{extension_faults}
use Rattle.protoc_rules.proofs.known.Known.tell_extensions.Given as goal

abbrev pub invariant-loop-extension : goal.invariant-loop-extension
invariant-loop-extension l = l.found ≡ l.initial.found ++ flat_map (extension_faults (linked l.self.items)) (take l.extension-index l.extensions)
