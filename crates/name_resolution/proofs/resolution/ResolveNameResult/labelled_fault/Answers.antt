use Rattle.std.proofs.Common.{rules}
use Rattle.name_resolution.proofs.resolution.ResolveNameResult.labelled_fault.Goals as goal

pub returns : goal.returns
returns c = search rules

pub returns-in-Found : goal.returns-in-Found
returns-in-Found c = search rules
