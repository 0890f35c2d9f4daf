use Rattle.std.proofs.Common.{rules}
use Rattle.pool_faults.proofs.fault.DescriptorErrorKind.label.Goals as goal

pub returns-in-DuplicateFileName : goal.returns-in-DuplicateFileName
returns-in-DuplicateFileName c = search rules

pub returns-in-DuplicateName : goal.returns-in-DuplicateName
returns-in-DuplicateName c = search rules

pub returns-in-MissingRequiredField : goal.returns-in-MissingRequiredField
returns-in-MissingRequiredField c = search rules

pub returns-in-UnknownSyntax : goal.returns-in-UnknownSyntax
returns-in-UnknownSyntax c = search rules
