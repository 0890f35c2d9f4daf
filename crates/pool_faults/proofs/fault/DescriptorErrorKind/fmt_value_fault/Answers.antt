use Rattle.std.proofs.Common.{rules}
use Rattle.pool_faults.proofs.fault.DescriptorErrorKind.fmt_value_fault.Goals as goal

-- what is called writes the text of the kind
pub returns-in-EnumNumberInReservedRange : goal.returns-in-EnumNumberInReservedRange
returns-in-EnumNumberInReservedRange g c =
    search (rules, c.fmt_value_in_range.ensures, c.in-EnumNumberInReservedRange.is)
