use Rattle.std.proofs.Common.{rules}
use Rattle.pool_faults.proofs.fault.DescriptorErrorKind.fmt_number_fault.Goals as goal

-- what is called writes the text of the kind
pub returns-in-FieldNumberInReservedRange : goal.returns-in-FieldNumberInReservedRange
returns-in-FieldNumberInReservedRange g c =
    search (rules, c.fmt_field_in_range.ensures, c.in-FieldNumberInReservedRange.is)

pub returns-in-FieldNumberInExtensionRange : goal.returns-in-FieldNumberInExtensionRange
returns-in-FieldNumberInExtensionRange g c =
    search (rules, c.fmt_field_in_range-in-FieldNumberInExtensionRange.ensures, c.in-FieldNumberInExtensionRange.is)
