-- `==` of faults tells whether two faults are one.
use Rattle.std.proofs.Common.{rules}
use Rattle.plain_data.specs.Exact.{Exact}
use Rattle.field_rules.specs.contracts.escape_faults.EscapeFaultPartialEq.TheImpl as escape_fault
use Rattle.field_rules.specs.contracts.escape_faults.ValueFaultPartialEq.TheImpl as value_fault

-- `==` of the faults of escapes is exact
pub escape_fault-exact : Exact escape_fault.ghosts.eq
escape_fault-exact a b = search rules

-- `==` of the faults of values is exact
pub value_fault-exact : Exact value_fault.ghosts.eq
value_fault-exact a b = search (rules, escape_fault-exact)
