use Rattle.std.proofs.Common.{◌≡◌, true}
use Rattle.std.specs.List.{AllAdjacentBelow}
use Rattle.std.specs.Prelude.{int_lt}
use Rattle.proto_types.specs.Readers.{number_of}
use Rattle.field_rules.proofs.enum_values.numbers_rise.Given as goal

abbrev pub invariant-loop-next : goal.invariant-loop-next
invariant-loop-next l = AllAdjacentBelow (λ v w. int_lt (number_of v.number) (number_of w.number) ≡ true) l.values l.next
