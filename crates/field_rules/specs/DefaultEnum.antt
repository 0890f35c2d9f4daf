-- An enum that a type names, as the program has it.
use Rattle.field_rules.specs.declared.default_enum.DefaultEnum.{DefaultEnum as Borrowed}
use Rattle.field_rules.specs.Defaults.{DefaultEnum}

-- an enum that a type names, as the definitions have it, of one that the code borrows
abbrev pub default_enum_in : Borrowed → DefaultEnum
default_enum_in m = record { full_name = m.full_name.now; values = m.values.now }
