use Rattle.std.proofs.Common.{◌≡◌, ◌≢◌, ℤ, Option, refl}
use Rattle.proto_types.specs.declared.records.enumeration.EnumDescriptorProto.{EnumDescriptorProto}
use Rattle.proto_types.specs.declared.records.enumeration.EnumValueDescriptorProto.{EnumValueDescriptorProto}
use Rattle.link_script.specs.declared.script.statement.Statement.{Statement}
use Rattle.link_script.specs.declared.script.statement.Statement.TheVariants.{Value, Reserved, Alias}
use Rattle.link_script.specs.Building.{in_enum}
use Rattle.link_script.proofs.building.state_in_enum.Goals as goal

-- any statement but those of an enum
other : (said : Statement) (e : EnumDescriptorProto) → ((v : EnumValueDescriptorProto) → said ≢ Value v)
    → ((start «end» : Option ℤ) → said ≢ Reserved start «end») → said ≢ Alias → e ≡ in_enum said e
other (Value v) e no_value no_range no_alias = absurd (no_value v refl)
other (Reserved start «end») e no_value no_range no_alias = absurd (no_range start «end» refl)
other Alias e no_value no_range no_alias = absurd (no_alias refl)
other _ e no_value no_range no_alias = refl

pub returns : goal.returns
returns c = other c.args.statement c.args.opened.now c.in_default.not-Value c.in_default.not-Reserved c.in_default.not-Alias
