use Rattle.std.proofs.Common.{◌≡◌, ◌≢◌, refl}
use Rattle.proto_types.specs.declared.records.service.MethodDescriptorProto.{MethodDescriptorProto}
use Rattle.proto_types.specs.declared.records.service.ServiceDescriptorProto.{ServiceDescriptorProto}
use Rattle.link_script.specs.declared.script.statement.Statement.{Statement}
use Rattle.link_script.specs.declared.script.statement.Statement.TheVariants.{Method}
use Rattle.link_script.specs.Building.{in_service}
use Rattle.link_script.proofs.building.state_in_service.Goals as goal

-- any statement but that of a method
other : (said : Statement) (s : ServiceDescriptorProto) → ((m : MethodDescriptorProto) → said ≢ Method m) → s ≡ in_service said s
other (Method m) s no_method = absurd (no_method m refl)
other _ s no_method = refl

pub returns : goal.returns
returns c = other c.args.statement c.args.service.now c.in_default.not-Method
