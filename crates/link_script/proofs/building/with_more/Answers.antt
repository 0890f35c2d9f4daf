use Rattle.std.proofs.Common.{◌≡◌, ◌≢◌, ℕ, Bool, List, Option, refl}
use Rattle.proto_types.specs.declared.records.field.FieldDescriptorProto.{FieldDescriptorProto}
use Rattle.link_script.specs.declared.script.statement.Statement.{Statement}
use Rattle.link_script.specs.declared.script.statement.Statement.TheVariants.{Json, Packed, Default}
use Rattle.link_script.specs.Building.{more_said}
use Rattle.link_script.proofs.building.with_more.Goals as goal

-- any statement but those that say more
other : (more : Statement) (f : FieldDescriptorProto) → ((name : Option (List ℕ)) → more ≢ Json name)
    → ((packed : Bool) → more ≢ Packed packed) → ((text : List ℕ) → more ≢ Default text) → f ≡ more_said more f
other (Json name) f no_json no_packed no_default = absurd (no_json name refl)
other (Packed packed) f no_json no_packed no_default = absurd (no_packed packed refl)
other (Default text) f no_json no_packed no_default = absurd (no_default text refl)
other _ f no_json no_packed no_default = refl

pub returns-in_default : goal.returns-in_default
returns-in_default c = other c.args.more c.args.field c.in_default.not-Json c.in_default.not-Packed c.in_default.not-Default
