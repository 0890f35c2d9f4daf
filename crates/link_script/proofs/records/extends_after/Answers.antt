use Rattle.std.proofs.Common.{◌≡◌, ◌≢◌, Bool, refl}
use Rattle.proto_types.specs.declared.records.field.FieldDescriptorProto.{FieldDescriptorProto}
use Rattle.link_script.specs.declared.script.statement.Statement.{Statement}
use Rattle.link_script.specs.declared.script.statement.Statement.TheVariants.{Extend, Field}
use Rattle.link_script.specs.Records.{extends_after}
use Rattle.link_script.proofs.records.extends_after.Goals as goal

-- any statement but a field and an extension
other : (before : Bool) (said : Statement) → ((field : FieldDescriptorProto) → said ≢ Extend field)
    → ((field : FieldDescriptorProto) → said ≢ Field field) → before ≡ extends_after before said
other before (Extend field) no_extension no_field = absurd (no_extension field refl)
other before (Field field) no_extension no_field = absurd (no_field field refl)
other before _ no_extension no_field = refl

pub returns-in_default : goal.returns-in_default
returns-in_default c = other c.args.before c.args.statement.now c.in_default.not-Extend c.in_default.not-Field
