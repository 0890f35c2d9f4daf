-- What a pool has for the descriptors of parts.
use Rattle.std.specs.Prelude.{slice_get}
use Rattle.std.specs.Option.{option_and_then}
use Rattle.std.specs.declared.option.Option.{Option}
use Rattle.pool_types.specs.Contents.{Contents}
use Rattle.pool_types.specs.declared.contents.enumeration.EnumValueDescriptorInner.{EnumValueDescriptorInner}
use Rattle.pool_types.specs.declared.contents.field.FieldDescriptorInner.{FieldDescriptorInner}
use Rattle.pool_types.specs.declared.contents.oneof.OneofDescriptorInner.{OneofDescriptorInner}
use Rattle.pool_types.specs.declared.contents.service.MethodDescriptorInner.{MethodDescriptorInner}
use Rattle.pool_types.specs.declared.indexes.EnumValueDescriptor.{EnumValueDescriptor}
use Rattle.pool_types.specs.declared.indexes.FieldDescriptor.{FieldDescriptor}
use Rattle.pool_types.specs.declared.indexes.MethodDescriptor.{MethodDescriptor}
use Rattle.pool_types.specs.declared.indexes.OneofDescriptor.{OneofDescriptor}

-- the field at a position of the message with an index
abbrev pub field_at : Contents → FieldDescriptor → Option FieldDescriptorInner
field_at p d =
    option_and_then (λ m. slice_get m.fields d.index) (slice_get p.messages d.parent.index)

-- the oneof at a position of the message with an index
abbrev pub oneof_at : Contents → OneofDescriptor → Option OneofDescriptorInner
oneof_at p d =
    option_and_then (λ m. slice_get m.oneofs d.index) (slice_get p.messages d.parent.index)

-- the value at a position of the enum with an index
abbrev pub value_at : Contents → EnumValueDescriptor → Option EnumValueDescriptorInner
value_at p d = option_and_then (λ e. slice_get e.values d.index) (slice_get p.enums d.parent.index)

-- the method at a position of the service with an index
abbrev pub method_at : Contents → MethodDescriptor → Option MethodDescriptorInner
method_at p d =
    option_and_then (λ s. slice_get s.methods d.index) (slice_get p.services d.parent.index)
