-- Records as the statements of a script build them.
use Rattle.std.specs.Prelude.{Bool, true, false, List, [], ◌∷◌, ◌++◌}
use Rattle.std.specs.Option.{option_map_or}
use Rattle.std.specs.declared.option.Option.{Option}
use Rattle.std.specs.declared.option.Option.TheVariants.{None, Some}
use Rattle.proto_types.specs.Service.{no_service}
use Rattle.proto_types.specs.Enumeration.{no_enum}
use Rattle.proto_types.specs.Message.{no_message, no_oneof}
use Rattle.proto_types.specs.File.{no_file}
use Rattle.proto_types.specs.declared.file.FileDescriptorProto.{FileDescriptorProto}
use Rattle.proto_types.specs.declared.message.DescriptorProto.{DescriptorProto, DescriptorProto-F}
use Rattle.proto_types.specs.declared.message.DescriptorProto.{out-DescriptorProto}
use Rattle.proto_types.specs.declared.message.DescriptorProto.{roll-DescriptorProto}
use Rattle.proto_types.specs.declared.records.field.FieldDescriptorProto.{FieldDescriptorProto}
use Rattle.proto_types.specs.declared.records.enumeration.EnumDescriptorProto.{EnumDescriptorProto}
use Rattle.proto_types.specs.declared.records.service.ServiceDescriptorProto.{ServiceDescriptorProto}
use Rattle.proto_types.specs.declared.records.source.Location.{Location}
use Rattle.proto_types.specs.declared.records.source.SourceCodeInfo.{SourceCodeInfo}
use Rattle.link_script.specs.declared.script.statement.Statement.{Statement}
use Rattle.link_script.specs.declared.script.statement.Statement.TheVariants as say
use Rattle.link_script.specs.declared.building.Open.{Open}
use Rattle.link_script.specs.declared.building.Open.TheVariants as opened

-- a message's own parts
abbrev Parts : Type 0
Parts = DescriptorProto-F DescriptorProto

abbrev changed : (Parts → Parts) → DescriptorProto → DescriptorProto
changed h m = roll-DescriptorProto (h (out-DescriptorProto m))

-- the record that a statement opens, of which nothing but the name is said: a file, a message, an
-- enum or a service
abbrev pub opened_by : Statement → Option Open
opened_by (say.File name) = Some (opened.File (record no_file { name = name }))
opened_by (say.Message name) =
    Some (opened.Message (changed (λ m. record m { name = name }) no_message))
opened_by (say.Enum name) = Some (opened.Enum (record no_enum { name = name }))
opened_by (say.Service name) = Some (opened.Service (record no_service { name = name }))
opened_by _ = None

-- a list with its last element changed
abbrev pub change_last : {X : Type 0} → (X → X) → List X → List X
change_last h [] = []
change_last h (x ∷ []) = h x ∷ []
change_last h (x ∷ y ∷ ys) = x ∷ change_last h (y ∷ ys)

-- a field or an extension with its JSON name, its `packed` or its default value set
abbrev pub more_said : Statement → FieldDescriptorProto → FieldDescriptorProto
more_said (say.Json name) f = record f { json_name = name }
more_said (say.Packed packed) f =
    record f { options = Some (record { encoded = []; value = record { packed = Some packed } }) }
more_said (say.Default text) f = record f { default_value = Some text }
more_said _ f = f

-- the locations of the source of a file
abbrev pub locations_of : Option SourceCodeInfo → List Location
locations_of source = option_map_or (λ s. s.location) source []

-- a file with what a statement says of it; lists grow at their end
abbrev pub in_file : Statement → FileDescriptorProto → FileDescriptorProto
in_file (say.Package name) f = record f { «package» = name }
in_file (say.Syntax name) f = record f { syntax = name }
in_file (say.Import name) f = record f { dependency = f.dependency ++ name ∷ [] }
in_file (say.Public position) f =
    record f { public_dependency = f.public_dependency ++ position ∷ [] }
in_file (say.Weak position) f = record f { weak_dependency = f.weak_dependency ++ position ∷ [] }
in_file (say.At location) f =
    record f {
      source_code_info = Some
          (record { location = locations_of f.source_code_info ++ location ∷ [] });
    }
in_file (say.Extend field) f = record f { extension = f.extension ++ field ∷ [] }
in_file said f = record f { extension = change_last (more_said said) f.extension }

-- a message with what a statement says of it; of the last extension more is said where it was
-- stated last, and else of the last field
abbrev pub in_message : Bool → Statement → Parts → Parts
in_message extends (say.Field field) m = record m { field = m.field ++ field ∷ [] }
in_message extends (say.Extend field) m = record m { extension = m.extension ++ field ∷ [] }
in_message extends (say.Oneof name) m =
    record m { oneof_decl = m.oneof_decl ++ record no_oneof { name = name } ∷ [] }
in_message extends (say.Reserved start «end») m =
    record m { reserved_range = m.reserved_range ++ record { start = start; «end» = «end» } ∷ [] }
in_message extends (say.Extensions start «end») m =
    record m {
      extension_range = m.extension_range ++ record {
        start = start;
        «end» = «end»;
        options = None;
      } ∷ [];
    }
in_message true said m = record m { extension = change_last (more_said said) m.extension }
in_message false said m = record m { field = change_last (more_said said) m.field }

-- an enum with what a statement says of it; lists grow at their end
abbrev pub in_enum : Statement → EnumDescriptorProto → EnumDescriptorProto
in_enum (say.Value value) e = record e { value = e.value ++ value ∷ [] }
in_enum (say.Reserved start «end») e =
    record e { reserved_range = e.reserved_range ++ record { start = start; «end» = «end» } ∷ [] }
in_enum say.Alias e =
    record e {
      options = Some (record { encoded = []; value = record { allow_alias = Some true } });
    }
in_enum _ e = e

-- a service with what a statement says of it; its methods grow at their end
abbrev pub in_service : Statement → ServiceDescriptorProto → ServiceDescriptorProto
in_service (say.Method method) s = record s { method = s.method ++ method ∷ [] }
in_service _ s = s

-- the innermost open record with what a statement says of it
abbrev pub applied : Bool → Statement → Open → Open
applied extends said (opened.File f) = opened.File (in_file said f)
applied extends said (opened.Message m) = opened.Message (changed (in_message extends said) m)
applied extends said (opened.Enum e) = opened.Enum (in_enum said e)
applied extends said (opened.Service s) = opened.Service (in_service said s)

-- the record around a record whose block closes, with that one at the end of its list
abbrev pub closed_in : Open → Open → Open
closed_in (opened.Message m) (opened.File f) =
    opened.File (record f { message_type = f.message_type ++ m ∷ [] })
closed_in (opened.Enum e) (opened.File f) =
    opened.File (record f { enum_type = f.enum_type ++ e ∷ [] })
closed_in (opened.Service s) (opened.File f) =
    opened.File (record f { service = f.service ++ s ∷ [] })
closed_in (opened.Message n) (opened.Message m) =
    opened.Message (changed (λ m. record m { nested_type = m.nested_type ++ n ∷ [] }) m)
closed_in (opened.Enum e) (opened.Message m) =
    opened.Message (changed (λ m. record m { enum_type = m.enum_type ++ e ∷ [] }) m)
closed_in _ outer = outer
