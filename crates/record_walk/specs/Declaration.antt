-- A declaration without its record.
use Rattle.record_walk.specs.declared.declaration.Declaration.{Declaration}
use Rattle.record_walk.specs.declared.declaration.DeclarationKind.{DeclarationKind}
use Rattle.record_walk.specs.declared.declaration.DeclarationKind.TheVariants as kind
use Rattle.record_walk.specs.Protos.{Proto, of_file, of_message, of_field, of_oneof, of_service}
use Rattle.record_walk.specs.Protos.{of_method, of_enum, of_value, of_extension}
use Rattle.record_walk.specs.Shown.{Shown}

-- the kind of what a record declares
abbrev pub kind_of : Proto → DeclarationKind
kind_of (of_file _) = kind.File
kind_of (of_message _) = kind.Message
kind_of (of_field _) = kind.Field
kind_of (of_oneof _) = kind.Oneof
kind_of (of_service _) = kind.Service
kind_of (of_method _) = kind.Method
kind_of (of_enum _) = kind.Enum
kind_of (of_value _) = kind.EnumValue
kind_of (of_extension _) = kind.Extension

-- a declaration without its record: the kind, the file, the parent, the index, the path and the
-- full name
abbrev pub declaration_of : Shown → Declaration
declaration_of d = record {
  kind = kind_of d.proto;
  file = d.file;
  parent = d.parent;
  index = d.index;
  path = d.path;
  full_name = d.full_name;
}
