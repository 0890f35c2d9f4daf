-- The items of a pool by which bytes are read, and what is looked up in them.
use Rattle.std.specs.Prelude.{ℕ, ℤ, Bool, true, false, List, [], slice_get, option_map, unwrap_or}
use Rattle.std.specs.List.{list_any}
use Rattle.std.specs.Ordering.{int_eq}
use Rattle.std.specs.Str.{bytes_eq}
use Rattle.pool_types.specs.declared.kinds.Syntax.{Syntax}
use Rattle.pool_types.specs.declared.kinds.Syntax.TheVariants.{Proto2, Proto3}
use Rattle.pool_types.specs.declared.contents.enumeration.EnumDescriptorInner.{EnumDescriptorInner}
use Rattle.pool_types.specs.declared.contents.enumeration.EnumValueDescriptorInner.{EnumValueDescriptorInner}
use Rattle.pool_types.specs.declared.contents.extension.ExtensionDescriptorInner.{ExtensionDescriptorInner}
use Rattle.pool_types.specs.declared.contents.file.FileDescriptorInner.{FileDescriptorInner}
use Rattle.pool_types.specs.declared.contents.message.MessageDescriptorInner.{MessageDescriptorInner}
use Rattle.pool_types.specs.Contents.{Contents}
use Rattle.schema_changes.specs.declared.parts.Parts as code

-- the items of a pool by which bytes are read
pub record Parts : Type 0 where
  pub files : List FileDescriptorInner
  pub messages : List MessageDescriptorInner
  pub enums : List EnumDescriptorInner
  pub extensions : List ExtensionDescriptorInner

-- the items that are lent to the code
abbrev pub parts : code.Parts → Parts
parts p = record {
  files = p.files.now;
  messages = p.messages.now;
  enums = p.enums.now;
  extensions = p.extensions.now;
}

-- those items of the contents of a pool
abbrev pub parts_of : Contents → Parts
parts_of p = record {
  files = p.files;
  messages = p.messages;
  enums = p.enums;
  extensions = p.extensions;
}

-- whether a syntax is that of proto3
abbrev pub is_proto3 : Syntax → Bool
is_proto3 Proto2 = false
is_proto3 Proto3 = true

-- whether a file is one of proto3
unfoldable pub in_proto3 : Parts → ℕ → Bool
in_proto3 p file = unwrap_or (option_map (λ f. is_proto3 f.syntax) (slice_get p.files file)) false

-- whether an enum is open: it is one of proto3
unfoldable pub is_open : Parts → ℕ → Bool
is_open p e = unwrap_or (option_map (λ x. in_proto3 p x.id.file) (slice_get p.enums e)) false

-- whether values have a number
abbrev pub has_value : List EnumValueDescriptorInner → ℤ → Bool
has_value values x = list_any (λ v. int_eq v.number x) values

-- the values of an enum
unfoldable pub values_of : Parts → ℕ → List EnumValueDescriptorInner
values_of p e = unwrap_or (option_map (λ x. x.values) (slice_get p.enums e)) []

-- whether two messages have one full name
abbrev pub are_named_alike : MessageDescriptorInner → MessageDescriptorInner → Bool
are_named_alike x y = bytes_eq x.id.full_name y.id.full_name

-- whether a message has the full name of the one with an index of a pool
abbrev pub named_as : Parts → ℕ → MessageDescriptorInner → Bool
named_as q n x = unwrap_or (option_map (are_named_alike x) (slice_get q.messages n)) false

-- whether two messages of two pools, by their indexes, have one full name
unfoldable pub one_name : Parts → ℕ → Parts → ℕ → Bool
one_name p m q n = unwrap_or (option_map (named_as q n) (slice_get p.messages m)) false
