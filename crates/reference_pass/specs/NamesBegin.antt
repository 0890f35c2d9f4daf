-- That the names of items begin in their full names where a character begins.
use Rattle.std.specs.Prelude.{List}
use Rattle.std.specs.List.{All}
use Rattle.pool_types.specs.Contents.{Contents}
use Rattle.pool_types.specs.declared.contents.enumeration.EnumDescriptorInner.{EnumDescriptorInner}
use Rattle.pool_types.specs.declared.contents.extension.ExtensionDescriptorInner.{ExtensionDescriptorInner}
use Rattle.pool_types.specs.declared.contents.message.MessageDescriptorInner.{MessageDescriptorInner}
use Rattle.pool_types.specs.declared.contents.service.ServiceDescriptorInner.{ServiceDescriptorInner}
use Rattle.field_rules.specs.NamesBegin.{BeginsAtBoundary, EnumNamesBegin}

-- the names of a message and of its fields and oneofs begin in their full names where a character
-- begins
pub record MessageNamesBegin (m : MessageDescriptorInner) : Type 0 where
  pub own : BeginsAtBoundary m.id
  pub fields : All (λ f. BeginsAtBoundary f.id) m.fields
  pub oneofs : All (λ o. BeginsAtBoundary o.id) m.oneofs

-- the names of a service and of its methods begin in their full names where a character begins
pub record ServiceNamesBegin (v : ServiceDescriptorInner) : Type 0 where
  pub own : BeginsAtBoundary v.id
  pub methods : All (λ m. BeginsAtBoundary m.id) v.methods

-- the name of an extension begins in its full name where a character begins
abbrev pub ExtensionNameBegins : ExtensionDescriptorInner → Type 0
ExtensionNameBegins x = BeginsAtBoundary x.id

-- the names of messages, enums, services and extensions, and of their parts, begin in their full
-- names where a character begins
pub record NamesBegin (ms : List MessageDescriptorInner) (es : List EnumDescriptorInner)
    (vs : List ServiceDescriptorInner) (xs : List ExtensionDescriptorInner) : Type 0 where
  pub messages : All MessageNamesBegin ms
  pub enums : All EnumNamesBegin es
  pub services : All ServiceNamesBegin vs
  pub extensions : All ExtensionNameBegins xs

-- the names of all items of a pool begin in their full names where a character begins
abbrev pub AllNamesBegin : Contents → Type 0
AllNamesBegin p = NamesBegin p.messages p.enums p.services p.extensions
