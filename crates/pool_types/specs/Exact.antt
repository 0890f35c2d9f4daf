-- `==` of indexes, kinds, default values and what a pool holds tells whether two values are one.
use Rattle.std.proofs.Common.{rules}
use Rattle.std.specs.Cmp.{unsigned_Decides, signed_Decides, booleans_Decides}
use Rattle.plain_data.specs.Exact.{Exact, ◌and◌, by-parts, text-exact, given, items-exact}
use Rattle.plain_data.specs.Exact.{given-text, numbers-exact, number_map-exact, text_map-exact}
use Rattle.pool_types.specs.contracts.indexes.FileDescriptorPartialEq.TheImpl as file
use Rattle.pool_types.specs.contracts.indexes.MessageDescriptorPartialEq.TheImpl as message
use Rattle.pool_types.specs.contracts.indexes.EnumDescriptorPartialEq.TheImpl as enum
use Rattle.pool_types.specs.contracts.indexes.ServiceDescriptorPartialEq.TheImpl as service
use Rattle.pool_types.specs.contracts.indexes.ExtensionDescriptorPartialEq.TheImpl as extension
use Rattle.pool_types.specs.contracts.indexes.FieldDescriptorPartialEq.TheImpl as field
use Rattle.pool_types.specs.contracts.indexes.OneofDescriptorPartialEq.TheImpl as oneof
use Rattle.pool_types.specs.contracts.indexes.EnumValueDescriptorPartialEq.TheImpl as value
use Rattle.pool_types.specs.contracts.indexes.MethodDescriptorPartialEq.TheImpl as method
use Rattle.pool_types.specs.contracts.kinds.SyntaxPartialEq.TheImpl as syntax
use Rattle.pool_types.specs.contracts.kinds.CardinalityPartialEq.TheImpl as cardinality
use Rattle.pool_types.specs.contracts.kinds.KindIndexPartialEq.TheImpl as kind_index
use Rattle.pool_types.specs.contracts.kinds.KindPartialEq.TheImpl as kind
use Rattle.pool_types.specs.contracts.default_value.DefaultValuePartialEq.TheImpl as default
use Rattle.std.specs.Prelude.{ℕ, nat_eq}
use Rattle.std.specs.BTreeSet.{BTreeSet}
use Rattle.std.specs.Cmp.Lexicographic.{pointwise}
use Rattle.proto_types.specs.Exact.{file-exact as record-exact}
use Rattle.pool_types.specs.contracts.contents.definition.DefinitionKindPartialEq.TheImpl as definition_kind
use Rattle.pool_types.specs.contracts.contents.definition.IdentityPartialEq.TheImpl as identity
use Rattle.pool_types.specs.contracts.contents.definition.DefinitionPartialEq.TheImpl as definition
use Rattle.pool_types.specs.contracts.contents.field.FieldDescriptorInnerPartialEq.TheImpl as field_inner
use Rattle.pool_types.specs.contracts.contents.file.FileDescriptorInnerPartialEq.TheImpl as file_inner
use Rattle.pool_types.specs.contracts.contents.message.MessageDescriptorInnerPartialEq.TheImpl as message_inner
use Rattle.pool_types.specs.contracts.contents.oneof.OneofDescriptorInnerPartialEq.TheImpl as oneof_inner
use Rattle.pool_types.specs.contracts.contents.enumeration.EnumDescriptorInnerPartialEq.TheImpl as enum_inner
use Rattle.pool_types.specs.contracts.contents.enumeration.EnumValueDescriptorInnerPartialEq.TheImpl as value_inner
use Rattle.pool_types.specs.contracts.contents.extension.ExtensionDescriptorInnerPartialEq.TheImpl as extension_inner
use Rattle.pool_types.specs.contracts.contents.service.ServiceDescriptorInnerPartialEq.TheImpl as service_inner
use Rattle.pool_types.specs.contracts.contents.service.MethodDescriptorInnerPartialEq.TheImpl as method_inner

-- `==` of the indexes of files is exact
pub file-exact : Exact file.ghosts.eq
file-exact = by-parts (λ d. d.index) (λ a b e. search rules) unsigned_Decides

-- `==` of the indexes of messages is exact
pub message-exact : Exact message.ghosts.eq
message-exact = by-parts (λ d. d.index) (λ a b e. search rules) unsigned_Decides

-- `==` of the indexes of enums is exact
pub enum-exact : Exact enum.ghosts.eq
enum-exact = by-parts (λ d. d.index) (λ a b e. search rules) unsigned_Decides

-- `==` of the indexes of services is exact
pub service-exact : Exact service.ghosts.eq
service-exact = by-parts (λ d. d.index) (λ a b e. search rules) unsigned_Decides

-- `==` of the indexes of extensions is exact
pub extension-exact : Exact extension.ghosts.eq
extension-exact = by-parts (λ d. d.index) (λ a b e. search rules) unsigned_Decides

-- `==` of the indexes of fields is exact
pub field-exact : Exact field.ghosts.eq
field-exact = by-parts (λ d. (d.parent, d.index)) (λ a b e. search rules)
    (message-exact and unsigned_Decides)

-- `==` of the indexes of oneofs is exact
pub oneof-exact : Exact oneof.ghosts.eq
oneof-exact = by-parts (λ d. (d.parent, d.index)) (λ a b e. search rules)
    (message-exact and unsigned_Decides)

-- `==` of the indexes of an enum's values is exact
pub value-exact : Exact value.ghosts.eq
value-exact = by-parts (λ d. (d.parent, d.index)) (λ a b e. search rules)
    (enum-exact and unsigned_Decides)

-- `==` of the indexes of methods is exact
pub method-exact : Exact method.ghosts.eq
method-exact = by-parts (λ d. (d.parent, d.index)) (λ a b e. search rules)
    (service-exact and unsigned_Decides)

-- `==` of syntaxes is exact
pub syntax-exact : Exact syntax.ghosts.eq
syntax-exact a b = search rules

-- `==` of cardinalities is exact
pub cardinality-exact : Exact cardinality.ghosts.eq
cardinality-exact a b = search rules

-- `==` of kinds with the indexes that they hold is exact
pub kind_index-exact : Exact kind_index.ghosts.eq
kind_index-exact a b = search rules

-- `==` of kinds with typed indexes is exact
pub kind-exact : Exact kind.ghosts.eq
kind-exact a b = search (rules, message-exact, enum-exact)

-- `==` of default values is exact
pub default-exact : Exact default.ghosts.eq
default-exact a b = search (rules, text-exact)

-- `==` of kinds of definitions is exact
pub definition_kind-exact : Exact definition_kind.ghosts.eq
definition_kind-exact a b = search rules

-- `==` of identities is exact
pub identity-exact : Exact identity.ghosts.eq
identity-exact = by-parts (λ d. (d.file, (d.path, (d.full_name, d.name_index))))
    (λ a b e. search rules) (unsigned_Decides and numbers-exact and text-exact and unsigned_Decides)

-- `==` of definitions is exact
pub definition-exact : Exact definition.ghosts.eq
definition-exact = by-parts (λ d. (d.file, (d.path, d.kind))) (λ a b e. search rules)
    (unsigned_Decides and numbers-exact and definition_kind-exact)

-- `==` of the items of fields is exact
pub field_inner-exact : Exact field_inner.ghosts.eq
field_inner-exact =
    by-parts (λ f. (
      f.id,
      (
        f.number,
        (
          f.json_name,
          (f.kind, (f.oneof, (f.is_packed, (f.supports_presence, (f.cardinality, f.default))))),
        ),
      ),
    ))
    (λ a b e. search rules)
    (identity-exact and unsigned_Decides and given-text and kind_index-exact and given
    unsigned_Decides and booleans_Decides and booleans_Decides and cardinality-exact and given
    default-exact)

-- sets of indexes, by their keys, which ascend
indexes-exact : Exact (λ (s t : BTreeSet ℕ). pointwise nat_eq s.keys t.keys)
indexes-exact = by-parts (λ s. s.keys) (λ a b e. search rules) (items-exact unsigned_Decides)

-- `==` of the items of files is exact
pub file_inner-exact : Exact file_inner.ghosts.eq
file_inner-exact = by-parts (λ f. (f.syntax, (f.raw, (f.dependencies, f.transitive_dependencies))))
    (λ a b e. search rules)
    (syntax-exact and record-exact and items-exact unsigned_Decides and indexes-exact)

-- `==` of the items of oneofs is exact
pub oneof_inner-exact : Exact oneof_inner.ghosts.eq
oneof_inner-exact = by-parts (λ o. (o.id, o.fields)) (λ a b e. search rules)
    (identity-exact and items-exact unsigned_Decides)

-- `==` of the items of messages is exact
pub message_inner-exact : Exact message_inner.ghosts.eq
message_inner-exact =
    by-parts (λ m. (
      m.id,
      (
        m.parent,
        (
          m.extensions,
          (
            m.extension_numbers,
            (m.fields, (m.field_numbers, (m.field_names, (m.field_json_names, m.oneofs)))),
          ),
        ),
      ),
    ))
    (λ a b e. search rules)
    (identity-exact and given unsigned_Decides and items-exact unsigned_Decides and
    number_map-exact and items-exact field_inner-exact and number_map-exact and text_map-exact and
    text_map-exact and items-exact
    oneof_inner-exact)

-- `==` of the items of an enum's values is exact
pub value_inner-exact : Exact value_inner.ghosts.eq
value_inner-exact = by-parts (λ v. (v.id, v.number)) (λ a b e. search rules)
    (identity-exact and signed_Decides)

-- `==` of the items of enums is exact
pub enum_inner-exact : Exact enum_inner.ghosts.eq
enum_inner-exact =
    by-parts (λ e.
    (e.id, (e.parent, (e.values, (e.value_numbers, (e.value_names, e.allow_alias))))))
    (λ a b e. search rules)
    (identity-exact and given unsigned_Decides and items-exact value_inner-exact and items-exact
    (signed_Decides and unsigned_Decides) and text_map-exact and booleans_Decides)

-- `==` of the items of extensions is exact
pub extension_inner-exact : Exact extension_inner.ghosts.eq
extension_inner-exact =
    by-parts (λ x. (
      x.id,
      (
        x.parent,
        (
          x.number,
          (x.json_name, (x.extendee, (x.kind, (x.is_packed, (x.cardinality, x.default))))),
        ),
      ),
    ))
    (λ a b e. search rules)
    (identity-exact and given unsigned_Decides and unsigned_Decides and text-exact and
    unsigned_Decides and kind_index-exact and booleans_Decides and cardinality-exact and given
    default-exact)

-- `==` of the items of methods is exact
pub method_inner-exact : Exact method_inner.ghosts.eq
method_inner-exact = by-parts (λ m. (m.id, (m.input, m.output))) (λ a b e. search rules)
    (identity-exact and unsigned_Decides and unsigned_Decides)

-- `==` of the items of services is exact
pub service_inner-exact : Exact service_inner.ghosts.eq
service_inner-exact = by-parts (λ s. (s.id, s.methods)) (λ a b e. search rules)
    (identity-exact and items-exact method_inner-exact)
