-- `==` of pools tells whether their contents are one.
use Rattle.std.proofs.Common.{ℕ, Bool, ◌&&◌, List, nat_eq, ap, sym, ◌∙◌}
use Rattle.std.specs.Cmp.{IsPartialEquivalence, both_ways, unsigned_Decides}
use Rattle.std.specs.Cmp.Lexicographic.{pointwise}
use Rattle.std.specs.Str.{bytes_eq}
use Rattle.plain_data.specs.Exact.{Exact, ◌and◌, by-parts, items-exact, text-exact, maps-exact}
use Rattle.plain_data.specs.Maps.{map_eq}
use Rattle.pool_types.specs.Contents.{Contents, ByText}
use Rattle.pool_types.specs.Exact.{definition-exact, file_inner-exact, message_inner-exact}
use Rattle.pool_types.specs.Exact.{enum_inner-exact, service_inner-exact, extension_inner-exact}
use Rattle.pool_types.specs.declared.contents.definition.Definition.{Definition}
use Rattle.pool_types.specs.declared.contents.enumeration.EnumDescriptorInner.{EnumDescriptorInner}
use Rattle.pool_types.specs.declared.contents.extension.ExtensionDescriptorInner.{ExtensionDescriptorInner}
use Rattle.pool_types.specs.declared.contents.file.FileDescriptorInner.{FileDescriptorInner}
use Rattle.pool_types.specs.declared.contents.message.MessageDescriptorInner.{MessageDescriptorInner}
use Rattle.pool_types.specs.declared.contents.service.ServiceDescriptorInner.{ServiceDescriptorInner}
use Rattle.pool_types.specs.contracts.contents.definition.DefinitionPartialEq.TheImpl as definition
use Rattle.pool_types.specs.contracts.contents.enumeration.EnumDescriptorInnerPartialEq.TheImpl as enumeration
use Rattle.pool_types.specs.contracts.contents.extension.ExtensionDescriptorInnerPartialEq.TheImpl as extension
use Rattle.pool_types.specs.contracts.contents.file.FileDescriptorInnerPartialEq.TheImpl as file
use Rattle.pool_types.specs.contracts.contents.message.MessageDescriptorInnerPartialEq.TheImpl as message
use Rattle.pool_types.specs.contracts.contents.service.ServiceDescriptorInnerPartialEq.TheImpl as service

-- whether two pools have the same items of each kind, in the same order
abbrev pub items_eq : Contents → Contents → Bool
items_eq p q =
    pointwise file.ghosts.eq p.files q.files
    && (pointwise message.ghosts.eq p.messages q.messages
    && (pointwise enumeration.ghosts.eq p.enums q.enums
    && (pointwise service.ghosts.eq p.services q.services
    && pointwise extension.ghosts.eq p.extensions q.extensions)))

-- whether two maps give the same names the same definitions
abbrev pub names_eq : ByText Definition → ByText Definition → Bool
names_eq = map_eq bytes_eq definition.ghosts.eq

-- whether two maps give the same names of files the same indexes
abbrev pub file_names_eq : ByText ℕ → ByText ℕ → Bool
file_names_eq = map_eq bytes_eq nat_eq

-- whether two pools have the same contents: the same items of each kind, and the same entries of
-- both maps
abbrev pub contents_eq : Contents → Contents → Bool
contents_eq p q =
    items_eq p q && (names_eq p.names q.names && file_names_eq p.file_names q.file_names)

-- the test of maps of names is exact
pub names-exact : Exact names_eq
names-exact = maps-exact text-exact definition-exact

-- the test of maps of the names of files is exact
pub file_names-exact : Exact file_names_eq
file_names-exact = maps-exact text-exact unsigned_Decides

abbrev Items : Type 0
Items = List FileDescriptorInner
    × (List MessageDescriptorInner
    × (List EnumDescriptorInner × (List ServiceDescriptorInner × List ExtensionDescriptorInner)))

abbrev Parts : Type 0
Parts = Items × (ByText Definition × ByText ℕ)

abbrev parts_of : Contents → Parts
parts_of p =
    ((p.files, (p.messages, (p.enums, (p.services, p.extensions)))), (p.names, p.file_names))

abbrev of_parts : Parts → Contents
of_parts x =
    let items = x.0 in
    record {
      files = items.0;
      messages = items.1.0;
      enums = items.1.1.0;
      services = items.1.1.1.0;
      extensions = items.1.1.1.1;
      names = x.1.0;
      file_names = x.1.1;
    }

-- the test of contents is exact
pub contents-exact : Exact contents_eq
contents-exact = by-parts parts_of (λ p q same. ap of_parts same)
    ((items-exact file_inner-exact and items-exact message_inner-exact and items-exact
    enum_inner-exact and items-exact service_inner-exact and items-exact extension_inner-exact)
    and names-exact and file_names-exact)

-- so the test is symmetric and transitive
exact-per : {X : Type 0} {test : X → X → Bool} → Exact test → IsPartialEquivalence test
exact-per {test = test} exact = record {
  symm = λ x y. both_ways (test x y) (test y x) (λ e. (exact y x).1 (sym ((exact x y).0 e)))
      (λ e. (exact x y).1 (sym ((exact y x).0 e)));
  trans = λ x y z e f. (exact x z).1 ((exact x y).0 e ∙ (exact y z).0 f);
}

-- the test of contents is symmetric and transitive
pub contents-per : IsPartialEquivalence contents_eq
contents-per = exact-per contents-exact
