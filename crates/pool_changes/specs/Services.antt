-- What a reader's services change of a writer's: calls go by the full names of methods.
use Rattle.std.specs.Prelude.{ℕ, Bool, true, false, List, [], ◌∷◌, ◌++◌, codes, find, slice_get}
use Rattle.std.specs.Prelude.{option_and_then, Option, Some, None}
use Rattle.std.specs.FinMap as finite
use Rattle.std.specs.List.{flat_map}
use Rattle.std.specs.Option.{option_map_or}
use Rattle.std.specs.Str.{bytes_eq}
use Rattle.pool_types.specs.Contents.{Contents}
use Rattle.pool_types.specs.declared.contents.definition.DefinitionKind.{DefinitionKind}
use Rattle.pool_types.specs.declared.contents.definition.DefinitionKind.TheVariants as definition
use Rattle.pool_types.specs.declared.contents.service.MethodDescriptorInner.{MethodDescriptorInner}
use Rattle.pool_types.specs.declared.contents.service.ServiceDescriptorInner.{ServiceDescriptorInner}
use Rattle.proto_types.specs.Readers.{flag_of}
use Rattle.proto_types.specs.declared.records.service.MethodDescriptorProto.{MethodDescriptorProto}
use Rattle.record_walk.specs.Leads.{leads}
use Rattle.record_walk.specs.Protos.{as_method}
use Rattle.schema_changes.specs.Parts.{parts_of}
use Rattle.verdict_texts.specs.declared.telling.ToldFault.{ToldFault}
use Rattle.pool_changes.specs.Sides.{Versions, Side, writer, reader, there, around, removed}
use Rattle.pool_changes.specs.Sides.{told_between, differing}
use Rattle.pool_changes.specs.Words.{message_name}
use Rattle.pool_changes.specs.declared.kinds.ElementChange.TheVariants as element

-- the service of a pool that a definition is
abbrev pub service_meant : Contents → DefinitionKind → Option ServiceDescriptorInner
service_meant p (definition.Service s) = slice_get p.services s
service_meant p _ = None

-- the service of a pool that a full name means
unfoldable pub service_named : Contents → List ℕ → Option ServiceDescriptorInner
service_named p name = option_and_then (λ d. service_meant p d.kind) (finite.get p.names name)

-- the first method of a service that has a full name
abbrev pub method_in : ServiceDescriptorInner → List ℕ → Option MethodDescriptorInner
method_in s name = find (λ m. bytes_eq m.id.full_name name) s.methods

-- the linked record of a method
abbrev pub method_record : Contents → MethodDescriptorInner → Option MethodDescriptorProto
method_record p m =
    option_and_then (λ f. option_and_then as_method (leads f.raw m.id.path))
    (slice_get p.files m.id.file)

-- the words for which side of a call is a stream: the client's, and the server's
abbrev pub stream_words : Bool → Bool → List ℕ
stream_words false false = codes "unary call"
stream_words true false = codes "stream of requests"
stream_words false true = codes "stream of responses"
stream_words true true = codes "stream of requests and responses"

-- what a record says of it
abbrev pub record_streams : MethodDescriptorProto → List ℕ
record_streams m = stream_words (flag_of m.client_streaming) (flag_of m.server_streaming)

-- what a method's record says of it
abbrev pub streaming : Contents → MethodDescriptorInner → List ℕ
streaming p m = option_map_or record_streams (method_record p m) (codes "unary call")

-- what a method takes, as a side
abbrev pub input : Contents → MethodDescriptorInner → Side
input p m = there m.id (codes "input ") (message_name (parts_of p) m.input)

-- what a method gives, as a side
abbrev pub output : Contents → MethodDescriptorInner → Side
output p m = there m.id (codes "output ") (message_name (parts_of p) m.output)

-- which side of a call is a stream, as a side
abbrev pub streams : Contents → MethodDescriptorInner → Side
streams p m = there m.id (streaming p m) []

-- what a reader's method with its name changes of a writer's
abbrev pub kept_method_changes : Versions → MethodDescriptorInner → MethodDescriptorInner
    → List ToldFault
kept_method_changes v m n =
    differing v element.MethodInput (input (writer v) m) (input (reader v) n)
    ++ (differing v element.MethodOutput (output (writer v) m) (output (reader v) n)
    ++ differing v element.MethodStreaming (streams (writer v) m) (streams (reader v) n))

-- what a reader's service changes of a writer's method; it may lack the method
abbrev pub method_changes : Versions → ServiceDescriptorInner → MethodDescriptorInner
    → Option MethodDescriptorInner → List ToldFault
method_changes v s m (Some n) = kept_method_changes v m n
method_changes v s m None =
    told_between v element.MethodRemoved (there m.id (codes "method") [])
    (around s.id (codes "method")) ∷ []

-- what a reader changes of a writer's service; it may lack the service
abbrev pub service_changes : Versions → ServiceDescriptorInner → Option ServiceDescriptorInner
    → List ToldFault
service_changes v s (Some t) =
    flat_map (λ m. method_changes v t m (method_in t m.id.full_name)) s.methods
service_changes v s None = removed v element.ServiceRemoved s.id (codes "service")

-- what a reader changes of all services of a writer
abbrev pub services_changes : Versions → List ToldFault
services_changes v =
    flat_map (λ s. service_changes v s (service_named (reader v) s.id.full_name))
    (writer v).services
