-- A law of the scopes in which declarations are named.
use Rattle.std.specs.Prelude.{ℕ, List}
use Rattle.proto_types.specs.declared.file.FileDescriptorProto.{FileDescriptorProto}
use Rattle.record_walk.specs.declared.counts.Counts.{Counts}
use Rattle.record_walk.specs.Declarations.{declarations}
use Rattle.name_pass.specs.Scopes.{FollowScopes}

-- law: what files declare follows any open scopes, numbered on from the counts of a pool
abbrev pub DeclaredFollow : Counts → List FileDescriptorProto → Type 0
DeclaredFollow base files =
    (scopes : List (List ℕ)) → FollowScopes scopes (declarations base files)
