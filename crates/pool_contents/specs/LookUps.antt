-- What a pool answers.
use Rattle.std.specs.Prelude.{ℕ, List, [], ◌∷◌, if◌then◌else◌}
use Rattle.std.specs.FinMap as finite
use Rattle.std.specs.declared.option.Option.{Option}
use Rattle.pool_types.specs.declared.contents.definition.Definition.{Definition}
use Rattle.pool_types.specs.Contents.{Contents}
use Rattle.proto_types.specs.Names.{is_dot}

-- a name without one leading dot
abbrev pub without_dot : List ℕ → List ℕ
without_dot [] = []
without_dot (c ∷ cs) = if is_dot c then cs else c ∷ cs

-- what a pool has under a name, which may have a leading dot
abbrev pub definition_named : Contents → List ℕ → Option Definition
definition_named p name = finite.get p.names (without_dot name)
