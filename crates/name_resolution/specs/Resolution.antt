-- What a reference means (the protobuf language rules on names).
use Rattle.std.specs.Prelude.{ℕ, Bool, true, false, not, List, [], ◌∷◌, map, unwrap_or}
use Rattle.std.specs.Prelude.{if◌then◌else◌}
use Rattle.std.specs.FinMap as finite
use Rattle.std.specs.List.{find, list_any}
use Rattle.std.specs.Option.{option_map_or}
use Rattle.std.specs.declared.option.Option.{Option}
use Rattle.std.specs.declared.option.Option.TheVariants.{None, Some}
use Rattle.proto_types.specs.Names.{first_part, is_dot, join}
use Rattle.pool_types.specs.Contents.{ByText}
use Rattle.pool_types.specs.Definition.{is_parent}
use Rattle.pool_types.specs.declared.contents.definition.Definition.{Definition}
use Rattle.pool_types.specs.declared.contents.definition.DefinitionKind.{DefinitionKind}
use Rattle.name_resolution.specs.declared.filter.ResolveNameFilter.{ResolveNameFilter}
use Rattle.name_resolution.specs.declared.resolution.ResolveNameResult.{ResolveNameResult}
use Rattle.name_resolution.specs.declared.resolution.ResolveNameResult.TheVariants as result
use Rattle.name_resolution.specs.Filter.{is_match}
use Rattle.name_resolution.specs.Parents.{outer}

-- what a look-up answers: the full name that was looked up and what it means, of a kind that is
-- wanted, of one that isn't, or in a file that isn't seen; or shadowed, with the name as it is
-- written and the full name that it would have, which isn't defined; or nothing
pub data Resolution : Type 0 where
  found : List ℕ → Definition → Resolution
  invalid_type : List ℕ → Definition → ResolveNameFilter → Resolution
  not_imported : List ℕ → ℕ → Resolution
  shadowed : List ℕ → List ℕ → Resolution
  not_found : Resolution

-- what a look-up of the code answers, as the definitions have it
abbrev pub resolution_in : ResolveNameResult → Resolution
resolution_in (result.Found name def) = found name def.now
resolution_in (result.InvalidType name def filter) = invalid_type name def.now filter
resolution_in (result.NotImported name file) = not_imported name file
resolution_in (result.Shadowed name shadowed_name) = shadowed name shadowed_name
resolution_in result.NotFound = not_found

-- whether a look-up has found what is wanted
abbrev pub is_found : Resolution → Bool
is_found (found _ _) = true
is_found _ = false

-- whether a look-up has found nothing at all
abbrev pub is_not_found : Resolution → Bool
is_not_found not_found = true
is_not_found _ = false

-- the best of answers in order: the earliest that finds something, else the earliest that isn't
-- `not_found`, else `not_found`
abbrev pub best : List Resolution → Resolution
best answers = unwrap_or (find is_found answers)
    (unwrap_or (find (λ r. not (is_not_found r)) answers) not_found)

-- the answer for a full name, which a nearer name shadows where nothing has it
abbrev pub or_shadowed : List ℕ → List ℕ → Resolution → Resolution
or_shadowed written full not_found = shadowed written full
or_shadowed written full other = other

-- whether a name has a dot
abbrev pub has_dot : List ℕ → Bool
has_dot name = list_any is_dot name

-- whether a name has a leading dot
abbrev pub has_leading_dot : List ℕ → Bool
has_leading_dot [] = false
has_leading_dot (c ∷ cs) = is_dot c

-- what a full name with a definition means: it is not seen where its file isn't; else it is of the
-- wrong kind where the kind isn't wanted; else it is found
abbrev pub judged : (ℕ → Bool) → ResolveNameFilter → List ℕ → Definition → Resolution
judged is_seen filter x def =
    if not (is_seen def.file) then not_imported x def.file
    else (if not (is_match filter def.kind) then invalid_type x def filter
    else found x def)

-- under what names mean, which files are seen, and which kinds are wanted
module _ (names : ByText Definition) (is_seen : ℕ → Bool) (filter : ResolveNameFilter) where
  -- what a full name means, which is not found where nothing has it
  abbrev pub look : List ℕ → Resolution
  look x = option_map_or (judged is_seen filter x) (finite.get names x) not_found

  -- what a name without a dot means: it is joined to each scope from the innermost out, and the
  -- best answer holds, so that a definition of another kind, or one that isn't seen, hides none
  -- further out
  abbrev pub simple : List (List ℕ) → List ℕ → Resolution
  simple scopes name = best (map (λ scope. look (join scope name)) scopes)

  -- whether a scope, joined with the first part of a name, is the full name of a package, a
  -- message, a service or an enum, be it seen or not
  abbrev pub holds_first : List ℕ → List ℕ → Bool
  holds_first name scope =
      option_map_or (λ def. is_parent def.kind) (finite.get names (join scope (first_part name)))
      false

  -- what a name with a dot means: it is looked up in the innermost scope that holds its first part,
  -- and in no other
  abbrev pub dotted : List (List ℕ) → List ℕ → Resolution
  dotted scopes name =
      option_map_or (λ scope. or_shadowed name (join scope name) (look (join scope name)))
      (find (holds_first name) scopes) not_found

  -- what a name without a leading dot means: in the empty scope it is looked up as it stands, and
  -- elsewhere in the scopes from there out, by whether it has a dot
  abbrev pub relative : List ℕ → List ℕ → Resolution
  relative [] name = look name
  relative (c ∷ cs) name = if has_dot name then dotted (outer (c ∷ cs)) name
      else simple (outer (c ∷ cs)) name

  -- what a reference means that is written in a scope: one with a leading dot is looked up without
  -- that dot, and any other is relative
  abbrev pub resolution : List ℕ → List ℕ → Resolution
  resolution scope [] = relative scope []
  resolution scope (c ∷ cs) = if is_dot c then look cs else relative scope (c ∷ cs)

-- the definition that was found
abbrev pub definition_found : Resolution → Option Definition
definition_found (found _ def) = Some def
definition_found _ = None

-- the kind of what was found
abbrev pub kind_found : Resolution → Option DefinitionKind
kind_found (found _ def) = Some def.kind
kind_found _ = None

-- the full name of what was found
abbrev pub name_found : Resolution → Option (List ℕ)
name_found (found name _) = Some name
name_found _ = None
