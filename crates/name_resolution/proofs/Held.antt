-- A name with a dot, by the scope that holds its first part.
use Rattle.std.proofs.Common.{◌≡◌, ℕ, Bool, false, List, Option, None, Some, refl, ap, sym, ◌∙◌}
use Rattle.std.specs.FinMap as finite
use Rattle.std.specs.List.{find}
use Rattle.std.specs.Option.{option_map_or}
use Rattle.std.proofs.lemmas.Bool.{true≢false}
use Rattle.pool_types.specs.Contents.{ByText}
use Rattle.pool_types.specs.declared.contents.definition.Definition.{Definition}
use Rattle.proto_types.specs.Names.{join}
use Rattle.name_resolution.specs.declared.filter.ResolveNameFilter.{ResolveNameFilter}
use Rattle.name_resolution.specs.Resolution.{Resolution, found, invalid_type, not_imported, shadowed, not_found, is_not_found, or_shadowed, judged, look, holds_first, dotted}
use Rattle.name_resolution.proofs.Innermost.{look-defined, look-undefined, judged-some, found-in}

-- an answer that is something stays so where it may be shadowed
or_shadowed-some : (written full : List ℕ) (r : Resolution) → is_not_found r ≡ false → or_shadowed written full r ≡ r
or_shadowed-some written full (found name def) some = refl
or_shadowed-some written full (invalid_type name def filter) some = refl
or_shadowed-some written full (not_imported name file) some = refl
or_shadowed-some written full (shadowed name other) some = refl
or_shadowed-some written full not_found some = absurd (cc)

-- and what is shadowed is something
shadowed-some : (written full : List ℕ) (r : Resolution) → is_not_found (or_shadowed written full r) ≡ false
shadowed-some written full (found name def) = refl
shadowed-some written full (invalid_type name def filter) = refl
shadowed-some written full (not_imported name file) = refl
shadowed-some written full (shadowed name other) = refl
shadowed-some written full not_found = refl

module _ (names : ByText Definition) (seen : ℕ → Bool) (filter : ResolveNameFilter) (name : List ℕ) (scopes : List (List ℕ)) where
  -- what the scope settles that was found, if one was
  settled-by : Option (List ℕ) → Resolution
  settled-by o = option_map_or (λ scope. or_shadowed name (join scope name) (look names seen filter (join scope name))) o not_found

  -- no scope holds it
  pub dotted-none : find (holds_first names seen filter name) scopes ≡ None → dotted names seen filter scopes name ≡ not_found
  unfolding settled-by
  dotted-none none = ap settled-by none

  module _ (scope : ByText Definition × List ℕ) (held : find (holds_first names seen filter name) scopes ≡ Some scope.1) where
    -- a scope does
    dotted-held : dotted names seen filter scopes name ≡ or_shadowed name (join scope.1 name) (look names seen filter (join scope.1 name))
    unfolding settled-by
    dotted-held = ap settled-by held

    -- so the name means something
    pub dotted-some : dotted names seen filter scopes name ≡ not_found → ⊥
    dotted-some nothing = true≢false (sym (ap is_not_found nothing) ∙ ap is_not_found dotted-held ∙ shadowed-some name (join scope.1 name) (look names seen filter (join scope.1 name)))

    -- which is its definition there
    pub dotted-defined : (full : List ℕ) (def : Definition) → scope.0 ≡ names → Some def ≡ finite.get scope.0 (join scope.1 name) → full ≡ join scope.1 name
        → judged seen filter full def ≡ dotted names seen filter scopes name
    dotted-defined full def same defined is_full =
        let x = join scope.1 name in
        let means = look-defined names seen filter x def (found-in names name scope (Some def) same defined) in
        ap (λ t. judged seen filter t def) is_full
        ∙ sym (or_shadowed-some name x (judged seen filter x def) (judged-some names seen filter x def))
        ∙ ap (or_shadowed name x) (sym means)
        ∙ sym dotted-held

    -- or that it is shadowed
    pub dotted-undefined : (written full : List ℕ) → scope.0 ≡ names → None ≡ finite.get scope.0 (join scope.1 name) → written ≡ name → full ≡ join scope.1 name
        → shadowed written full ≡ dotted names seen filter scopes name
    dotted-undefined written full same undefined is_written is_full =
        let x = join scope.1 name in
        let means = look-undefined names seen filter x (found-in names name scope None same undefined) in
        (λ i. shadowed (is_written i) (is_full i)) ∙ ap (or_shadowed name x) (sym means) ∙ sym dotted-held
