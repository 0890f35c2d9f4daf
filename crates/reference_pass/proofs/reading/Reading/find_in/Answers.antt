use Rattle.std.proofs.Common.{◌≡◌, ℕ, Bool, true, false, List, [], ◌∷◌, Option, None, Some, ap, refl, sym, ◌∙◌, if◌then◌else◌}
use Rattle.std.specs.BTreeSet.{BTreeSet, contains_by}
use Rattle.std.specs.FinMap as finite
use Rattle.std.specs.Option.{option_copied, option_map_or, unwrap_or}
use Rattle.std.specs.Ordering.{nat_cmp}
use Rattle.pool_types.specs.Contents.{ByText}
use Rattle.pool_types.specs.declared.contents.definition.Definition.{Definition}
use Rattle.proto_types.specs.Names.{is_dot}
use Rattle.name_resolution.specs.declared.filter.ResolveNameFilter.{ResolveNameFilter}
use Rattle.name_resolution.specs.Resolution.{definition_found, has_leading_dot, judged, look, not_found, relative, resolution}
use Rattle.reference_pass.specs.Setting.{seen_by}
use Rattle.reference_pass.specs.Reading.{setting_of}
use Rattle.reference_pass.proofs.reading.Reading.find_in.Goals as goal

-- where no file is seen, nothing is found
module _ (names : ByText Definition) (filter : ResolveNameFilter) (scope : List ℕ) where
  abbrev unseen : ℕ → Bool
  unseen n = false

  none-looked : (x : List ℕ) (got : Option Definition) → definition_found (option_map_or (judged unseen filter x) got not_found) ≡ None
  none-looked x None = refl
  none-looked x (Some def) = refl

  none-found : (name : List ℕ) → None ≡ (if has_leading_dot name then definition_found (resolution names unseen filter scope name) else None)
  none-found [] = refl
  none-found (c ∷ cs) =
      elim (is_dot c) as (λ b. None ≡ (if b then definition_found (if b then look names unseen filter cs else relative names unseen filter scope (c ∷ cs)) else None))
      [ true ↦ sym (none-looked cs (finite.get names cs)) | false ↦ refl ]

-- what a name means by the files that are seen
abbrev found_by : (names : ByText Definition) → ResolveNameFilter → (scope name : List ℕ) → BTreeSet ℕ → Option Definition
found_by names filter scope name visible =
    if has_leading_dot name then definition_found (resolution names (λ n. contains_by (nat_cmp n) visible) filter scope name) else None

pub returns-in_err-visible : goal.returns-in_err-visible
returns-in_err-visible c = λ scope.
    let s = setting_of c.args.self.now in
    let none : record { keys = [] } ≡ seen_by s c.args.file = ap (λ o. unwrap_or o (record { keys = [] })) c.in_err-visible.ensures in
    ap option_copied c.from_residual.ensures
    ∙ none-found c.args.self.now.names c.args.filter scope c.args.written.now
    ∙ ap (found_by c.args.self.now.names c.args.filter scope c.args.written.now) none

-- the files that are seen are those of the setting
pub returns : goal.returns
returns c = λ scope.
    let s = setting_of c.args.self.now in
    let seen : c.in_ok-visible.visible.now ≡ seen_by s c.args.file = ap (λ o. unwrap_or o (record { keys = [] })) c.in_ok-visible.ensures in
    c.find.ensures scope
    ∙ ap (found_by c.args.self.now.names c.args.filter scope c.args.written.now) seen
