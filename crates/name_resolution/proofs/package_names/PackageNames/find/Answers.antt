use Rattle.std.proofs.Common.{◌≡◌, ◌≢◌, ℕ, Bool, true, false, ◌&&◌, List, [], ◌∷◌, Option, None, Some, Bor, if◌then◌else◌, arith, refl, ap, sym, ◌∙◌}
use Rattle.std.specs.Bool.{then_some}
use Rattle.std.specs.BTreeSet.{contains_by}
use Rattle.std.specs.FinMap as finite
use Rattle.std.specs.Option.{option_copied}
use Rattle.std.specs.Ordering.{nat_cmp}
use Rattle.std.proofs.lemmas.Bool.{ne_eqb}
use Rattle.std.proofs.lemmas.Str.Pattern.{strip_prefix_char}
use Rattle.pool_types.specs.Contents.{ByText}
use Rattle.pool_types.specs.declared.contents.definition.Definition.{Definition}
use Rattle.name_resolution.specs.declared.filter.ResolveNameFilter.{ResolveNameFilter}
use Rattle.name_resolution.specs.Filter.{is_match}
use Rattle.name_resolution.specs.Resolution.{Resolution, found, invalid_type, not_imported, shadowed, not_found, definition_found, has_leading_dot, is_found, look, resolution}
use Rattle.name_resolution.proofs.Innermost.{judged-unwanted, look-defined, look-wanted}
use Rattle.name_resolution.proofs.package_names.PackageNames.find.Goals as goal

-- where nothing is found, there is no definition
unfound : (r : Resolution) → is_found r ≡ false → definition_found r ≡ None
unfound (found name def) is = absurd (cc)
unfound (invalid_type name def filter) is = refl
unfound (not_imported name file) is = refl
unfound (shadowed name full) is = refl
unfound not_found is = refl

undotted : (name : List ℕ) → ((rest : List ℕ) → name ≢ 46 ∷ rest) → has_leading_dot name ≡ false
undotted [] none = refl
undotted (c ∷ cs) none = ne_eqb c 46 (λ e. none cs (ap (λ x. x ∷ cs) e))

module _ (names : ByText Definition) (seen : ℕ → Bool) (filter : ResolveNameFilter) (scope name : List ℕ) where
  -- the definition that it means, where it has a leading dot
  abbrev meant : Option Definition
  meant = if has_leading_dot name then definition_found (resolution names seen filter scope name) else None

  none-undotted : ((rest : List ℕ) → name ≢ 46 ∷ rest) → None ≡ meant
  none-undotted none = sym (ap (λ b. if b then definition_found (resolution names seen filter scope name) else None) (undotted name none))

  module _ (full : List ℕ) (written : name ≡ 46 ∷ full) where
    meant-looked : meant ≡ definition_found (look names seen filter full)
    meant-looked = ap (λ n. if has_leading_dot n then definition_found (resolution names seen filter scope n) else None) written

    module _ (def : Bor Definition) (got : finite.get names full ≡ Some def.now) where
      when-wanted : (wanted : Bool) → wanted ≡ (seen def.now.file && is_match filter def.now.kind) → option_copied (then_some wanted def) ≡ meant
      when-wanted true is = sym (meant-looked ∙ ap definition_found (look-wanted names seen filter full def.now got (sym is)))
      when-wanted false is =
          sym (meant-looked ∙ ap definition_found (look-defined names seen filter full def.now got) ∙ unfound _ (judged-unwanted names seen filter full def.now (sym is)))

pub returns-in_err-full_name : goal.returns-in_err-full_name
returns-in_err-full_name c = λ scope.
    let none : (rest : List ℕ) → c.args.name.now ≢ 46 ∷ rest = strip_prefix_char 46 c.args.name.now None c.in_err-full_name.ensures.cases (omega arith) in
    ap option_copied c.from_residual.ensures
    ∙ none-undotted c.args.self.now (λ n. contains_by (nat_cmp n) c.args.visible.now) c.args.filter scope c.args.name.now none

pub returns : goal.returns
returns c = λ scope.
    let names = c.args.self.now in
    let seen : ℕ → Bool = λ n. contains_by (nat_cmp n) c.args.visible.now in
    let full = c.in_ok-full_name.full_name in
    let def = c.in_ok-def.def in
    let written : c.args.name.now ≡ 46 ∷ full.now = strip_prefix_char 46 c.args.name.now (Some full) c.in_ok-full_name.ensures.cases (omega arith) in
    let got : finite.get names full.now ≡ Some def.now = sym c.in_ok-def.ensures in
    ap option_copied c.then_some.ensures
    ∙ when-wanted names seen c.args.filter scope c.args.name.now full.now written def got c.is_wanted.result c.is_wanted.ensures
