-- What a reference means does not depend on how files and declarations are numbered.
use Rattle.std.proofs.Common.{◌≡◌, ◌<◌, ℕ, Bool, true, false, not, cond, ◌&&◌, if◌then◌else◌, List, [], ◌∷◌, Option, None, Some, unwrap_or, refl, ap, subst, sym, ◌∙◌, true≢false}
use Rattle.std.specs.BTreeSet.{contains_by}
use Rattle.std.specs.FinMap as finite
use Rattle.std.specs.List.{find}
use Rattle.std.specs.Option.{is_some, option_map_or}
use Rattle.std.specs.Ordering.{nat_cmp}
use Rattle.std.specs.Prelude.{slice_get}
use Rattle.proto_types.specs.Names.{first_part, is_dot, join}
use Rattle.pool_types.specs.Contents.{ByText}
use Rattle.pool_types.specs.Definition.{is_parent}
use Rattle.pool_types.specs.declared.contents.definition.Definition.{Definition}
use Rattle.pool_types.specs.declared.contents.definition.DefinitionKind.{DefinitionKind}
use Rattle.pool_types.specs.declared.contents.definition.DefinitionKind.TheVariants as definition
use Rattle.record_walk.specs.declared.declaration.DeclarationKind.{DeclarationKind}
use Rattle.record_walk.specs.declared.declaration.DeclarationKind.TheVariants as declaration
use Rattle.name_resolution.specs.declared.filter.ResolveNameFilter.{ResolveNameFilter}
use Rattle.name_resolution.specs.declared.filter.ResolveNameFilter.TheVariants as filter
use Rattle.name_resolution.specs.Filter.{is_match}
use Rattle.name_resolution.specs.Parents.{outer}
use Rattle.name_resolution.specs.Resolution.{Resolution, found, invalid_type, not_imported, not_found, is_found, is_not_found, or_shadowed, has_dot, look, simple, holds_first, dotted, relative, resolution}
use Rattle.name_resolution.proofs.Outward.{answers}
use Rattle.reference_pass.specs.Definitions.{found_as}
use Rattle.reference_pass.specs.Setting.{Setting, resolve, seen_by}
use Rattle.pool_laws.proofs.Fewer.{none-later}
use Rattle.pool_laws.proofs.Looked.{answer}
use Rattle.pool_laws.proofs.Moved.{Alike, BothAlike, StandsAlike}
use Rattle.pool_laws.specs.Order.{kind_alone}

-- whether a kind without its number is wanted, and whether others may stand in it
abbrev pub alone-match : ResolveNameFilter → Option DeclarationKind → Bool
alone-match filter.Message (Some declaration.Message) = true
alone-match filter.Extension (Some declaration.Extension) = true
alone-match filter.FieldType (Some declaration.Message) = true
alone-match filter.FieldType (Some declaration.Enum) = true
alone-match _ _ = false

pub match-alone : (f : ResolveNameFilter) (k : DefinitionKind) → is_match f k ≡ alone-match f (kind_alone k)
match-alone filter.Message definition.Package = refl
match-alone filter.Extension definition.Package = refl
match-alone filter.FieldType definition.Package = refl
match-alone _ _ = refl

abbrev alone-parent : Option DeclarationKind → Bool
alone-parent None = true
alone-parent (Some declaration.Message) = true
alone-parent (Some declaration.Service) = true
alone-parent (Some declaration.Enum) = true
alone-parent _ = false

parent-alone : (k : DefinitionKind) → is_parent k ≡ alone-parent (kind_alone k)
parent-alone definition.Package = refl
parent-alone _ = refl

-- no package is wanted
pub unwanted-package : (f : ResolveNameFilter) (k : Option DeclarationKind) → k ≡ None → alone-match f k ≡ false
unwanted-package filter.Message None is = refl
unwanted-package filter.Extension None is = refl
unwanted-package filter.FieldType None is = refl
unwanted-package f (Some k) is = absurd (cc)

-- two references find the same name, and definitions that are one but for numbers; or neither finds anything
abbrev pub BothFound : (ℕ → ℕ) → Option (List ℕ × Definition) → Option (List ℕ × Definition) → Type 0
BothFound number None None = Unit {0}
BothFound number (Some d) (Some e) = (e.0 ≡ d.0) × Alike number d.1 e.1
BothFound number _ _ = ⊥

abbrev pub SameFound : (ℕ → ℕ) → Resolution → Resolution → Type 0
SameFound number r q = BothFound number (found_as r) (found_as q)

pub same-is : (number : ℕ → ℕ) (r q : Resolution) → SameFound number r q → is_found r ≡ is_found q
same-is number (found _ _) (found _ _) same = refl
same-is number (found _ _) _ same = absurd same
same-is number _ (found _ _) same = absurd same
same-is number _ _ same = refl

missed-as : (r : Resolution) → is_found r ≡ false → found_as r ≡ None
missed-as (found _ _) missed = absurd (true≢false missed)
missed-as _ missed = refl

shadowed-as : (written full : List ℕ) (r : Resolution) → found_as (or_shadowed written full r) ≡ found_as r
shadowed-as written full (found _ _) = refl
shadowed-as written full _ = refl

-- the answer of a look-up, by whether its file is seen and its kind is wanted
chosen : (a b : Bool) (f : ResolveNameFilter) (name : List ℕ) (d : Definition)
    → found_as (if not a then not_imported name d.file else (if not b then invalid_type name d f else found name d)) ≡ cond (a && b) (Some (name, d)) None
chosen true true f name d = refl
chosen true false f name d = refl
chosen false b f name d = refl

both-chosen : (number : ℕ → ℕ) (a c b g : Bool) (name : List ℕ) (d e : Definition) → g ≡ b → (b ≡ true → (c ≡ a) × Alike number d e)
    → BothFound number (cond (a && b) (Some (name, d)) None) (cond (c && g) (Some (name, e)) None)
both-chosen number true true true true name d e same alike = (refl, (alike refl).1)
both-chosen number false false true true name d e same alike = tt
both-chosen number true false true true name d e same alike = absurd (true≢false (sym (alike refl).0))
both-chosen number false true true true name d e same alike = absurd (true≢false (alike refl).0)
both-chosen number true true false false name d e same alike = tt
both-chosen number true false false false name d e same alike = tt
both-chosen number false true false false name d e same alike = tt
both-chosen number false false false false name d e same alike = tt
both-chosen number a c true false name d e same alike = absurd (true≢false (sym same))
both-chosen number a c false true name d e same alike = absurd (true≢false same)

module _ (number : ℕ → ℕ) (ns ms : ByText Definition) (sees shows : ℕ → Bool) (alike : (name : List ℕ) → BothAlike number (finite.get ns name) (finite.get ms name))
    (seen : (name : List ℕ) (def : Definition) → finite.get ns name ≡ Some def → shows (number def.file) ≡ sees def.file) (f : ResolveNameFilter) where
  answered : (name : List ℕ) (o q : Option Definition) → BothAlike number o q → ((d : Definition) → o ≡ Some d → shows (number d.file) ≡ sees d.file)
      → SameFound number (answer ns sees f name o) (answer ms shows f name q)
  answered name None None both see = tt
  answered name None (Some e) both see = absurd both
  answered name (Some d) None both see = absurd both
  answered name (Some d) (Some e) both see =
      subst (BothFound number (found_as (answer ns sees f name (Some d)))) (sym (chosen (shows e.file) (is_match f e.kind) f name e))
      (subst (λ o. BothFound number o (cond (shows e.file && is_match f e.kind) (Some (name, e)) None)) (sym (chosen (sees d.file) (is_match f d.kind) f name d))
      (both-chosen number (sees d.file) (shows e.file) (is_match f d.kind) (is_match f e.kind) name d e
      (match-alone f e.kind ∙ ap (alone-match f) both.0 ∙ sym (match-alone f d.kind))
      (λ wanted. (file-seen (kind_alone d.kind) both.1 refl wanted, both))))
    where
      file-seen : (k : Option DeclarationKind) → StandsAlike number k d e → kind_alone d.kind ≡ k → is_match f d.kind ≡ true → shows e.file ≡ sees d.file
      file-seen None stands is wanted = absurd (true≢false (sym wanted ∙ match-alone f d.kind ∙ unwanted-package f (kind_alone d.kind) is))
      file-seen (Some k) stands is wanted = ap shows stands.0 ∙ see d refl

  looked : (name : List ℕ) → SameFound number (look ns sees f name) (look ms shows f name)
  looked name = answered name (finite.get ns name) (finite.get ms name) (alike name) (seen name)

  -- the first of the answers that found something
  abbrev BothFirst : Option Resolution → Option Resolution → Type 0
  BothFirst None None = Unit {0}
  BothFirst (Some r) (Some q) = SameFound number r q
  BothFirst _ _ = ⊥

  firsts : (name : List ℕ) (scopes : List (List ℕ)) → BothFirst (find is_found (answers ns sees f name scopes)) (find is_found (answers ms shows f name scopes))
  firsts name [] = tt
  firsts name (scope ∷ scopes) =
      let r = look ns sees f (join scope name) in
      let q = look ms shows f (join scope name) in
      let same = looked (join scope name) in
      let rest = firsts name scopes in
      let here = same-is number r q same in
      subst (λ b. BothFirst (cond (is_found r) (Some r) (find is_found (answers ns sees f name scopes))) (cond b (Some q) (find is_found (answers ms shows f name scopes)))) here
      (elim (is_found r) as (λ b. BothFirst (cond b (Some r) (find is_found (answers ns sees f name scopes))) (cond b (Some q) (find is_found (answers ms shows f name scopes))))
      [ true ↦ same | false ↦ rest ])

  -- the first answer that isn't nothing
  abbrev other : List Resolution → Resolution
  other rs = unwrap_or (find (λ r. not (is_not_found r)) rs) not_found

  simples : (scopes : List (List ℕ)) (name : List ℕ) → SameFound number (simple ns sees f scopes name) (simple ms shows f scopes name)
  simples scopes name =
      by (find is_found (answers ns sees f name scopes)) (find is_found (answers ms shows f name scopes)) (firsts name scopes) refl refl
    where
      by : (o q : Option Resolution) → BothFirst o q → find is_found (answers ns sees f name scopes) ≡ o → find is_found (answers ms shows f name scopes) ≡ q
          → SameFound number (unwrap_or o (other (answers ns sees f name scopes))) (unwrap_or q (other (answers ms shows f name scopes)))
      by None None both none missed =
          let old = missed-as (other (answers ns sees f name scopes)) (none-later (answers ns sees f name scopes) none) in
          let new = missed-as (other (answers ms shows f name scopes)) (none-later (answers ms shows f name scopes) missed) in
          subst (λ o. BothFound number o (found_as (other (answers ms shows f name scopes)))) (sym old) (subst (BothFound number None) (sym new) tt)
      by (Some r) (Some q) both some same = both
      by _ _ both some same = absurd both

  held : (o q : Option Definition) → BothAlike number o q → option_map_or (λ (def : Definition). is_parent def.kind) q false ≡ option_map_or (λ (def : Definition). is_parent def.kind) o false
  held None None both = refl
  held (Some d) (Some e) both = parent-alone e.kind ∙ ap alone-parent both.0 ∙ sym (parent-alone d.kind)
  held _ _ both = absurd both

  holds : (name scope : List ℕ) → holds_first ms shows f name scope ≡ holds_first ns sees f name scope
  holds name scope = let x = join scope (first_part name) in held (finite.get ns x) (finite.get ms x) (alike x)

  scopes-hold : (name : List ℕ) (scopes : List (List ℕ)) → find (holds_first ms shows f name) scopes ≡ find (holds_first ns sees f name) scopes
  scopes-hold name [] = refl
  scopes-hold name (scope ∷ scopes) = λ i. cond (holds name scope i) (Some scope) (scopes-hold name scopes i)

  settled : (name : List ℕ) (o : Option (List ℕ))
      → SameFound number (option_map_or (λ scope. or_shadowed name (join scope name) (look ns sees f (join scope name))) o not_found)
      (option_map_or (λ scope. or_shadowed name (join scope name) (look ms shows f (join scope name))) o not_found)
  settled name None = tt
  settled name (Some scope) =
      let full = join scope name in
      subst (λ o. BothFound number o (found_as (or_shadowed name full (look ms shows f full)))) (sym (shadowed-as name full (look ns sees f full)))
      (subst (BothFound number (found_as (look ns sees f full))) (sym (shadowed-as name full (look ms shows f full))) (looked full))

  dotteds : (scopes : List (List ℕ)) (name : List ℕ) → SameFound number (dotted ns sees f scopes name) (dotted ms shows f scopes name)
  dotteds scopes name =
      subst (λ o. SameFound number (dotted ns sees f scopes name) (option_map_or (λ scope. or_shadowed name (join scope name) (look ms shows f (join scope name))) o not_found))
      (sym (scopes-hold name scopes)) (settled name (find (holds_first ns sees f name) scopes))

  relatives : (scope name : List ℕ) → SameFound number (relative ns sees f scope name) (relative ms shows f scope name)
  relatives [] name = looked name
  relatives (c ∷ cs) name =
      elim (has_dot name) as (λ b. SameFound number (if b then dotted ns sees f (outer (c ∷ cs)) name else simple ns sees f (outer (c ∷ cs)) name)
      (if b then dotted ms shows f (outer (c ∷ cs)) name else simple ms shows f (outer (c ∷ cs)) name))
      [ true ↦ dotteds (outer (c ∷ cs)) name | false ↦ simples (outer (c ∷ cs)) name ]

  pub resolutions : (scope written : List ℕ) → SameFound number (resolution ns sees f scope written) (resolution ms shows f scope written)
  resolutions scope [] = relatives scope []
  resolutions scope (c ∷ cs) =
      elim (is_dot c) as (λ b. SameFound number (if b then look ns sees f cs else relative ns sees f scope (c ∷ cs)) (if b then look ms shows f cs else relative ms shows f scope (c ∷ cs)))
      [ true ↦ looked cs | false ↦ relatives scope (c ∷ cs) ]

-- two settings hold the same files under other numbers: names mean definitions that are one but for these, and each file sees what it sees
pub record Renames (s t : Setting) (many : ℕ) (number : ℕ → ℕ) : Type 0 where
  pub names : (name : List ℕ) → BothAlike number (finite.get s.names name) (finite.get t.names name)
  pub lie : (name : List ℕ) (def : Definition) → finite.get s.names name ≡ Some def → def.file < many
  pub files : (n : ℕ) → n < many → slice_get t.files (number n) ≡ slice_get s.files n
  pub file_names : (name : List ℕ) → is_some (finite.get t.file_names name) ≡ is_some (finite.get s.file_names name)
  pub sees : (n m : ℕ) → n < many → m < many → contains_by (nat_cmp (number m)) (seen_by t (number n)) ≡ contains_by (nat_cmp m) (seen_by s n)

-- so a reference of a file means the same, numbers aside
pub resolve-renamed : (s t : Setting) (many : ℕ) (number : ℕ → ℕ) → Renames s t many number → (file : ℕ) → file < many → (scope written : List ℕ) (f : ResolveNameFilter)
    → SameFound number (resolve s file scope f written) (resolve t (number file) scope f written)
resolve-renamed s t many number renames file below scope written f =
    resolutions number s.names t.names (λ n. contains_by (nat_cmp n) (seen_by s file)) (λ n. contains_by (nat_cmp n) (seen_by t (number file)))
    renames.names (λ name def is. renames.sees file def.file below (renames.lie name def is)) f scope written
