-- Scopes when a name has come in the one with a level.
use Rattle.std.proofs.Common.{◌≡◌, ◌<◌, ◌+◌, ◌-◌, ℕ, suc, List, [], ◌∷◌, ◌++◌, length, take, drop, get_or, ap, sym, ◌∙◌, arith, length-append}
use Rattle.std.proofs.lemmas.List.{drop_at, get_or-take, length-take-le, take_at}
use Rattle.std.proofs.Math.Seq.{get_or-append_seam}
use Rattle.std.specs.FinMap as map
use Rattle.pool_types.specs.Contents.{ByText}
use Rattle.pool_types.specs.declared.contents.definition.Definition.{Definition}
use Rattle.proto_types.specs.Names.{join}
use Rattle.name_pass.specs.declared.names.NameInScope.{NameInScope}
use Rattle.name_pass.specs.declared.names.NameVisitor.{NameVisitor}
use Rattle.name_pass.specs.State.{opened, scopes_of, StandsIn}

module _ (scopes : List (List ℕ)) (level : ℕ) (text : List ℕ) (below : level < length scopes) where
  -- those up to that one, and that of the full name
  abbrev next : List (List ℕ)
  next = take (suc level) scopes ++ text ∷ []

  front : length (take (suc level) scopes) ≡ suc level
  front = length-take-le (suc level) scopes (omega (arith, below))

  pub opened-length : length next ≡ suc level + 1
  opened-length = length-append (take (suc level) scopes) (text ∷ []) ∙ ap (λ n. n + 1) front

  pub opened-last : get_or next (suc level) [] ≡ text
  opened-last = ap (λ n. get_or next n []) (sym front) ∙ get_or-append_seam (take (suc level) scopes) text [] []

  pub opened-kept : take (suc level) next ≡ take (suc level) scopes
  opened-kept = take_at (take (suc level) scopes) (text ∷ []) (suc level) front

  pub opened-at : get_or next level [] ≡ get_or scopes level []
  opened-at = sym (get_or-take (suc level) next level [] (omega arith)) ∙ ap (λ xs. get_or xs level []) opened-kept ∙ get_or-take (suc level) scopes level [] (omega arith)

  -- the new scope and that one, once these are the open ones
  pub deeper-open : (now : List (List ℕ)) → now ≡ next → level + 1 < length now
  deeper-open now is = omega (arith, ap length is, opened-length)

  pub deeper-text : (now : List (List ℕ)) → now ≡ next → get_or now (level + 1) [] ≡ text
  deeper-text now is = let deeper : level + 1 ≡ suc level = omega arith in (λ i. get_or (is i) (deeper i) []) ∙ opened-last

  pub same-open : (now : List (List ℕ)) → now ≡ next → level < length now
  same-open now is = omega (arith, ap length is, opened-length)

  pub same-text : (now : List (List ℕ)) → now ≡ next → get_or now level [] ≡ get_or scopes level []
  same-text now is = ap (λ xs. get_or xs level []) is ∙ opened-at

  -- the new one is the innermost
  pub some-open : (now : List (List ℕ)) → now ≡ next → 0 < length now
  some-open now is = omega (arith, ap length is, opened-length)

  pub last-text : (now : List (List ℕ)) → now ≡ next → get_or now (length now - 1) [] ≡ text
  last-text now is =
      let last : length now - 1 ≡ suc level = omega (arith, ap length is, opened-length) in
      (λ i. get_or (is i) (last i) []) ∙ opened-last

  pub innermost : drop (length next - 1) next ≡ text ∷ []
  innermost =
      let last : length next - 1 ≡ suc level = omega (arith, opened-length) in
      ap (λ n. drop n next) last ∙ drop_at (take (suc level) scopes) (text ∷ []) (suc level) front

-- names with scopes, where a name has been opened
module _ (v : NameVisitor) (n : NameInScope) (stands : StandsIn (scopes_of v) n) (now : ByText Definition × List (List ℕ)) (same : now.0 ≡ v.names.now.0)
    (is : now.1 ≡ take (suc n.level) (scopes_of v) ++ join (get_or (scopes_of v) n.level []) n.name.now ∷ []) where
  -- its scope is the innermost
  pub named-some : 0 < length now.1
  named-some = some-open (scopes_of v) n.level (join (get_or (scopes_of v) n.level []) n.name.now) stands.0 now.1 is

  -- whose text is the full name
  pub named-text : get_or now.1 (length now.1 - 1) [] ≡ n.full_name.now
  named-text = last-text (scopes_of v) n.level (join (get_or (scopes_of v) n.level []) n.name.now) stands.0 now.1 is ∙ sym stands.1

  pub named-scopes : now.1 ≡ opened (scopes_of v) n
  named-scopes = is ∙ ap (λ full. take (suc n.level) (scopes_of v) ++ full ∷ []) (sym stands.1)

  -- it means what the full name meant
  pub named-means : map.get now.0 (get_or now.1 (length now.1 - 1) []) ≡ map.get v.names.now.0 n.full_name.now
  named-means = λ i. map.get (same i) (named-text i)
