-- Nodes with the same keys.
use Rattle.std.proofs.Common.{◌≡◌, ℕ, zero, suc, List, [], ◌∷◌, Option, None, Some, length, refl, ap, sym, subst, ◌∙◌, map}
use Rattle.std.specs.List.{slice_get}
use Rattle.std.specs.Option.{option_map, option_map_or}
use Rattle.std.proofs.lemmas.List.{length-map}
use Rattle.std.proofs.lemmas.Option.{slice_get-map}
use Rattle.name_tables.specs.Tree.{branch}
use Rattle.plain_data.specs.Digests.{digest_after}
use Rattle.name_tables.specs.Nodes.{Row, branch_of, branches_of, Key, as_key, key_of, key_at, front_digest, child_digest}

-- what is read of an element is read of what a function keeps of it
map_or-through : {X Y Z : Type 0} (f : X → Y) (g : Y → Z) (other : Z) (found : Option X) → option_map_or g (option_map f found) other ≡ option_map_or (λ x. g (f x)) found other
map_or-through f g other None = refl
map_or-through f g other (Some x) = refl

-- the branch of a node is read of its key
branches-read : (nodes : List Row) → map (λ (key : Key). branch key.parent key.part) (map key_of nodes) ≡ branches_of nodes
branches-read [] = refl
branches-read (node ∷ nodes) = ap (λ rest. branch_of node ∷ rest) (branches-read nodes)

module _ (xs ys : List Row) where
  -- nodes whose keys are the same have the same at each number
  pub key-keys : map key_of xs ≡ map key_of ys → (k : ℕ) → key_at xs k ≡ key_at ys k
  key-keys same k =
      sym (map_or-through key_of (λ key. key) (as_key 0 0 []) (slice_get xs k))
      ∙ ap (λ found. option_map_or (λ key. key) found (as_key 0 0 [])) (sym (slice_get-map key_of xs k) ∙ ap (λ keys. slice_get keys k) same ∙ slice_get-map key_of ys k)
      ∙ map_or-through key_of (λ key. key) (as_key 0 0 []) (slice_get ys k)

  -- there are as many
  pub length-keys : map key_of xs ≡ map key_of ys → length xs ≡ length ys
  length-keys same = sym (length-map xs key_of) ∙ ap length same ∙ length-map ys key_of

  -- and they stand for the same branches
  pub branches-keys : map key_of xs ≡ map key_of ys → branches_of xs ≡ branches_of ys
  branches-keys same = sym (branches-read xs) ∙ ap (map (λ (key : Key). branch key.parent key.part)) same ∙ branches-read ys

  -- names of children of a branch with the same key begin with the same digest
  front-same : (parent : ℕ) → key_at xs parent ≡ key_at ys parent → front_digest xs parent ≡ front_digest ys parent
  front-same zero same = refl
  front-same (suc k) same = ap (λ (key : Key). key.digest) same

  -- and so has each name the same digest
  pub digest-same : (parent : ℕ) (part : List ℕ) → key_at xs parent ≡ key_at ys parent → child_digest xs parent part ≡ child_digest ys parent part
  digest-same parent part same = ap (λ front. digest_after front part) (front-same parent same)

  -- a key has the digest of its name where it had it before
  pub digests-same : (k : ℕ) → key_at xs k ≡ key_at ys k → key_at xs (key_at ys k).parent ≡ key_at ys (key_at ys k).parent
      → (key_at ys k).digest ≡ child_digest ys (key_at ys k).parent (key_at ys k).part → (key_at xs k).digest ≡ child_digest xs (key_at xs k).parent (key_at xs k).part
  digests-same k same above digested =
      let IsDigested : Key → Type 0 = λ key. key.digest ≡ child_digest xs key.parent key.part in
      subst IsDigested (sym same) (digested ∙ sym (digest-same (key_at ys k).parent (key_at ys k).part above))
