-- Scopes and references, computed.
use Rattle.std.specs.Prelude.{◌≡◌, ℕ, ◌==◌, List, [], ◌∷◌, codes, refl}
use Rattle.std.specs.Cmp.Lexicographic.{slice_cmp}
use Rattle.std.specs.FinMap as finite
use Rattle.std.specs.FinMap.{get-empty}
use Rattle.std.specs.Ordering.{nat_cmp}
use Rattle.name_tables.specs.Entries.{Entry, names_with}
use Rattle.name_tables.proofs.Entries.{get-with}
use Rattle.pool_types.specs.declared.contents.definition.Definition.{Definition}
use Rattle.pool_types.specs.declared.contents.definition.DefinitionKind.{DefinitionKind}
use Rattle.pool_types.specs.declared.contents.definition.DefinitionKind.TheVariants.{Package, Message, Oneof}
use Rattle.name_resolution.specs.declared.filter.ResolveNameFilter.TheVariants.{FieldType}
use Rattle.name_resolution.specs.Parents.{outer}
use Rattle.name_resolution.specs.Resolution.{Resolution, found, invalid_type, not_imported, shadowed, not_found, resolution}

pub parents_of_a_field : outer (codes "p.M.f") ≡ codes "p.M.f" ∷ codes "p.M" ∷ codes "p" ∷ [] ∷ []
parents_of_a_field = refl

pub parents_of_the_empty_text : outer [] ≡ [] ∷ [] ∷ []
parents_of_the_empty_text = refl

pub parents_behind_a_leading_dot : outer (codes ".a") ≡ codes ".a" ∷ [] ∷ [] ∷ []
parents_behind_a_leading_dot = refl

-- a definition of a kind in a file
abbrev in_file : ℕ → DefinitionKind → Definition
in_file n kind = record { file = n; path = []; kind = kind }

-- a reference in a scope, where names mean what the first entries say; the file 0 is seen
abbrev means : List Entry → List ℕ → List ℕ → Resolution
means entries scope written = resolution (names_with finite.empty entries) (λ n. n == 0) FieldType scope written

-- the package `foo` with a message, and the package `p.foo` without
abbrev two_foos : List Entry
two_foos =
    (codes "foo", in_file 0 Package) ∷ (codes "foo.Bar", in_file 0 (Message 0)) ∷ (codes "p", in_file 0 Package) ∷ (codes "p.foo", in_file 0 Package) ∷ []

pub inner_package_shadows : means two_foos (codes "p.M.f") (codes "foo.Bar") ≡ shadowed (codes "foo.Bar") (codes "p.foo.Bar")
inner_package_shadows = simp (get-with {X = Definition}, get-empty {X = Definition} (slice_cmp nat_cmp)) refl

pub full_name_is_not_shadowed : means two_foos (codes "p.M.f") (codes ".foo.Bar") ≡ found (codes "foo.Bar") (in_file 0 (Message 0))
full_name_is_not_shadowed = simp (get-with {X = Definition}, get-empty {X = Definition} (slice_cmp nat_cmp)) refl

-- a oneof, and a message of the same name further out
abbrev oneof_and_message : List Entry
oneof_and_message = (codes "p.M.X", in_file 0 (Oneof 0)) ∷ (codes "p.X", in_file 0 (Message 1)) ∷ []

pub oneof_hides_no_message : means oneof_and_message (codes "p.M.f") (codes "X") ≡ found (codes "p.X") (in_file 0 (Message 1))
oneof_hides_no_message = simp (get-with {X = Definition}, get-empty {X = Definition} (slice_cmp nat_cmp)) refl

abbrev oneof_alone : List Entry
oneof_alone = (codes "p.M.X", in_file 0 (Oneof 0)) ∷ []

pub oneof_alone_is_no_type : means oneof_alone (codes "p.M.f") (codes "X") ≡ invalid_type (codes "p.M.X") (in_file 0 (Oneof 0)) FieldType
oneof_alone_is_no_type = simp (get-with {X = Definition}, get-empty {X = Definition} (slice_cmp nat_cmp)) refl

-- `p.A` lies in a file that isn't seen
abbrev one_unseen : List Entry
one_unseen =
    (codes "p.A", in_file 1 (Message 0)) ∷ (codes "A", in_file 0 (Message 1)) ∷ (codes "A.B", in_file 0 (Message 2)) ∷ []

pub unseen_message_is_passed_over : means one_unseen (codes "p.M.f") (codes "A") ≡ found (codes "A") (in_file 0 (Message 1))
unseen_message_is_passed_over = simp (get-with {X = Definition}, get-empty {X = Definition} (slice_cmp nat_cmp)) refl

pub unseen_message_settles_a_name_with_a_dot : means one_unseen (codes "p.M.f") (codes "A.B") ≡ shadowed (codes "A.B") (codes "p.A.B")
unseen_message_settles_a_name_with_a_dot = simp (get-with {X = Definition}, get-empty {X = Definition} (slice_cmp nat_cmp)) refl

abbrev unseen_alone : List Entry
unseen_alone = (codes "p.A", in_file 1 (Message 0)) ∷ []

pub unseen_message_alone_is_not_imported : means unseen_alone (codes "p.M.f") (codes "A") ≡ not_imported (codes "p.A") 1
unseen_message_alone_is_not_imported = simp (get-with {X = Definition}, get-empty {X = Definition} (slice_cmp nat_cmp)) refl

-- a full name that begins with a dot, which no file enters
abbrev behind_a_dot : List Entry
behind_a_dot = (codes ".x", in_file 0 (Message 0)) ∷ []

-- the empty scope adds no dot
pub name_behind_a_dot_is_not_found : means behind_a_dot (codes ".a") (codes "x") ≡ not_found
name_behind_a_dot_is_not_found = simp (get-with {X = Definition}, get-empty {X = Definition} (slice_cmp nat_cmp)) refl

-- in the empty scope a name is looked up as it stands
pub empty_scope_is_not_shadowed : means two_foos [] (codes "foo.None") ≡ not_found
empty_scope_is_not_shadowed = simp (get-with {X = Definition}, get-empty {X = Definition} (slice_cmp nat_cmp)) refl
