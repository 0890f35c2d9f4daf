-- Declarations and definitions that are one but for numbers: each file has another number, and so has what it declares.
use Rattle.std.proofs.Common.{◌≡◌, ℕ, Option, Some, None, List}
use Rattle.pool_types.specs.declared.contents.definition.Definition.{Definition}
use Rattle.record_walk.specs.declared.declaration.DeclarationKind.{DeclarationKind}
use Rattle.record_walk.specs.Shown.{Shown}
use Rattle.pool_laws.specs.Order.{kind_alone}
use Rattle.pool_laws.proofs.Paired.{Paired}

-- a definition has the kind of another, numbers aside, and stands at the same path of the file that has the number given; of packages nothing more is asked
abbrev pub StandsAlike : (ℕ → ℕ) → Option DeclarationKind → Definition → Definition → Type 0
StandsAlike number None d e = Unit {0}
StandsAlike number (Some kind) d e = (e.file ≡ number d.file) × (e.path ≡ d.path)

abbrev pub Alike : (ℕ → ℕ) → Definition → Definition → Type 0
Alike number d e = (kind_alone e.kind ≡ kind_alone d.kind) × StandsAlike number (kind_alone d.kind) d e

-- two look-ups find such definitions, or both nothing
abbrev pub BothAlike : (ℕ → ℕ) → Option Definition → Option Definition → Type 0
BothAlike number None None = Unit {0}
BothAlike number (Some d) (Some e) = Alike number d e
BothAlike number _ _ = ⊥

-- a declaration is another in the file that has the number given, whatever its own number is
pub record Moved (number : ℕ → ℕ) (d e : Shown) : Type 0 where
  pub file : e.file ≡ number d.file
  pub path : e.path ≡ d.path
  pub full_name : e.full_name ≡ d.full_name
  pub proto : e.proto ≡ d.proto

-- so it is with declarations, one after another
abbrev pub AllMoved : (ℕ → ℕ) → List Shown → List Shown → Type 0
AllMoved number = Paired (Moved number)
