-- The new extensions by their messages and numbers.
use Rattle.std.specs.Prelude.{◌≡◌, ◌==◌, ◌&&◌, ◌||◌, ◌-◌, ℕ, Bool, true, List, length, nat_lt}
use Rattle.std.specs.Prelude.{slice_get, if◌then◌else◌}
use Rattle.std.specs.BTreeMap.{BTreeMap, get}
use Rattle.std.specs.List.{AllPass}
use Rattle.std.specs.Option.{IfSome, MatchOption, option_or}
use Rattle.std.specs.Ordering.{nat_cmp, ordering_then}
use Rattle.std.specs.declared.cmp.Ordering.{Ordering}
use Rattle.std.specs.declared.option.Option.{Option}
use Rattle.std.specs.declared.option.Option.TheVariants.{None, Some}
use Rattle.pool_types.specs.declared.contents.extension.ExtensionDescriptorInner.{ExtensionDescriptorInner}
use Rattle.pool_types.specs.Extension.{extension_numbered}

-- the order of pairs by their first and then by their second numbers
abbrev pub pair_cmp : ℕ × ℕ → ℕ × ℕ → Ordering
pair_cmp x y = ordering_then (nat_cmp x.0 y.0) (nat_cmp x.1 y.1)

-- a message and a number lead to the first of some extensions that has them
abbrev pub LeadsToFirst : List ExtensionDescriptorInner → BTreeMap (ℕ × ℕ) ℕ → Type 0
LeadsToFirst xs positions = (message number : ℕ)
    → get pair_cmp positions (message, number) ≡ extension_numbered xs message number

-- a message and a number lead to a position then, unless they led to one before, and all else stays
abbrev pub EntersFirst : BTreeMap (ℕ × ℕ) ℕ → BTreeMap (ℕ × ℕ) ℕ → ℕ × ℕ → ℕ → Type 0
EntersFirst old new key position = (other : ℕ × ℕ)
    → get pair_cmp new other ≡ option_or (get pair_cmp old other)
    (if key.0 == other.0 && key.1 == other.1 then Some position else None)

-- whether an extension comes before a message and a number: it is one of an earlier message, or of
-- that message with a smaller number
abbrev pub comes_before : ℕ → ℕ → ExtensionDescriptorInner → Bool
comes_before message number x =
    nat_lt x.extendee message || (x.extendee == message && nat_lt x.number number)

-- the last extension, if there is one, comes before a message and a number
abbrev pub ComesBehind : List ExtensionDescriptorInner → ℕ → ℕ → Type 0
ComesBehind xs message number =
    IfSome (slice_get xs (length xs - 1)) (λ x. comes_before message number x ≡ true)

-- what the last extension comes before, all come before
abbrev pub LastIsGreatest : List ExtensionDescriptorInner → Type 0
LastIsGreatest xs = (message number : ℕ) → ComesBehind xs message number
    → AllPass (comes_before message number) xs

-- a message and a number lead to the first of some extensions that has them; or there is no map,
-- since the last has the greatest
abbrev pub AreNumbered : List ExtensionDescriptorInner → Option (BTreeMap (ℕ × ℕ) ℕ) → Type 0
AreNumbered xs positions = MatchOption positions (LastIsGreatest xs) (LeadsToFirst xs)
