-- What a pool changes of an older one.
use Rattle.std.specs.Prelude.{ℕ, List, [], ◌∷◌, codes, slice_get}
use Rattle.std.specs.Option.{option_and_then, option_map}
use Rattle.std.specs.declared.option.Option.{Option}
use Rattle.pool_changes.specs.Comparing.{told_for}
use Rattle.pool_changes.specs.Texts.{with_changes}
use Rattle.pool_changes.specs.declared.direction.Compatibility.{Compatibility}
use Rattle.pool_changes.specs.declared.direction.Compatibility.TheVariants.{Backward, Forward}
use Rattle.pool_changes.specs.declared.direction.Compatibility.TheVariants.{Full}
use Rattle.pool_changes.specs.declared.kinds.Level.{Level}
use Rattle.pool_changes.specs.declared.kinds.Level.TheVariants.{Wire, Json, Source}
use Rattle.pool_changes.specs.declared.told.ToldChanges.{ToldChanges}
use Rattle.record_walk.specs.Counts.{counts_in}
use Rattle.verdict_texts.specs.Objects.{accepted_json}
use Rattle.numbered_pool.specs.declared.answers.Answers.{Answers}
use Rattle.numbered_pool.specs.declared.changes.Asked.{Asked}
use Rattle.numbered_pool.specs.declared.changes.Terms.{Terms}

-- the level with a number
abbrev pub level_numbered : ℕ → Option Level
level_numbered number = slice_get (Wire ∷ Json ∷ Source ∷ []) number

-- the compatibility with a number
abbrev pub compatibility_numbered : ℕ → Option Compatibility
compatibility_numbered number = slice_get (Backward ∷ Forward ∷ Full ∷ []) number

-- the level and the compatibility with two numbers
abbrev pub terms_numbered : Asked → Option Terms
terms_numbered asked = option_and_then (λ level.
    option_map (λ compatibility. record { level = level; compatibility = compatibility })
    (compatibility_numbered asked.compatibility)) (level_numbered asked.level)

-- what a pool changes of an older one, in each direction: of each so many changes at most as faults
-- are told, and how many there are
abbrev pub changes_told : Answers → Answers → Terms → List ToldChanges
changes_told new older terms = told_for terms.compatibility older.pool new.pool terms.level
    (codes "the older pool") new.max_faults

-- the same as an object, as `check_descriptors` has it of an accepted batch
unfoldable pub json_at : Answers → Answers → Terms → List ℕ
json_at new older terms =
    with_changes (changes_told new older terms) (accepted_json (counts_in new.pool))

-- what a pool changes of an older one at the level and for the compatibility with two numbers, if
-- there are such
abbrev pub changes_json : Answers → Answers → Asked → Option (List ℕ)
changes_json new older asked = option_map (json_at new older) (terms_numbered asked)
