-- What was found of the kinds of two pools.
use Rattle.std.specs.Prelude.{◌≡◌, ℕ, Bool, false, List}
use Rattle.std.specs.List.{All}
use Rattle.std.specs.Option.{option_map_or}
use Rattle.pool_types.specs.declared.kinds.KindIndex.{KindIndex}
use Rattle.schema_changes.specs.declared.answers.Answer.{Answer}
use Rattle.schema_changes.specs.Both.{Both}
use Rattle.schema_changes.specs.Changes.{Compared}
use Rattle.schema_changes.specs.Kinds.{keeps_numbers, messages_of}
use Rattle.schema_changes.specs.Pairs.{keeps_map, keeps_message}

-- the two pools of two messages
abbrev pub pools_of : Compared → Both
pools_of c = record { older = c.old; newer = c.new }

-- whether the messages of two kinds, by their indexes, pass a test
abbrev pub messages_pass : (ℕ → ℕ → Bool) → KindIndex → KindIndex → Bool
messages_pass test k l = option_map_or (λ e. test e.0 e.1) (messages_of k l) false

-- each answer is what a test gives
abbrev pub AreAnswersOf : (KindIndex → KindIndex → Bool) → List Answer → Type 0
AreAnswersOf test answers = All (λ a. a.is_kept ≡ test a.old a.new) answers

-- what was found of two pools is so
pub record AreRight (b : Both) (numbers maps messages : List Answer) : Type 0 where
  pub numbers_kept : AreAnswersOf (λ k l. keeps_numbers b.older k b.newer l) numbers
  pub maps_kept : AreAnswersOf (messages_pass (λ m n. keeps_map b.older m b.newer n)) maps
  pub messages_kept : AreAnswersOf (messages_pass (λ m n. keeps_message b.older m b.newer n)) messages
