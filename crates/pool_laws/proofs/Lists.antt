-- The lists of extensions of messages, filled at once and in two steps.
use Rattle.std.proofs.Common.{◌≡◌, ◌≤◌, ◌<◌, ◌+◌, ℕ, List, ◌++◌, length, ap, sym, ◌∙◌, arith}
use Rattle.std.proofs.lemmas.List.{length-append}
use Rattle.std.specs.List.{AllByRecursion}
use Rattle.pool_types.specs.declared.contents.extension.ExtensionDescriptorInner.{ExtensionDescriptorInner}
use Rattle.pool_types.specs.declared.contents.message.MessageDescriptorInner.{MessageDescriptorInner}
use Rattle.plain_data.specs.Each.{map_enumerated}
use Rattle.pool_contents.specs.Extended.{extended_by, with_extensions}
use Rattle.pool_types.specs.Extension.{extending}
use Rattle.pool_contents.proofs.Extending.{with-more}
use Rattle.pool_contents.proofs.Each.{each-append, each-same, each-twice, length-each}
use Rattle.descriptor_pool.proofs.Extendees.{extending-append, extending-none}

module _ (old first second : List ExtensionDescriptorInner) (before later : List MessageDescriptorInner) (below : AllByRecursion (λ x. x.extendee < length before) first) where
  abbrev step_one : ℕ → MessageDescriptorInner → MessageDescriptorInner
  step_one = extended_by (length old) first

  abbrev step_two : ℕ → MessageDescriptorInner → MessageDescriptorInner
  step_two = extended_by (length (old ++ first)) second

  abbrev at_once : ℕ → MessageDescriptorInner → MessageDescriptorInner
  at_once = extended_by (length old) (first ++ second)

  -- the extensions of a message
  joined : (n : ℕ) → extending n (length old) first ++ extending n (length (old ++ first)) second ≡ extending n (length old) (first ++ second)
  joined n =
      ap (λ k. extending n (length old) first ++ extending n k second) (length-append old first) ∙ sym (extending-append n (length old) first second)

  both-steps : (n : ℕ) (m : MessageDescriptorInner) → step_two n (step_one n m) ≡ at_once n m
  both-steps n m = with-more (extending n (length old) first) (extending n (length (old ++ first)) second) m ∙ ap (λ es. with_extensions es m) (joined n)

  -- a later message is extended by none of the first
  one-step : (n : ℕ) (m : MessageDescriptorInner) → length before ≤ n → step_two n m ≡ at_once n m
  one-step n m from =
      let none = extending-none n (length old) (length before) first below from in
      ap (λ es. with_extensions es m) ((λ j. sym none j ++ extending n (length (old ++ first)) second) ∙ joined n)

  pub in-two-steps : map_enumerated step_two 0 (map_enumerated step_one 0 before ++ later) ≡ map_enumerated at_once 0 (before ++ later)
  in-two-steps =
      let many : length (map_enumerated step_one 0 before) ≡ length before = length-each step_one 0 before in
      each-append step_two 0 (map_enumerated step_one 0 before) later
      ∙ (λ i. (each-twice step_two step_one 0 before ∙ each-same (λ n m. step_two n (step_one n m)) at_once 0 before (λ n m _ _. both-steps n m)) i
      ++ map_enumerated step_two (0 + many i) later)
      ∙ ap (λ ms. map_enumerated at_once 0 before ++ ms)
      (each-same step_two at_once (0 + length before) later (λ n m from _. one-step n m (omega (arith, from))))
      ∙ sym (each-append at_once 0 before later)
