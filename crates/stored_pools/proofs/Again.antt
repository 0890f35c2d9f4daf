-- What a pool was stored as is loaded as that pool, unless memory is refused.
use Rattle.std.proofs.Common.{◌≡◌, ◌<◌, ◌^◌, ℕ, IsOk, List, [], length, MatchResult, Result, Ok, Err, refl, ap, subst, sym, ◌∙◌}
use Rattle.proto_types.specs.declared.file.FileDescriptorSet.{FileDescriptorSet}
use Rattle.descriptor_decoding.specs.Decoding.{file_set_of}
use Rattle.descriptor_decoding.specs.declared.error.DecodeError.TheVariants as decoding
use Rattle.pool_types.specs.Contents.{Contents, no_contents}
use Rattle.descriptor_pool.specs.Build.{first_of_both}
use Rattle.descriptor_pool.specs.declared.error.BuildError.{BuildError}
use Rattle.descriptor_pool.specs.declared.error.BuildError.TheVariants.{TooMany, Descriptor, OutOfMemory}
use Rattle.descriptor_pool.specs.Pool.{Batch, counts_after, faults, link}
use Rattle.pool_laws.proofs.Relinked.{relinked}
use Rattle.stored_pools.specs.declared.storing.LoadError.{LoadError}
use Rattle.stored_pools.specs.declared.storing.LoadError.TheVariants.{Decode, Build}
use Rattle.stored_pools.specs.Loaded.{AreLinked, LacksMemory, Loads, LoadsAgain}
use Rattle.stored_pools.specs.Stored.{MakesPool, stored}
use Rattle.stored_pools.proofs.Makes.{WrittenIsRead, makes-pool}

module _ (bytes : List ℕ) (p : Contents) (makes : MakesPool bytes p) where
  same-set : (set : FileDescriptorSet) → file_set_of bytes ≡ Ok set → set ≡ makes.set
  same-set set read = cc (read, makes.read)

  -- files that make a pool are refused for want of memory alone
  refused-again : (files : Batch) (error : BuildError) → files ≡ makes.set.file → AreLinked files (Err error) → error ≡ OutOfMemory
  refused-again files (TooMany kind) same many =
      let fits : IsOk (counts_after no_contents files) = subst (λ batch. IsOk (counts_after no_contents batch)) (sym same) makes.linked.fits in
      absurd (cc (many, fits))
  refused-again files (Descriptor error) same told =
      let none : faults no_contents makes.set.file ≡ [] = λ i. first_of_both (makes.linked.accepted.0 i) (makes.linked.accepted.1 i) in
      absurd (error.some (told.1 ∙ ap (faults no_contents) same ∙ none))
  refused-again files OutOfMemory same refused = refl

  loads-again : (result : Result Contents LoadError) → Loads bytes result → MatchResult result (λ q. q ≡ p) LacksMemory
  loads-again (Ok q) made = made.linked.is ∙ ap (λ (set : FileDescriptorSet). link no_contents set.file) (same-set made.set made.read) ∙ sym makes.linked.is
  loads-again (Err (Decode decoding.OutOfMemory)) fails = refl
  loads-again (Err (Decode (decoding.Fault f))) fails = absurd (cc (fails, makes.read))
  loads-again (Err (Build error)) refused =
      refused-again refused.set.file error (ap (λ (set : FileDescriptorSet). set.file) (same-set refused.set refused.read)) refused.refused

-- what holds of bytes that are read as they were written
pub stored-again : (bytes : List ℕ) (result : Result Contents LoadError)
    → WrittenIsRead → length bytes < 2 ^ 64 → Loads bytes result → LoadsAgain bytes result
stored-again bytes result written short loads p pool whole is =
    let makes : MakesPool (stored p) p = makes-pool written p (relinked p pool.made) whole (subst (λ bs. length bs < 2 ^ 64) is short) in
    loads-again bytes p (subst (λ bs. MakesPool bs p) (sym is) makes) result loads
