-- What the end of a pass tells.
use Rattle.std.specs.Prelude.{◌≡◌, ℕ, [], MatchResult}
use Rattle.std.specs.declared.option.Option.{Option}
use Rattle.std.specs.declared.result.Result.{Result}
use Rattle.record_walk.specs.Telling.{first_of, rest_of}
use Rattle.reference_pass.specs.SecondPass.{Faults}
use Rattle.descriptor_pool.specs.declared.error.BuildError.{BuildError}
use Rattle.descriptor_pool.specs.declared.error.BuildError.TheVariants.{TooMany, Descriptor}
use Rattle.descriptor_pool.specs.declared.error.BuildError.TheVariants.{OutOfMemory}

-- an error tells faults, and how many more there are, unless memory was refused
abbrev pub TellsFirst : BuildError → Faults → ℕ → Type 0
TellsFirst (Descriptor error) first rest = (error.errors ≡ first) × (error.rest ≡ rest)
TellsFirst OutOfMemory first rest = Unit {0}
TellsFirst (TooMany _) first rest = ⊥

-- an error tells the first of certain faults, and how many more there are, unless memory was
-- refused
abbrev pub TellsFaults : Option ℕ → BuildError → Faults → Type 0
TellsFaults most error faults = TellsFirst error (first_of most faults) (rest_of most faults)

-- after `Ok` there are no faults, and an error tells the first of them, and how many more there
-- are, unless memory was refused
abbrev pub TellsAll : {U : Type 0} → Option ℕ → Result U BuildError → Faults → Type 0
TellsAll most result faults =
    MatchResult result (λ _. faults ≡ []) (λ error. TellsFaults most error faults)
