-- What is answered where a file could not be read.
use Rattle.std.proofs.Common.{◌≡◌, ℕ, List, Option, ap, subst, ◌∙◌}
use Rattle.std.specs.Prelude.{Contains}
use Rattle.descriptor_check.specs.Complaints.{no_verdict}
use Rattle.descriptor_check.specs.Runs.{CouldNotReadOne, TellsFailure, TellsOneOf}
use Rattle.descriptor_check.specs.declared.answer.Answer.{Answer}
use Rattle.descriptor_check.specs.declared.devices.DeviceError.{DeviceError}
use Rattle.descriptor_check.specs.declared.devices.DeviceError.TheVariants.{Failed}

pub one-not-read : (bytes_of : List ℕ → Option (List ℕ)) (wanted names : List (List ℕ)) (error : DeviceError) (words : List ℕ) (a : Answer)
    → names ≡ wanted → TellsOneOf bytes_of names error → error ≡ Failed words → a ≡ no_verdict words → CouldNotReadOne bytes_of wanted a
one-not-read bytes_of wanted names error words a all one failed told =
    let named : Contains wanted one.0 = subst (λ ns. Contains ns one.0) all one.1 in
    let fails : TellsFailure (bytes_of one.0) one.0 (Failed words) = subst (λ e. TellsFailure (bytes_of one.0) one.0 e) failed one.2 in
    (one.0, named, (fails.0, (fails.1.0, told ∙ ap no_verdict fails.1.1)))
