-- What is answered to a request: the error of a response, or none.
use Rattle.std.specs.Prelude.{◌≡◌, ◌⊎◌, ℕ, Bool, true, false, not, ◌||◌, ◌==◌, is_some, List, []}
use Rattle.std.specs.Prelude.{◌∷◌, ◌++◌, codes, length}
use Rattle.std.specs.declared.option.Option.{Option}
use Rattle.std.specs.declared.option.Option.TheVariants.{None, Some}
use Rattle.descriptor_check.specs.Against.{answer_against}
use Rattle.descriptor_check.specs.Arguments.{help}
use Rattle.descriptor_check.specs.Runs.{AreInputsOf, TellsOneOf}
use Rattle.descriptor_check.specs.declared.answer.Answer.{Answer}
use Rattle.descriptor_check.specs.declared.answer.Status.{Status}
use Rattle.descriptor_check.specs.declared.answer.Status.TheVariants as status
use Rattle.descriptor_check.specs.declared.arguments.Job.{Job}
use Rattle.descriptor_check.specs.declared.arguments.Request.{Request}
use Rattle.descriptor_check.specs.declared.arguments.Request.TheVariants.{Check, Help, Version}
use Rattle.descriptor_check.specs.declared.arguments.Request.TheVariants.{Wrong}
use Rattle.descriptor_check.specs.declared.arguments.TheConstants.{VERSION}
use Rattle.descriptor_check.specs.declared.devices.DeviceError.TheVariants.{Failed}
use Rattle.descriptor_check.specs.declared.inputs.Input.{Input}
use Rattle.protoc_gen_protolink.specs.Parameters.{asked_by}
use Rattle.protoc_gen_protolink.specs.declared.requests.CodeRequest.{CodeRequest}

-- what a check told, as an error: none where the files are accepted. It begins on a line of its
-- own, since protoc puts the name of the plugin in front
abbrev pub error_by : Status → List ℕ → Option (List ℕ)
error_by status.Accepted text = None
error_by _ text = Some (codes "\n" ++ text)

-- the error that an answer of the check is: what it tells on both outputs
abbrev pub error_of : Answer → Option (List ℕ)
error_of a = error_by a.status (a.report ++ a.complaint)

-- the files of a request, as the one input of the check
abbrev pub inputs_of : List ℕ → List Input
inputs_of set = record { name = codes "the request"; bytes = set } ∷ []

-- whether a job wants what a plugin has no place for: something told of accepted files, a set that
-- is written, or a file that the parameter names
abbrev pub asks_too_much : Job → Bool
asks_too_much job = job.wanted.lists || (not (length job.wanted.names == 0)
    || (is_some job.wanted.linked || not (length job.files == 1)))

-- what is wrong with such a job
abbrev pub too_much_words : List ℕ
too_much_words =
    codes "a plugin shows the verdict alone: leave out list, describe, linked and names of files"

-- the error is that of the files of a request against older versions, which have the names that a
-- job has for them, in their order, all of them
abbrev pub Compares : (List ℕ → Option (List ℕ)) → List ℕ → Job → Option (List ℕ) → Type 0
Compares bytes_of set job error = (older : List Input) × AreInputsOf bytes_of job.against older
    × (error ≡ error_of (answer_against job.wanted older (inputs_of set)))

-- the error tells one of some files that could not be read
abbrev pub TellsUnread : (List ℕ → Option (List ℕ)) → List (List ℕ) → Option (List ℕ) → Type 0
TellsUnread bytes_of names error =
    (words : List ℕ) × (error ≡ Some words) × TellsOneOf bytes_of names (Failed words)

-- the error for a job, by whether it wants too much
abbrev pub AnswersJob : (List ℕ → Option (List ℕ)) → List ℕ → Job → Bool → Option (List ℕ) → Type 0
AnswersJob bytes_of set job true error = error ≡ Some too_much_words
AnswersJob bytes_of set job false error =
    Compares bytes_of set job error ⊎ TellsUnread bytes_of job.against error

-- the error for what the parameter asks of the files of a request
abbrev pub Answers : (List ℕ → Option (List ℕ)) → List ℕ → Request → Option (List ℕ) → Type 0
Answers bytes_of set (Check job) error = AnswersJob bytes_of set job (asks_too_much job) error
Answers bytes_of set Help error = error ≡ Some help
Answers bytes_of set Version error = error ≡ Some VERSION.now
Answers bytes_of set (Wrong words) error = error ≡ Some words

-- the error for a request
abbrev pub AnswersRequest : (List ℕ → Option (List ℕ)) → CodeRequest → Option (List ℕ) → Type 0
AnswersRequest bytes_of r error = Answers bytes_of r.set (asked_by r.parameter) error
