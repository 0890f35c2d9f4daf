-- A run of the check: what is answered to the arguments, and how the run ends.
use Rattle.std.specs.Prelude.{◌≡◌, ◌⊎◌, ℕ, List, ◌++◌, All, Contains, codes, map}
use Rattle.std.specs.declared.option.Option.{Option}
use Rattle.std.specs.declared.option.Option.TheVariants.{None, Some}
use Rattle.descriptor_check.specs.Against.{answer_against}
use Rattle.descriptor_check.specs.Answers.{told}
use Rattle.descriptor_check.specs.Arguments.{help, request_of}
use Rattle.descriptor_check.specs.Complaints.{no_verdict, wrong_arguments}
use Rattle.descriptor_check.specs.Devices.{Devices, IsTold, with_complaint, with_report, with_set}
use Rattle.descriptor_check.specs.declared.arguments.TheConstants.{VERSION}
use Rattle.descriptor_check.specs.declared.answer.Answer.{Answer}
use Rattle.descriptor_check.specs.declared.answer.LinkedSet.{LinkedSet}
use Rattle.descriptor_check.specs.declared.answer.Status.{Status}
use Rattle.descriptor_check.specs.declared.answer.Status.TheVariants as status
use Rattle.descriptor_check.specs.declared.arguments.Job.{Job}
use Rattle.descriptor_check.specs.declared.arguments.Request.{Request}
use Rattle.descriptor_check.specs.declared.arguments.Request.TheVariants.{Check, Help, Version}
use Rattle.descriptor_check.specs.declared.arguments.Request.TheVariants.{Wrong}
use Rattle.descriptor_check.specs.declared.devices.DeviceError.{DeviceError}
use Rattle.descriptor_check.specs.declared.devices.DeviceError.TheVariants.{OutOfMemory, Failed}
use Rattle.descriptor_check.specs.declared.inputs.Input.{Input}

-- an input has a name, and the bytes that are told of the file with it
abbrev pub IsInputOf : (List ℕ → Option (List ℕ)) → List ℕ → Input → Type 0
IsInputOf bytes_of name input = (input.name ≡ name) × IsTold (bytes_of name) input.bytes

-- inputs have some names, in their order, all of them, and the bytes that are told of these files
abbrev pub AreInputsOf : (List ℕ → Option (List ℕ)) → List (List ℕ) → List Input → Type 0
AreInputsOf bytes_of names inputs = (map (λ i. i.name) inputs ≡ names)
    × All (λ i. IsTold (bytes_of i.name) i.bytes) inputs

-- what could not be read, and why
abbrev pub failure_words : List ℕ → List ℕ → List ℕ
failure_words name why = name ++ (codes ": " ++ why)

-- an error is want of memory, or tells that what has a name could not be read, which is not told
abbrev pub TellsFailure : {A : Type 0} → Option A → List ℕ → DeviceError → Type 0
TellsFailure told name OutOfMemory = Unit {0}
TellsFailure told name (Failed words) =
    (told ≡ None) × ((why : List ℕ) × (words ≡ failure_words name why))

-- an error is want of memory, or tells which of some files could not be read
abbrev pub TellsOneOf : (List ℕ → Option (List ℕ)) → List (List ℕ) → DeviceError → Type 0
TellsOneOf bytes_of names error =
    (name : List ℕ) × Contains names name × TellsFailure (bytes_of name) name error

-- no verdict, with what could not be read
abbrev pub TellsUnread : List ℕ → Answer → Type 0
TellsUnread name a = (why : List ℕ) × (a ≡ no_verdict (failure_words name why))

-- no verdict, since what has a name could not be read, which is not told
abbrev pub CouldNotRead : {A : Type 0} → Option A → List ℕ → Answer → Type 0
CouldNotRead told name a = (told ≡ None) × TellsUnread name a

-- no verdict, since one of some files could not be read
abbrev pub CouldNotReadOne : (List ℕ → Option (List ℕ)) → List (List ℕ) → Answer → Type 0
CouldNotReadOne bytes_of names a =
    (name : List ℕ) × Contains names name × CouldNotRead (bytes_of name) name a

-- the answer to some inputs against older versions, which have the names of the files and of the
-- older versions of a job, in their order, all of them
abbrev pub Answers : (List ℕ → Option (List ℕ)) → Job → Answer → Type 0
Answers bytes_of job a = (older inputs : List Input) × AreInputsOf bytes_of job.against older
    × AreInputsOf bytes_of job.files inputs × (a ≡ answer_against job.wanted older inputs)

-- the answer to a job: that of its files against its older versions, or that one of these or of
-- those could not be read
abbrev pub Checks : (List ℕ → Option (List ℕ)) → Job → Answer → Type 0
Checks bytes_of job a = Answers bytes_of job a
    ⊎ (CouldNotReadOne bytes_of job.against a ⊎ CouldNotReadOne bytes_of job.files a)

-- the answer to what some words ask
abbrev pub Asked : (List ℕ → Option (List ℕ)) → Request → Answer → Type 0
Asked bytes_of (Check job) a = Checks bytes_of job a
Asked bytes_of Help a = a ≡ told status.Accepted help
Asked bytes_of Version a = a ≡ told status.Accepted VERSION.now
Asked bytes_of (Wrong words) a = a ≡ wrong_arguments words

-- the answer to the arguments that are told, or that they could not be read
abbrev pub IsAnswerTo : Devices → Answer → Type 0
IsAnswerTo d a =
    ((words : List (List ℕ)) × IsTold d.words words × Asked d.bytes_of (request_of words) a)
    ⊎ CouldNotRead d.words (codes "the arguments") a

-- both texts of an answer written
abbrev pub with_texts : Answer → Devices → Devices
with_texts a d = with_complaint a.complaint (with_report a.report d)

-- a set that is wanted became a file
abbrev pub with_wanted : Option LinkedSet → Devices → Devices
with_wanted None d = d
with_wanted (Some set) d = with_set set d

-- a run ends before all is told: memory was refused, and nothing is written; or something could not
-- be written, and the file for the set stays as it is
abbrev pub EndsShort : Devices → Devices → Status → Type 0
EndsShort old new st = ((st ≡ status.OutOfMemory) × (new ≡ old))
    ⊎ ((st ≡ status.Device) × (new.sets ≡ old.sets))

-- a run ends with a status once all is written, or before
abbrev pub EndsIn : Devices → Devices → Devices → Status → Status → Type 0
EndsIn whole old new wanted st = ((st ≡ wanted) × (new ≡ whole)) ⊎ EndsShort old new st

-- a run ends as an answer says, once its texts and its set are written, or before
abbrev pub EndsAs : Devices → Devices → Answer → Status → Type 0
EndsAs old new a st = EndsIn (with_wanted a.linked (with_texts a old)) old new a.status st

-- a run ends as an answer to its arguments says, once its texts and its set are written, or before
abbrev pub Ends : Devices → Devices → Status → Type 0
Ends old new st = ((a : Answer) × IsAnswerTo old a × (st ≡ a.status)
    × (new ≡ with_wanted a.linked (with_texts a old)))
    ⊎ EndsShort old new st
