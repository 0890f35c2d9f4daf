-- A run of the plugin: from a request to the response, and how it ends.
use Rattle.std.specs.Prelude.{◌≡◌, ◌⊎◌, ℕ, List, Ok, Err}
use Rattle.std.specs.declared.option.Option.{Option}
use Rattle.std.specs.declared.option.Option.TheVariants.{None}
use Rattle.wire_format.specs.declared.fault.WireFault.{WireFault}
use Rattle.descriptor_check.specs.Devices.{IsTold}
use Rattle.descriptor_check.specs.declared.devices.DeviceError.{DeviceError}
use Rattle.descriptor_check.specs.declared.devices.DeviceError.TheVariants as error
use Rattle.protoc_gen_protolink.specs.Answers.{AnswersRequest}
use Rattle.protoc_gen_protolink.specs.Devices.{Devices, with_answer}
use Rattle.protoc_gen_protolink.specs.Requests.{request_in}
use Rattle.protoc_gen_protolink.specs.Responses.{response}
use Rattle.protoc_gen_protolink.specs.declared.ending.Ending.{Ending}
use Rattle.protoc_gen_protolink.specs.declared.ending.Ending.TheVariants.{Answered, NoRequest}
use Rattle.protoc_gen_protolink.specs.declared.ending.Ending.TheVariants.{OutOfMemory}
use Rattle.protoc_gen_protolink.specs.declared.ending.Ending.TheVariants.{Device}
use Rattle.protoc_gen_protolink.specs.declared.requests.CodeRequest.{CodeRequest}

-- bytes are the response to the request that devices tell
abbrev pub IsResponseTo : Devices → List ℕ → Type 0
IsResponseTo d bytes = (asked : List ℕ) × IsTold d.request asked
    × ((request : CodeRequest) × (request_in asked ≡ Ok request)
    × ((error : Option (List ℕ)) × AnswersRequest d.bytes_of request error
    × (bytes ≡ response error)))

-- devices tell of no request: it could not be read, which is not told, or its bytes have a fault
abbrev pub HasNoRequest : Devices → Type 0
HasNoRequest d = (d.request ≡ None)
    ⊎ ((asked : List ℕ) × IsTold d.request asked
    × ((fault : WireFault) × (request_in asked ≡ Err fault)))

-- an error is want of memory, or tells of no request
abbrev pub TellsNoRequest : Devices → DeviceError → Type 0
TellsNoRequest d error.OutOfMemory = Unit {0}
TellsNoRequest d (error.Failed why) = HasNoRequest d

-- protoc was answered some bytes, or not all of them could be written
abbrev pub Writes : List ℕ → Devices → Devices → Ending → Type 0
Writes bytes old new end = ((end ≡ Answered) × (new ≡ with_answer bytes old)) ⊎ (end ≡ Device)

-- how a run ends: protoc was answered the response to its request; or nothing, since there is no
-- request or memory was refused; or not all could be written
abbrev pub Ends : Devices → Devices → Ending → Type 0
Ends old new Answered =
    (bytes : List ℕ) × IsResponseTo old bytes × (new ≡ with_answer bytes old)
Ends old new NoRequest = HasNoRequest old × (new ≡ old)
Ends old new OutOfMemory = new ≡ old
Ends old new Device = Unit {0}

-- the exit status that tells how a run ended
abbrev pub exit_number : Ending → ℕ
exit_number Answered = 0
exit_number NoRequest = 2
exit_number OutOfMemory = 3
exit_number Device = 4
