-- What the devices of a plugin tell of themselves.
use Rattle.std.specs.Prelude.{ℕ, List, ◌++◌}
use Rattle.std.specs.Option.{option_map}
use Rattle.std.specs.declared.option.Option.{Option}
use Rattle.std.specs.declared.option.Option.TheVariants.{None}

-- what devices tell: the bytes of the request, those of the file with a name, and the bytes that
-- protoc was answered; nothing of each that they do not tell
pub record Devices : Type 0 where
  pub request : Option (List ℕ)
  pub bytes_of : List ℕ → Option (List ℕ)
  pub answered : Option (List ℕ)

-- devices that tell nothing of themselves
abbrev pub untold : Devices
untold = record { request = None; bytes_of = λ _. None; answered = None }

-- protoc was answered further bytes
abbrev pub with_answer : List ℕ → Devices → Devices
with_answer bytes d = record d { answered = option_map (λ front. front ++ bytes) d.answered }
