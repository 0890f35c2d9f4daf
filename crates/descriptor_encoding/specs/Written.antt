-- Sets of files that are read and written again.
use Rattle.std.specs.Prelude.{◌≡◌, ℕ, List, Result, Ok, Err}
use Rattle.wire_format.specs.declared.fault.WireFault.{WireFault}
use Rattle.proto_types.specs.declared.file.FileDescriptorSet.{FileDescriptorSet}
use Rattle.descriptor_decoding.specs.declared.error.DecodeError.{DecodeError}
use Rattle.descriptor_decoding.specs.Merging.{put, Fails}
use Rattle.descriptor_encoding.specs.Encoding.{set_encoding}

-- What a function returned, seen by view, is the encoding of what is read, unless memory ran out.
abbrev pub Writes : {X : Type 0} → (X → List ℕ) → Result X DecodeError
    → Result FileDescriptorSet WireFault → Type 0
Writes view (Ok x) read = put read set_encoding ≡ Ok (view x)
Writes view (Err e) read = Fails e read
