-- What is wrong with bytes, in words.
use Rattle.std.specs.Prelude.{ℕ, List, ◌++◌, codes}
use Rattle.std.specs.Fmt.{decimal}
use Rattle.wire_format.specs.declared.fault.WireFault.{WireFault}
use Rattle.wire_format.specs.declared.fault.WireFaultKind.{WireFaultKind}
use Rattle.wire_format.specs.declared.fault.WireFaultKind.TheVariants as wire

-- what is wrong with bytes
abbrev pub wire_words : WireFaultKind → List ℕ
wire_words wire.Truncated = codes "a field is cut off"
wire_words wire.LongVarint = codes "a number has more than ten bytes"
wire_words wire.LargeTag = codes "a tag has more than five bytes or more than 32 bits"
wire_words wire.FieldNumberZero = codes "a field has the number 0"
wire_words wire.UnknownWireType = codes "a field has an unknown wire type"
wire_words wire.EndGroup = codes "a group ends that did not begin"
wire_words wire.NotUtf8 = codes "a text is not UTF-8"
wire_words wire.TooDeep = codes "messages nest too deep"

-- the first fault of bytes, and where it is
abbrev pub bytes_words : WireFault → List ℕ
bytes_words fault = codes "byte " ++ (decimal fault.at ++ (codes ": " ++ wire_words fault.kind))
