-- All that unfolds when a script runs on literal bytes.
use Rattle.std.specs.Fmt.{digits}
use Rattle.std.specs.Str.{is_utf8, chars}
use lib.Utf8.{encode}
use Rattle.proto_types.specs.Computed.{literals}

unfoldable pub scripts : Unit {0}
unfolding digits is_utf8 chars encode literals
scripts = tt
