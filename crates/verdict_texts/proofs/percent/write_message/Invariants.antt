use Rattle.std.proofs.Common.{◌≡◌, ◌++◌, string_bytes}
use Rattle.std.specs.List.{flat_map}
use Rattle.verdict_texts.specs.Percent.{message_char}
use Rattle.verdict_texts.proofs.percent.write_message.Given as goal

-- the characters so far are written
abbrev pub invariant-loop-c : goal.invariant-loop-c
invariant-loop-c l =
    string_bytes l.text ≡ string_bytes l.fn.text ++ flat_map message_char l.yielded
