use Rattle.std.proofs.Common.{◌≡◌, ◌∷◌, ◌++◌, string_bytes}
use Rattle.std.specs.List.{flat_map}
use Rattle.verdict_texts.specs.JsonStrings.{json_char}
use Rattle.verdict_texts.proofs.strings.write_json_string.Given as goal

-- the quote and the characters so far are written
abbrev pub invariant-loop-c : goal.invariant-loop-c
invariant-loop-c l =
    string_bytes l.text ≡ string_bytes l.fn.text ++ 34 ∷ flat_map json_char l.yielded
