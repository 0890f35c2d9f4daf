-- The parameter of a plugin: options of the check, without their dashes and with commas between
-- them.
use Rattle.std.specs.Prelude.{ℕ, Bool, List, [], ◌∷◌, ◌++◌, ◌==◌, codes, length, nat_lt, unwrap_or}
use Rattle.std.specs.Prelude.{if◌then◌else◌}
use Rattle.std.specs.List.{after_first, before_first, flat_map, position_or_len, slice_split}
use Rattle.std.specs.declared.option.Option.{Option}
use Rattle.descriptor_check.specs.Arguments.{request_of}
use Rattle.descriptor_check.specs.declared.arguments.Request.{Request}

-- a byte is an equals sign
abbrev pub is_equals : ℕ → Bool
is_equals c = c == 61

-- the words of an option: its name behind two dashes, and what stands behind the first equals sign
abbrev pub option_words : List ℕ → List (List ℕ)
option_words option = if nat_lt (position_or_len is_equals option) (length option)
    then (codes "--" ++ before_first is_equals option) ∷ after_first is_equals option ∷ []
    else (codes "--" ++ option) ∷ []

-- the words of what stands between two commas, if that is something
abbrev pub part_words : List ℕ → List (List ℕ)
part_words [] = []
part_words (c ∷ cs) = option_words (c ∷ cs)

-- the words of a parameter, and `-` behind them: the one file of the check
abbrev pub words_of : List ℕ → List (List ℕ)
words_of parameter =
    flat_map part_words (slice_split (λ c. c == 44) parameter) ++ codes "-" ∷ []

-- what a request asks of the check
abbrev pub asked_by : Option (List ℕ) → Request
asked_by parameter = request_of (words_of (unwrap_or parameter []))
