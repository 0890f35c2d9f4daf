-- Truth values as texts.
use Rattle.std.specs.Prelude.{ℕ, Bool, true, false, List, codes, if◌then◌else◌}
use Rattle.std.specs.Str.{bytes_eq}
use Rattle.std.specs.declared.option.Option.{Option}
use Rattle.std.specs.declared.option.Option.TheVariants.{None, Some}

-- the truth value that a text writes: `true` or `false`
abbrev pub truth_value : List ℕ → Option Bool
truth_value text = if bytes_eq text (codes "true") then Some true
    else (if bytes_eq text (codes "false") then Some false else None)
