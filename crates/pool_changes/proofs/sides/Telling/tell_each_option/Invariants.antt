use Rattle.std.proofs.Common.{◌≡◌, ◌++◌, take, flat_map}
use Rattle.pool_changes.specs.Options.{code_options, option_changes}
use Rattle.pool_changes.specs.Sides.{versions}
use Rattle.pool_changes.proofs.sides.Telling.tell_each_option.Given as goal

-- the options so far are told
abbrev pub invariant-loop-option : goal.invariant-loop-option
invariant-loop-option l = l.told ≡ l.initial.told
    ++ flat_map (option_changes (versions l.self) l.files.before.now l.files.after.now) (take l.option-index code_options)
