use Rattle.std.proofs.Common.{◌≡◌, length}
use Rattle.std.specs.Option.{option_copied}
use Rattle.descriptor_decoding.specs.Merging.{merged_from}
use Rattle.pool_changes.specs.Options.{option_of, value_merged}
use Rattle.pool_changes.proofs.options.last_value.Given as goal

-- what the bytes behind make of the option so far is what all of them make of none
abbrev pub invariant-loop-field : goal.invariant-loop-field
invariant-loop-field l =
    merged_from 100 (value_merged l.option) (length l.bytes) l.rest (option_copied l.part)
    ≡ option_of l.option l.bytes

abbrev pub decreases-loop-field : goal.decreases-loop-field
decreases-loop-field l = length l.rest
