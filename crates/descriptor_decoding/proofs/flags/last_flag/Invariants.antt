use Rattle.std.proofs.Common.{◌≡◌, length}
use Rattle.descriptor_decoding.specs.Merging.{merged_from}
use Rattle.descriptor_decoding.specs.Flags.{flag_merged, flag_of}
use Rattle.descriptor_decoding.proofs.flags.last_flag.Given as goal

abbrev pub invariant-loop-field : goal.invariant-loop-field
invariant-loop-field l =
    merged_from 100 (flag_merged l.number) (length l.bytes) l.rest l.flag ≡ flag_of l.number l.bytes

abbrev pub decreases-loop-field : goal.decreases-loop-field
decreases-loop-field l = length l.rest
