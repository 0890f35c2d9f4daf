use Rattle.std.proofs.Common.{◌≡◌, ◌+◌, ◌*◌, length}
use Rattle.descriptor_decoding.specs.Merging.{merged_from}
use Rattle.descriptor_decoding.specs.Messages.{message_at}
use Rattle.descriptor_decoding.proofs.messages.+message.Given as goal

abbrev pub invariant-merge_nested_fields-loop-field : goal.invariant-merge_nested_fields-loop-field
invariant-merge_nested_fields-loop-field l =
    let read = merged_from l.context.levels (message_at l.context.levels) in
    read l.ends l.rest l.message ≡ read l.ends l.bytes l.fn.message

abbrev pub decreases-merge_nested_fields-loop-field : goal.decreases-merge_nested_fields-loop-field
decreases-merge_nested_fields-loop-field l = length l.rest

-- a level's fields, then one field, then a message in it, and then the next level
abbrev pub decreases-merge_nested_fields : goal.decreases-merge_nested_fields
decreases-merge_nested_fields l = 5 * l.context.levels + 4

abbrev pub decreases-merge_message_field : goal.decreases-merge_message_field
decreases-merge_message_field l = 5 * l.context.levels + 3

abbrev pub decreases-merge_nested : goal.decreases-merge_nested
decreases-merge_nested l = 5 * l.context.levels + 2

abbrev pub decreases-add_nested : goal.decreases-add_nested
decreases-add_nested l = 5 * l.context.levels + 1

abbrev pub decreases-merge_nested_inner : goal.decreases-merge_nested_inner
decreases-merge_nested_inner l = 5 * l.context.levels
