use Rattle.std.proofs.Common.{ap, sym, ◌∙◌}
use Rattle.std.specs.Option.{option_copied}
use Rattle.reference_pass.specs.Reading.{setting_of}
use Rattle.reference_pass.proofs.Found.{message-fits}
use Rattle.reference_pass.proofs.extension.check_number.Goals as goal

-- no list of the message is too long
pub check_extension_number-requires : goal.check_extension_number-requires
check_extension_number-requires c =
    let def = c.args.extendee.def.now in
    let found = sym c.message_record.ensures ∙ ap option_copied c.in-Some.is in
    message-fits (setting_of c.args.reading.now) def c.in-Some.message.now c.args.reading.now.faults.short found
