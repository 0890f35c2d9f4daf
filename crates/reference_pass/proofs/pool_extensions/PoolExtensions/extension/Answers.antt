use Rattle.std.proofs.Common.{ap, sym, ◌∙◌}
use Rattle.std.specs.FinMap as finite
use Rattle.std.specs.Option.{option_and_then, option_copied}
use Rattle.std.specs.Prelude.{slice_get}
use Rattle.pool_types.specs.declared.contents.message.MessageDescriptorInner.{MessageDescriptorInner}
use Rattle.pool_types.specs.Extension.{has_number}
use Rattle.plain_data.proofs.Positions.{find-position}
use Rattle.reference_pass.proofs.Entries.{got-at}
use Rattle.reference_pass.proofs.pool_extensions.PoolExtensions.extension.Goals as goal

-- the first is the one that the message has for the number
pub returns : goal.returns
returns c =
    let xs = c.args.self.extensions.now in
    let ms = c.args.self.messages.now in
    let held = λ (m : MessageDescriptorInner). finite.get m.extension_numbers c.args.number in
    let message = sym (got-at ms c.args.message c.get.result c.get.ensures.lookup) ∙ ap option_copied c.in_ok-message.was in
    let number = c.in_ok-extension.ensures ∙ sym (ap (option_and_then held) message) in
    got-at xs c.in_ok-extension.extension c.get-3.result c.get-3.ensures.lookup
    ∙ ap (option_and_then (slice_get xs)) (number ∙ c.args.self.numbers c.args.message c.args.number)
    ∙ sym (find-position (has_number c.args.message c.args.number) xs)

pub returns-in_err-message : goal.returns-in_err-message
returns-in_err-message c =
    let xs = c.args.self.extensions.now in
    let ms = c.args.self.messages.now in
    let held = λ (m : MessageDescriptorInner). finite.get m.extension_numbers c.args.number in
    let message = sym (got-at ms c.args.message c.get.result c.get.ensures.lookup) ∙ ap option_copied c.in_err-message.was in
    ap option_copied c.from_residual.ensures
    ∙ ap (option_and_then (slice_get xs)) (sym (ap (option_and_then held) message) ∙ c.args.self.numbers c.args.message c.args.number)
    ∙ sym (find-position (has_number c.args.message c.args.number) xs)

pub returns-in_err-extension : goal.returns-in_err-extension
returns-in_err-extension c =
    let xs = c.args.self.extensions.now in
    let ms = c.args.self.messages.now in
    let held = λ (m : MessageDescriptorInner). finite.get m.extension_numbers c.args.number in
    let message = sym (got-at ms c.args.message c.get.result c.get.ensures.lookup) ∙ ap option_copied c.in_ok-message.was in
    let number = c.in_err-extension.ensures ∙ sym (ap (option_and_then held) message) in
    ap option_copied c.from_residual-in_err-extension.ensures
    ∙ ap (option_and_then (slice_get xs)) (number ∙ c.args.self.numbers c.args.message c.args.number)
    ∙ sym (find-position (has_number c.args.message c.args.number) xs)
