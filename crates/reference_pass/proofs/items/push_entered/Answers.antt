use Rattle.std.proofs.Common.{◌≡◌, length, subst, arith}
use Rattle.record_walk.proofs.Listings.{after-ok}
use Rattle.reference_pass.specs.Numbered.{EntersFirst}
use Rattle.reference_pass.proofs.Numbered.{leads-more}
use Rattle.reference_pass.proofs.items.push_entered.Goals as goal

-- its message and its number lead to it, unless they led to an earlier one
pub returns-else-is_err-clause-leads : goal.returns-else-is_err-clause-leads
returns-else-is_err-clause-leads c =
    let x = c.args.extension in
    let xs = c.args.extensions.now.items in
    let many : c.len-position.result ≡ length xs = omega (arith, c.len-position.ensures) in
    let entered = after-ok c.enter-entered.result c.if-is_err.ensures.value c.enter-entered.ensures.ok in
    leads-more xs c.push.new.self.items x c.args.positions.now c.enter-entered.new.positions c.requires c.in_ok-push.ensures.items
    (subst (EntersFirst c.args.positions.now c.enter-entered.new.positions (x.extendee, x.number)) many entered)
