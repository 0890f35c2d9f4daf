use Rattle.std.proofs.Common.{sym}
use Rattle.reference_pass.proofs.Numbered.{none-has}
use Rattle.reference_pass.proofs.items.extension_in_order.Goals as goal

-- behind the last there is none
pub returns-then-comes_behind : goal.returns-then-comes_behind
returns-then-comes_behind c = sym (none-has c.args.message c.args.number c.args.extensions.now (c.requires c.args.message c.args.number (c.comes_behind.ensures c.if-comes_behind.true)))
