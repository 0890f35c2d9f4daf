use Rattle.reference_pass.specs.Linking.{lists_of}
use Rattle.reference_pass.proofs.ByItems.{fields-all, fields-more, fields-none}
use Rattle.reference_pass.proofs.linking.Linker.link_fields.Goals as goal

pub loop-index-init : goal.loop-index-init
loop-index-init c = fields-none (lists_of c.args.self) c.args.items.now c.args.fields.now

pub loop-index-preserved : goal.loop-index-preserved
loop-index-preserved c =
    fields-more (lists_of c.args.self) c.args.items.now c.args.fields.now c.loop-index.index c.loop-index.fields c.link_field.new.field _
    c.loop-index.invariant c.loop-index-test.true c.in_ok-link_field.ensures

pub returns : goal.returns
returns c = fields-all (lists_of c.args.self) c.args.items.now c.args.fields.now c.loop-index.index c.loop-index.fields c.loop-index.invariant c.loop-index-test.false
