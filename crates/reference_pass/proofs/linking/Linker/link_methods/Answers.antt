use Rattle.reference_pass.specs.Linking.{lists_of}
use Rattle.reference_pass.proofs.ByItems.{methods-all, methods-more, methods-none}
use Rattle.reference_pass.proofs.linking.Linker.link_methods.Goals as goal

pub loop-index-init : goal.loop-index-init
loop-index-init c = methods-none (lists_of c.args.self) c.args.items.now c.args.methods.now

pub loop-index-preserved : goal.loop-index-preserved
loop-index-preserved c =
    methods-more (lists_of c.args.self) c.args.items.now c.args.methods.now c.loop-index.index c.loop-index.methods c.link_method.new.method _
    c.loop-index.invariant c.loop-index-test.true c.in_ok-link_method.ensures

pub returns : goal.returns
returns c = methods-all (lists_of c.args.self) c.args.items.now c.args.methods.now c.loop-index.index c.loop-index.methods c.loop-index.invariant c.loop-index-test.false
