use Rattle.reference_pass.specs.Linking.{lists_of}
use Rattle.reference_pass.proofs.ByItems.{extensions-all, extensions-more, extensions-none}
use Rattle.reference_pass.proofs.linking.Linker.link_extensions.Goals as goal

pub loop-index-init : goal.loop-index-init
loop-index-init c = extensions-none (lists_of c.args.self) c.args.next.now c.args.extensions.now

pub loop-index-preserved : goal.loop-index-preserved
loop-index-preserved c =
    extensions-more (lists_of c.args.self) c.args.next.now c.args.extensions.now c.loop-index.next c.link_extension.new.next c.loop-index.index c.loop-index.extensions c.link_extension.new.extension _
    c.loop-index.invariant c.loop-index-test.true c.in_ok-link_extension.ensures

pub returns : goal.returns
returns c =
    extensions-all (lists_of c.args.self) c.args.next.now c.args.extensions.now c.loop-index.next c.loop-index.index c.loop-index.extensions c.loop-index.invariant c.loop-index-test.false
