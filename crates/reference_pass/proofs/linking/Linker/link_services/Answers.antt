use Rattle.reference_pass.specs.Linking.{lists_of}
use Rattle.reference_pass.proofs.ByItems.{services-all, services-more, services-none}
use Rattle.reference_pass.proofs.linking.Linker.link_services.Goals as goal

pub loop-index-init : goal.loop-index-init
loop-index-init c = services-none (lists_of c.args.self) c.args.next.now c.args.services.now

pub loop-index-preserved : goal.loop-index-preserved
loop-index-preserved c =
    services-more (lists_of c.args.self) c.args.next.now c.args.services.now c.loop-index.next c.link_service.new.next c.loop-index.index c.loop-index.services c.link_service.new.service _
    c.loop-index.invariant c.loop-index-test.true c.in_ok-link_service.ensures

pub returns : goal.returns
returns c =
    services-all (lists_of c.args.self) c.args.next.now c.args.services.now c.loop-index.next c.loop-index.index c.loop-index.services c.loop-index.invariant c.loop-index-test.false
