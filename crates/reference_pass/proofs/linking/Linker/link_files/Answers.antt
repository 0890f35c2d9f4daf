use Rattle.reference_pass.specs.Linking.{lists_of}
use Rattle.reference_pass.proofs.ByItems.{files-all, files-more, files-none}
use Rattle.reference_pass.proofs.linking.Linker.link_files.Goals as goal

pub loop-index-init : goal.loop-index-init
loop-index-init c = files-none (lists_of c.args.self) c.args.next.now c.args.files.now

pub loop-index-preserved : goal.loop-index-preserved
loop-index-preserved c =
    files-more (lists_of c.args.self) c.args.next.now c.args.files.now c.loop-index.next c.link_file.new.next c.loop-index.index c.loop-index.files c.link_file.new.file _
    c.loop-index.invariant c.loop-index-test.true c.in_ok-link_file.ensures

pub returns : goal.returns
returns c = files-all (lists_of c.args.self) c.args.next.now c.args.files.now c.loop-index.next c.loop-index.index c.loop-index.files c.loop-index.invariant c.loop-index-test.false
