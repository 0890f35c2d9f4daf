use Rattle.std.proofs.Common.{arith}
use Rattle.link_script.proofs.Blocks.{go-on}
use Rattle.link_script.proofs.script.cuts.first_far_place.Goals as goal

pub loop-passed-preserved : goal.loop-passed-preserved
loop-passed-preserved c =
    let room = c.loop-passed-test.true in
    record {
      within = omega (arith, room, c.loop-passed.invariant.within);
      far = go-on c.args.wanted c.loop-passed.passed c.place_in_block-place.result c.args.bytes.now (omega (arith, room, c.loop-passed.invariant.within)) c.loop-passed.invariant.far c.place_in_block-place.ensures c.if-place-lt-BLOCK.false;
    }
