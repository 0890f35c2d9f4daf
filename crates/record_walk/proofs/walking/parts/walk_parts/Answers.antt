use Rattle.std.proofs.Common.{length, [], refl, ap, subst, ◌∙◌, arith}
use Rattle.record_walk.specs.Cursor.{AreNested, depth_of, left, lines}
use Rattle.record_walk.specs.Parts.{StandsAt, row_parts}
use Rattle.record_walk.proofs.InPlace.{Over, goes-further, keeps-all, over-none, over-row, stands-first, took-none, took-row}
use Rattle.record_walk.proofs.Showing.{ready-first, remains-all, remains-as, remains-fewer}
use Rattle.record_walk.proofs.walking.parts.walk_parts.Goals as goal

pub returns-then-skips_parts : goal.returns-then-skips_parts
returns-then-skips_parts g c = record { ok = remains-all _ _ _; cursor = record { sound = c.requires.sound; counts_are = refl; fewer = omega arith }; kept = refl; borrows = refl }

pub loop-row-init : goal.loop-row-init
loop-row-init g c = record { on = record { sound = c.requires.sound; counts_are = refl; fewer = omega arith }; remains = remains-all _ _ _; kept = refl; borrows = refl }

pub walk_row-requires-clause-stands : goal.walk_row-requires-clause-stands
walk_row-requires-clause-stands g c =
    let L = c.loop-row in
    let took = took-row (lines L.cursor.rows) (lines c.pop_parts.new.self) c.pop_parts.result c.in-Some.row c.in-Some.is c.pop_parts.ensures in
    stands-first L.cursor (lines c.pop_parts.new.self) c.in-Some.row L.invariant.on.sound took.0

pub walk_row-requires-clause-ready : goal.walk_row-requires-clause-ready
walk_row-requires-clause-ready g c =
    let L = c.loop-row in
    let r = c.in-Some.row in
    let took = took-row (lines L.cursor.rows) (lines c.pop_parts.new.self) c.pop_parts.result r c.in-Some.is c.pop_parts.ensures in
    let stands = stands-first L.cursor (lines c.pop_parts.new.self) r L.invariant.on.sound took.0 in
    let next = record L.cursor { rows = c.pop_parts.new.self } in
    let over = over-row L.cursor next r L.invariant.on.sound took.0 took.1 (keeps-all L.cursor.site r stands) refl in
    ready-first (row_parts L.cursor.site r) (left next) (remains-as over.left_is L.invariant.remains) c.requires.ready (g.met.V.Visitor.front_ready L.visitor)

pub loop-row-smaller : goal.loop-row-smaller
loop-row-smaller g c =
    let L = c.loop-row in
    let took = took-row (lines L.cursor.rows) (lines c.pop_parts.new.self) c.pop_parts.result c.in-Some.row c.in-Some.is c.pop_parts.ensures in
    let long = ap length took.0 in
    omega (arith, long)

pub loop-row-preserved : goal.loop-row-preserved
loop-row-preserved g c =
    let L = c.loop-row in
    let r = c.in-Some.row in
    let took = took-row (lines L.cursor.rows) (lines c.pop_parts.new.self) c.pop_parts.result r c.in-Some.is c.pop_parts.ensures in
    let next = record L.cursor { rows = c.pop_parts.new.self; site = c.walk_row.new.site } in
    let over = over-row L.cursor next r L.invariant.on.sound took.0 took.1 c.in_ok-walk_row.ensures.site refl in
    record {
      on = goes-further c.args.cursor.now L.cursor next L.invariant.on over.on;
      remains = remains-fewer (row_parts L.cursor.site r) (left next) (remains-as over.left_is L.invariant.remains) c.in_ok-walk_row.ensures.ok;
      kept = c.in_ok-walk_row.ensures.kept ∙ L.invariant.kept;
      borrows = c.in_ok-walk_row.ensures.borrows ∙ L.invariant.borrows;
    }

pub returns : goal.returns
returns g c =
    let L = c.loop-row in
    let same = took-none (lines L.cursor.rows) (lines c.pop_parts.new.self) c.pop_parts.result c.in_default.is c.pop_parts.ensures in
    let next = record L.cursor { rows = c.pop_parts.new.self } in
    let over = over-none L.cursor c.pop_parts.new.self L.invariant.on.sound same in
    record {
      ok = remains-as over.left_is L.invariant.remains;
      cursor = goes-further c.args.cursor.now L.cursor next L.invariant.on over.on;
      kept = L.invariant.kept;
      borrows = L.invariant.borrows;
    }
