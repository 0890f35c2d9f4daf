use Rattle.std.proofs.Common.{[], append-nil, ◌+◌, drop, refl, ap, sym, subst, ◌∙◌}
use Rattle.std.proofs.lemmas.List.{drop_all}
use Rattle.record_walk.specs.declared.counts.Counts.{Counts}
use Rattle.record_walk.specs.Counts.{counted}
use Rattle.record_walk.specs.Declarations.{declarations, file_walk}
use Rattle.record_walk.specs.Walking.{Room}
use Rattle.record_walk.proofs.Listings.{next, room-back, room-front}
use Rattle.record_walk.proofs.Room.{room-fits}
use Rattle.record_walk.proofs.Showing.{remains-all, remains-as, remains-fewer, remains-none, ready-first}
use Rattle.record_walk.proofs.walking.visit.Goals as goal

pub loop-file-init : goal.loop-file-init
loop-file-init g c =
    let is = sym c.new-cursor.ensures in
    record {
      left = remains-as (ap (λ k. declarations k c.args.files.now) is) (remains-all _ _ _);
      room = subst (λ k. Room k (declarations k c.args.files.now)) is (room-fits c.args.base c.args.files.now c.requires.fits);
      kept = refl;
    }

pub visit_file-requires : goal.visit_file-requires
visit_file-requires g c =
    let L = c.loop-file in
    let f = c.file-item.result in
    let rest = declarations (counted L.cursor.counts (file_walk L.cursor.counts f)) (drop (L.file-index + 1) c.args.files.now) in
    let turn = ap (declarations L.cursor.counts) (next c.args.files.now L.file-index f c.loop-file-test.true c.file-item.is) in
    record {
      room = room-front (file_walk L.cursor.counts f) rest (subst (Room L.cursor.counts) turn L.invariant.room);
      ready = ready-first (file_walk L.cursor.counts f) rest (remains-as turn L.invariant.left) c.requires.ready ((g.dyn-1-met L.visitor.now.0).0.front_ready L.visitor.now.1);
    }

pub loop-file-preserved : goal.loop-file-preserved
loop-file-preserved g c =
    let L = c.loop-file in
    let f = c.file-item.result in
    let more = λ (k : Counts). declarations k (drop (L.file-index + 1) c.args.files.now) in
    let after = counted L.cursor.counts (file_walk L.cursor.counts f) in
    let turn = ap (declarations L.cursor.counts) (next c.args.files.now L.file-index f c.loop-file-test.true c.file-item.is) in
    let same = sym c.in_ok-visit_file.ensures.counts in
    record {
      left = remains-as (ap more same) (remains-fewer (file_walk L.cursor.counts f) (more after) (remains-as turn L.invariant.left) c.in_ok-visit_file.ensures.ok);
      room = subst (λ k. Room k (more k)) same (room-back (file_walk L.cursor.counts f) (more after) (subst (Room L.cursor.counts) turn L.invariant.room));
      kept = c.in_ok-visit_file.ensures.kept ∙ L.invariant.kept;
    }

pub returns : goal.returns
returns g c =
    let L = c.loop-file in
    let all = declarations c.args.base c.args.files.now in
    let seen = remains-none (ap (declarations L.cursor.counts) (drop_all L.file-index c.args.files.now c.loop-file-test.false)) L.invariant.left in
    record {
      ok = seen;
      after = seen.after_is [] ∙ ap ((goal.Visitor-dyn g c.args.visitor.now).after c.args.visitor.now.1) (append-nil all);
      kept = L.invariant.kept;
    }
