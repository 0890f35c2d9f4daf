use Rattle.std.proofs.Common.{◌+◌, drop, map, refl, ap, sym, subst, ◌∙◌}
use Rattle.std.proofs.lemmas.List.{drop_all}
use Rattle.pool_types.specs.declared.contents.file.FileDescriptorInner.{FileDescriptorInner}
use Rattle.record_walk.specs.declared.counts.Counts.{Counts}
use Rattle.record_walk.specs.Counts.{counted}
use Rattle.record_walk.specs.Declarations.{declarations, file_walk}
use Rattle.record_walk.specs.Walking.{Room}
use Rattle.record_walk.proofs.Listings.{next, room-back, room-front}
use Rattle.record_walk.proofs.Room.{room-fits}
use Rattle.record_walk.proofs.Showing.{remains-all, remains-as, remains-fewer, remains-none, ready-first}
use Rattle.record_walk.proofs.walking.walk.Goals as goal

pub loop-file-init : goal.loop-file-init
loop-file-init g c =
    let is = sym c.new-cursor.ensures in
    record {
      left = remains-as (ap (λ k. declarations k (map (λ (f : FileDescriptorInner). f.raw) c.args.files.now)) is) (remains-all _ _ _);
      room = subst (λ k. Room k (declarations k (map (λ (f : FileDescriptorInner). f.raw) c.args.files.now))) is (room-fits c.args.base (map (λ (f : FileDescriptorInner). f.raw) c.args.files.now) c.requires.fits);
      kept = refl;
      borrows = refl;
    }

pub walk_file-requires : goal.walk_file-requires
walk_file-requires g c =
    let L = c.loop-file in
    let f = c.file-item.result in
    let raws = map (λ (f : FileDescriptorInner). f.raw) in
    let rest = declarations (counted L.cursor.counts (file_walk L.cursor.counts f.raw)) (raws (drop (L.file-index + 1) c.args.files.now)) in
    let turn = ap (λ fs. declarations L.cursor.counts (raws fs)) (next c.args.files.now L.file-index f c.loop-file-test.true c.file-item.is) in
    record {
      room = room-front (file_walk L.cursor.counts f.raw) rest (subst (Room L.cursor.counts) turn L.invariant.room);
      ready = ready-first (file_walk L.cursor.counts f.raw) rest (remains-as turn L.invariant.left) c.requires.ready (g.met.V.Visitor.front_ready L.visitor);
    }

pub loop-file-preserved : goal.loop-file-preserved
loop-file-preserved g c =
    let L = c.loop-file in
    let f = c.file-item.result in
    let raws = map (λ (f : FileDescriptorInner). f.raw) in
    let more = λ (k : Counts). declarations k (raws (drop (L.file-index + 1) c.args.files.now)) in
    let after = counted L.cursor.counts (file_walk L.cursor.counts f.raw) in
    let turn = ap (λ fs. declarations L.cursor.counts (raws fs)) (next c.args.files.now L.file-index f c.loop-file-test.true c.file-item.is) in
    let same = sym c.in_ok-walk_file.ensures.counts in
    record {
      left = remains-as (ap more same) (remains-fewer (file_walk L.cursor.counts f.raw) (more after) (remains-as turn L.invariant.left) c.in_ok-walk_file.ensures.ok);
      room = subst (λ k. Room k (more k)) same (room-back (file_walk L.cursor.counts f.raw) (more after) (subst (Room L.cursor.counts) turn L.invariant.room));
      kept = c.in_ok-walk_file.ensures.kept ∙ L.invariant.kept;
      borrows = c.in_ok-walk_file.ensures.borrows ∙ L.invariant.borrows;
    }

pub returns : goal.returns
returns g c =
    let L = c.loop-file in
    let raws = map (λ (f : FileDescriptorInner). f.raw) in
    record {
      ok = remains-none (ap (λ fs. declarations L.cursor.counts (raws fs)) (drop_all L.file-index c.args.files.now c.loop-file-test.false)) L.invariant.left;
      kept = L.invariant.kept;
      borrows = L.invariant.borrows;
    }
