use Rattle.std.proofs.Common.{length, None, [], ◌∷◌, refl, ap, sym, subst, ◌∙◌, arith}
use Rattle.record_walk.specs.Counts.{counted}
use Rattle.record_walk.specs.Cursor.{Advances, Comes, left}
use Rattle.record_walk.specs.Walking.{located}
use Rattle.record_walk.proofs.Showing.{remains-all, remains-as, remains-fewer, remains-none, ready-first}
use Rattle.record_walk.proofs.walking.visit_left.Goals as goal

pub loop-declaration-init : goal.loop-declaration-init
loop-declaration-init g c = record { sound = c.requires.sound; remains = remains-all _ _ _; counts = refl; kept = refl }

pub show_object-requires : goal.show_object-requires
show_object-requires g c =
    let L = c.loop-declaration in
    let next = c.advance.new.self in
    let d = located next.site c.in-Some.declaration in
    let comes : Comes L.cursor next d = subst (Advances L.cursor next) c.in-Some.is c.in_ok-declaration.ensures in
    ready-first (d ∷ []) (left next) (remains-as comes.left_is L.invariant.remains) c.requires.ready ((g.dyn-1-met L.visitor.now.0).0.front_ready L.visitor.now.1)

pub loop-declaration-preserved : goal.loop-declaration-preserved
loop-declaration-preserved g c =
    let L = c.loop-declaration in
    let next = c.advance.new.self in
    let d = located next.site c.in-Some.declaration in
    let comes : Comes L.cursor next d = subst (Advances L.cursor next) c.in-Some.is c.in_ok-declaration.ensures in
    record {
      sound = comes.sound;
      remains = remains-fewer (d ∷ []) (left next) (remains-as comes.left_is L.invariant.remains) c.in_ok-show_object.ensures.ok;
      counts = ap (λ k. counted k (left next)) comes.counts_are ∙ ap (counted L.cursor.counts) (sym comes.left_is) ∙ L.invariant.counts;
      kept = c.in_ok-show_object.ensures.kept ∙ L.invariant.kept;
    }

pub loop-declaration-smaller : goal.loop-declaration-smaller
loop-declaration-smaller g c =
    let L = c.loop-declaration in
    let next = c.advance.new.self in
    let comes : Comes L.cursor next (located next.site c.in-Some.declaration) = subst (Advances L.cursor next) c.in-Some.is c.in_ok-declaration.ensures in
    omega (arith, ap length comes.left_is)

pub returns : goal.returns
returns g c =
    let L = c.loop-declaration in
    let ended : Advances L.cursor c.advance.new.self None = subst (Advances L.cursor c.advance.new.self) c.in_default.is c.in_ok-declaration.ensures in
    record {
      ok = remains-none ended.0 L.invariant.remains;
      counts = ended.1 ∙ ap (counted L.cursor.counts) (sym ended.0) ∙ L.invariant.counts;
      kept = L.invariant.kept;
    }
