use Rattle.std.proofs.Common.{length, length-append, None, Some, [], ◌∷◌, refl, ap, sym, subst, ◌∙◌, arith}
use Rattle.record_walk.specs.Counts.{counted}
use Rattle.record_walk.specs.Cursor.{left}
use Rattle.record_walk.specs.Parts.{AdvancesPast}
use Rattle.record_walk.specs.Walking.{located}
use Rattle.record_walk.proofs.Passing.{passes-counts}
use Rattle.record_walk.proofs.Showing.{remains-all, remains-as, remains-fewer, remains-none, remains-past, remains-after, ready-first, ready-rest}
use Rattle.record_walk.proofs.walking.walk_left.Goals as goal

pub loop-declaration-init : goal.loop-declaration-init
loop-declaration-init g c = record { sound = c.requires.sound; remains = remains-all _ _ _; counts = refl; kept = refl; borrows = refl }

pub show-requires : goal.show-requires
show-requires g c =
    let L = c.loop-declaration in
    let next = c.advance_past.new.self in
    let d = located next.site c.in-Some.declaration in
    let went : AdvancesPast c.skips_parts-skips_parts.result L.cursor next (Some c.in-Some.declaration) = subst (AdvancesPast c.skips_parts-skips_parts.result L.cursor next) c.in-Some.is c.in_ok-declaration.ensures in
    let front = g.met.V.Visitor.front_ready L.visitor in
    let remains = remains-past c.skips_parts-skips_parts.result (λ d more part want. c.skips_parts-skips_parts.ensures want L.visitor d more part) front c.requires.ready went.1.parts (left went.0) went.1.are_parts
    (remains-as went.1.left_is L.invariant.remains) in
    ready-first (d ∷ []) (left next) (remains-as went.2.left_is remains) c.requires.ready front

pub walk_parts-requires : goal.walk_parts-requires
walk_parts-requires g c =
    let L = c.loop-declaration in
    let next = c.advance_past.new.self in
    let d = located next.site c.in-Some.declaration in
    let went : AdvancesPast c.skips_parts-skips_parts.result L.cursor next (Some c.in-Some.declaration) = subst (AdvancesPast c.skips_parts-skips_parts.result L.cursor next) c.in-Some.is c.in_ok-declaration.ensures in
    let front = g.met.V.Visitor.front_ready L.visitor in
    let remains = remains-past c.skips_parts-skips_parts.result (λ d more part want. c.skips_parts-skips_parts.ensures want L.visitor d more part) front c.requires.ready went.1.parts (left went.0) went.1.are_parts
    (remains-as went.1.left_is L.invariant.remains) in
    record {
      sound = went.2.sound;
      ready = ready-rest (left next) (remains-fewer (d ∷ []) (left next) (remains-as went.2.left_is remains) c.in_ok-show.ensures.ok) c.requires.ready;
    }

pub loop-declaration-preserved : goal.loop-declaration-preserved
loop-declaration-preserved g c =
    let L = c.loop-declaration in
    let next = c.advance_past.new.self in
    let d = located next.site c.in-Some.declaration in
    let went : AdvancesPast c.skips_parts-skips_parts.result L.cursor next (Some c.in-Some.declaration) = subst (AdvancesPast c.skips_parts-skips_parts.result L.cursor next) c.in-Some.is c.in_ok-declaration.ensures in
    let front = g.met.V.Visitor.front_ready L.visitor in
    let remains = remains-past c.skips_parts-skips_parts.result (λ d more part want. c.skips_parts-skips_parts.ensures want L.visitor d more part) front c.requires.ready went.1.parts (left went.0) went.1.are_parts
    (remains-as went.1.left_is L.invariant.remains) in
    let on = c.in_ok-walk_parts.ensures in
    record {
      sound = on.cursor.sound;
      remains = remains-after (left next) (left c.walk_parts.new.cursor) (remains-fewer (d ∷ []) (left next) (remains-as went.2.left_is remains) c.in_ok-show.ensures.ok) on.ok;
      counts = on.cursor.counts_are ∙ ap (λ k. counted k (left next)) went.2.counts_are ∙ ap (counted went.0.counts) (sym went.2.left_is) ∙ passes-counts c.skips_parts-skips_parts.result L.cursor went.0 went.1 ∙ L.invariant.counts;
      kept = on.kept ∙ c.in_ok-show.ensures.kept ∙ L.invariant.kept;
      borrows = on.borrows ∙ c.in_ok-show.ensures.borrows ∙ L.invariant.borrows;
    }

pub loop-declaration-smaller : goal.loop-declaration-smaller
loop-declaration-smaller g c =
    let L = c.loop-declaration in
    let next = c.advance_past.new.self in
    let went : AdvancesPast c.skips_parts-skips_parts.result L.cursor next (Some c.in-Some.declaration) = subst (AdvancesPast c.skips_parts-skips_parts.result L.cursor next) c.in-Some.is c.in_ok-declaration.ensures in
    let long = length-append went.1.parts (left went.0) in
    omega (arith, ap length went.2.left_is, ap length went.1.left_is, long, c.in_ok-walk_parts.ensures.cursor.fewer)

pub returns-in_err-walk_parts-clause-kept : goal.returns-in_err-walk_parts-clause-kept
returns-in_err-walk_parts-clause-kept g c = c.walk_parts.ensures.kept ∙ c.in_ok-show.ensures.kept ∙ c.loop-declaration.invariant.kept

pub returns-in_err-walk_parts-clause-borrows : goal.returns-in_err-walk_parts-clause-borrows
returns-in_err-walk_parts-clause-borrows g c = c.walk_parts.ensures.borrows ∙ c.in_ok-show.ensures.borrows ∙ c.loop-declaration.invariant.borrows

pub returns : goal.returns
returns g c =
    let L = c.loop-declaration in
    let next = c.advance_past.new.self in
    let went : AdvancesPast c.skips_parts-skips_parts.result L.cursor next None = subst (AdvancesPast c.skips_parts-skips_parts.result L.cursor next) c.in_default.is c.in_ok-declaration.ensures in
    let remains = remains-past c.skips_parts-skips_parts.result (λ d more part want. c.skips_parts-skips_parts.ensures want L.visitor d more part) (g.met.V.Visitor.front_ready L.visitor) c.requires.ready went.1.parts (left went.0) went.1.are_parts
    (remains-as went.1.left_is L.invariant.remains) in
    record {
      ok = remains-none went.2.0 remains;
      counts = went.2.1 ∙ ap (counted went.0.counts) (sym went.2.0) ∙ passes-counts c.skips_parts-skips_parts.result L.cursor went.0 went.1 ∙ L.invariant.counts;
      kept = L.invariant.kept;
      borrows = L.invariant.borrows;
    }
