use Rattle.std.proofs.Common.{◌≡◌, suc, ◌+◌, ◌≤◌, length, string_bytes, [], ◌∷◌, refl, ap, ◌∙◌, arith, rules}
use Rattle.std.proofs.lemmas.Option.{MatchOption-at_none}
use Rattle.record_walk.specs.Counts.{list_limit}
use Rattle.record_walk.specs.Parts.{surrounding}
use Rattle.record_walk.specs.Protos.{name_of}
use Rattle.record_walk.specs.Shown.{row}
use Rattle.record_walk.specs.Walking.{located, parent_in, proto_of, protos_in}
use Rattle.record_walk.proofs.InPlace.{entered, has-path, inside, inside-next, keeps-inside, part-next}
use Rattle.record_walk.proofs.Showing.{ready-first, remains-all, remains-as, remains-fewer, remains-none}
use Rattle.record_walk.proofs.walking.parts.walk_row.Goals as goal

pub cut-requires : goal.cut-requires
cut-requires g c = c.requires.stands.cut

pub loop-part-init : goal.loop-part-init
loop-part-init g c =
    let r = c.args.row in
    let short : r.at.position + length (protos_in r.records) ≤ list_limit = c.requires.stands.short in
    let start : c.len-start.result ≡ length (string_bytes c.enter.new.self.name) = search rules in
    record {
      inside = inside c.args.site.now c.cut.new.self c.enter.new.self r c.len-start.result c.cut.ensures.file c.cut.ensures.path c.cut.ensures.name
          c.enter.ensures.file c.in_ok-enter.ensures.path c.in_ok-enter.ensures.name start;
      parent = refl;
      short = short;
      within = omega (arith, short);
      remains = remains-all _ _ _;
      kept = refl;
      borrows = refl;
    }

pub go_on-requires-clause-start : goal.go_on-requires-clause-start
go_on-requires-clause-start g c = c.loop-part.invariant.inside.cut

pub go_on-requires-clause-path : goal.go_on-requires-clause-path
go_on-requires-clause-path g c = has-path c.args.site.now c.loop-part.site c.args.row c.len-start.result c.loop-part.invariant.inside

pub show-requires : goal.show-requires
show-requires g c =
    let L = c.loop-part in
    let was = c.args.site.now in
    let r = c.args.row in
    let part = c.in-Some.part in
    let split = c.in-Some.ensures in
    let name = name_of (proto_of part) in
    let went = entered was L.site c.go_on.new.self r c.len-start.result L.position c.name.result.now name L.invariant.inside c.go_on.ensures.file c.go_on.ensures.path c.in_ok-go_on.ensures.name c.name.ensures in
    let rest = row (λ p. p) (surrounding was r) r.at.tag (suc L.position) (suc L.position) (protos_in c.in-Some.rest) in
    let first = part-next was c.go_on.new.self r part (parent_in L.records) L.position L.position (protos_in L.records) (protos_in c.in-Some.rest) went split.first L.invariant.parent refl split.records in
    let d = located c.go_on.new.self (record { index = L.position; part = part }) in
    ready-first (d ∷ []) rest (remains-as first L.invariant.remains) c.requires.ready (g.met.V.Visitor.front_ready L.visitor)

pub loop-part-preserved : goal.loop-part-preserved
loop-part-preserved g c =
    let L = c.loop-part in
    let was = c.args.site.now in
    let r = c.args.row in
    let part = c.in-Some.part in
    let split = c.in-Some.ensures in
    let name = name_of (proto_of part) in
    let went = entered was L.site c.go_on.new.self r c.len-start.result L.position c.name.result.now name L.invariant.inside c.go_on.ensures.file c.go_on.ensures.path c.in_ok-go_on.ensures.name c.name.ensures in
    let rest = row (λ p. p) (surrounding was r) r.at.tag (suc L.position) (suc L.position) (protos_in c.in-Some.rest) in
    let first = part-next was c.go_on.new.self r part (parent_in L.records) L.position L.position (protos_in L.records) (protos_in c.in-Some.rest) went split.first L.invariant.parent refl split.records in
    let d = located c.go_on.new.self (record { index = L.position; part = part }) in
    let i = L.position in
    let one : suc i ≡ i + 1 = omega arith in
    let long : length (protos_in L.records) ≡ suc (length (protos_in c.in-Some.rest)) = ap length split.records in
    let short : i + 1 + length (protos_in c.in-Some.rest) ≤ list_limit = omega (arith, long, L.invariant.short) in
    record {
      inside = inside-next was L.site c.go_on.new.self r c.len-start.result i c.name.result.now name c.name.utf8 L.invariant.inside c.in_ok-go_on.ensures.name went;
      parent = split.rest ∙ L.invariant.parent;
      short = short;
      within = omega (arith, short);
      remains = remains-as (λ j. row (λ p. p) (surrounding was r) r.at.tag (one j) (one j) (protos_in c.in-Some.rest))
          (remains-fewer (d ∷ []) rest (remains-as first L.invariant.remains) c.in_ok-show.ensures.ok);
      kept = c.in_ok-show.ensures.kept ∙ L.invariant.kept;
      borrows = c.in_ok-show.ensures.borrows ∙ L.invariant.borrows;
    }

pub loop-part-smaller : goal.loop-part-smaller
loop-part-smaller g c =
    let long : length (protos_in c.loop-part.records) ≡ suc (length (protos_in c.in-Some.rest)) = ap length c.in-Some.ensures.records in
    omega (arith, long)

pub returns : goal.returns
returns g c =
    let L = c.loop-part in
    let r = c.args.row in
    let none : protos_in L.records ≡ [] = MatchOption-at_none _ _ c.in_default.is c.split_first.ensures.records in
    record {
      ok = remains-none (ap (row (λ p. p) (surrounding c.args.site.now r) r.at.tag L.position L.position) none) L.invariant.remains;
      site = keeps-inside c.args.site.now L.site r c.len-start.result c.requires.stands L.invariant.inside;
      kept = L.invariant.kept;
      borrows = L.invariant.borrows;
    }
