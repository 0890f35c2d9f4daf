use Rattle.std.proofs.Common.{rules, ◌≡◌, ◌+◌, suc, length, map, ap, sym, ◌∙◌, arith}
use Rattle.std.proofs.lemmas.List.{length-map}
use Rattle.std.specs.List.{list_any}
use Rattle.protoc_rules.specs.Imports.{imports, has_chain, is_marked}
use Rattle.protoc_rules.proofs.Chains.{back-next, chains-next, last-round, still-round, same-values}
use Rattle.protoc_rules.proofs.cycles.coming_back.Goals as goal

pub rounds-preserved : goal.rounds-preserved
rounds-preserved c =
    let files = imports c.args.files.now in
    let step : c.in_ok-next.next ≡ map (list_any (is_marked c.rounds.marks)) files = search rules in
    let more : suc c.rounds._round ≡ c.rounds._round + 1 = omega arith in
    record {
      back = back-next files c.rounds.marks c.in_ok-next.next step c.rounds.invariant.back;
      chains = λ n marked. ap (λ k. has_chain files k n) (sym more) ∙ chains-next files c.rounds.marks c.in_ok-next.next step c.rounds._round c.rounds.invariant.chains n marked;
    }

-- a round that changes no mark is as good as the last one
pub returns-then-eq : goal.returns-then-eq
returns-then-eq c =
    let files = imports c.args.files.now in
    let marks = c.rounds.marks in
    let next = c.in_ok-next.next in
    let step : next ≡ map (list_any (is_marked marks)) files = search rules in
    still-round files c.rounds._round marks next c.rounds.invariant.back c.rounds.invariant.chains step (same-values next marks (sym c.eq.ensures ∙ c.if-eq.true))

pub returns : goal.returns
returns c =
    let files = imports c.args.files.now in
    let many : length files ≡ length c.args.files.now = length-map c.args.files.now (λ f. f.dependencies) in
    let rounds : c.rounds._round ≡ length files = omega arith in
    last-round files c.rounds.marks c.rounds.invariant.back (λ n marked. ap (λ k. has_chain files k n) (sym rounds) ∙ c.rounds.invariant.chains n marked)
