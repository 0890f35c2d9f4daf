use Rattle.std.proofs.Common.{◌≡◌, true, List, Bool, ◌++◌, length, map, take, drop, ap, sym, subst, ◌∙◌, arith}
use Rattle.std.proofs.lemmas.List.{take-append-le, take_all}
use Rattle.protoc_rules.specs.Imports.{imports, is_marked, HoldsBack}
use Rattle.protoc_rules.proofs.Chains.{back-at-first, first-round}
use Rattle.protoc_rules.proofs.cycles.maybe_back.Goals as goal

-- a list that is written whole is what was written
whole : (old new : List Bool) → length new ≡ length old → take (length old) (new ++ drop (length new) old) ≡ new
whole old new same =
    ap (λ n. take n (new ++ drop (length new) old)) (sym same)
    ∙ take-append-le (length new) new (drop (length new) old) (omega arith) ∙ take_all (length new) new (omega arith)

pub returns : goal.returns
returns c =
    let files = imports c.args.files.now in
    let marks = c.in_ok-marks.marks in
    let new = c.unmark.new.marks in
    let all : c.as_mut_slice.result.now ≡ map (λ _. true) files = c.as_mut_slice.ensures.items ∙ c.in_ok-marks.ensures in
    let many : length c.as_mut_slice.result.now ≡ length marks = ap length c.as_mut_slice.ensures.items in
    let written : take (length marks) (new ++ drop (length new) marks) ≡ new = whole marks new (omega arith) in
    record {
      back = subst (HoldsBack files) (sym written) (c.unmark.ensures.back (subst (HoldsBack files) (sym all) (back-at-first files)));
      files =
          λ n marked. sym (first-round files n) ∙ ap (λ known. is_marked known n) (sym all)
          ∙ c.unmark.ensures.fewer n (subst (λ known. is_marked known n ≡ true) written marked);
    }
