use Rattle.std.proofs.Common.{◌≡◌, ◌-◌, ◌++◌, ℕ, List, [], Option, None, ap, ◌∙◌, take, replicate, arith}
use Rattle.std.proofs.lemmas.List.{take_all}
use Rattle.name_resolution.specs.declared.last_seen.LastSeen.{LastSeen}
use Rattle.name_resolution.proofs.LastSeen.{none-seen}
use Rattle.name_resolution.proofs.last_seen.LastSeen.new.Goals as goal

filled : (n len : ℕ) (xs : List (Option ℕ)) → xs ≡ [] → len ≡ 0 → take n xs ++ replicate (n - len) None ≡ replicate n None
filled n len xs none zero =
    let many : n - len ≡ n = omega (arith, zero) in
    ap (λ ys. take n ys ++ replicate (n - len) None) none
    ∙ ap (λ ys. ys ++ replicate (n - len) None) (take_all n [] (omega arith))
    ∙ ap (λ m. replicate m None) many

pub returns : goal.returns
returns c =
    let seen : LastSeen = record { first = c.args.first; near = c.resize.new.self; far = c.new.result } in
    none-seen seen c.args.count
    (c.in_ok-resize.ensures.items ∙ filled c.args.count _ c.new-near.result.items c.new-near.ensures.items c.new-near.ensures.len)
    c.new.ensures
