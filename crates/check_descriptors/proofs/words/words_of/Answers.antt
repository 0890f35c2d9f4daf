use Rattle.std.proofs.Common.{rules, ℕ, ◌≡◌, ◌∙◌, refl, List, [], ◌∷◌, map, drop, string_bytes}
use Rattle.std.proofs.lemmas.Iterator.{YieldsList-from_map, items_from_collect}
use Rattle.std.proofs.lemmas.Iterator.Adapters.{YieldsList-from_vec, YieldsList-from_skip}
use Rattle.std.proofs.lemmas.Iterator.Consumers.{YieldsList-at}
use Rattle.std.proofs.lemmas.Result.{IfOk-at_ok}
use Rattle.std.specs.Vec.Iter.{into_iter_items}
use Rattle.check_descriptors.specs.Words as spec
use Rattle.check_descriptors.proofs.words.words_of.Goals as goal

-- all but the first, read one by one
all_but_first : {X : Type 0} (read : X → List ℕ) (xs : List X)
    → map read (drop 1 xs) ≡ spec.words_of (map read xs)
all_but_first read [] = refl
all_but_first read (x ∷ xs) = refl

pub returns : goal.returns
returns c =
    let given = into_iter_items c.args.arguments in
    let all = YieldsList-from_vec given refl c.args.arguments.rest.ok.0 in
    let skipped = YieldsList-from_skip 1 (YieldsList-at c.skip.ensures.source all) c.skip.ensures.count in
    let words = items_from_collect _ c.collect.ensures.ran
    (YieldsList-from_map _ string_bytes (YieldsList-at c.map.ensures.source skipped) c.map.ensures.closure (λ x r q k. search rules)) in
    c.from_vec.ensures ∙ (IfOk-at_ok _ c.in_ok-words.was words ∙ all_but_first string_bytes given)
