use Rattle.std.proofs.Common.{◌≡◌, ℕ, ◌-◌, ◌<◌, List, [], ◌∷◌, ◌++◌, length, map, take, drop, get_or, sym, ap, ◌∙◌, append_assoc, arith}
use Rattle.std.proofs.lemmas.List.Folds.{flat_map-map}
use Rattle.std.proofs.Math.Seq.{take-length}
use Rattle.std.specs.List.{flat_map}
use Rattle.verdict_texts.specs.declared.fingerprints.Marked as lent
use Rattle.verdict_texts.specs.Fingerprints.{marked}
use Rattle.verdict_texts.specs.Quality.{quality_object, quality_objects}
use Rattle.verdict_texts.proofs.quality.write_objects.Goals as goal

-- the first object, and the others with a comma before each
first-and-others : (all : List lent.Marked) (first : lent.Marked) → 0 < length all → first ≡ get_or all 0 first
    → quality_objects (map marked all) ≡ quality_object (marked first) ++ flat_map (λ one. 44 ∷ quality_object (marked one)) (take (length all - 1) (drop 1 all))
first-and-others [] first some is = absurd (omega arith)
first-and-others (x ∷ all) first some is =
    let others : take (length (x ∷ all) - 1) all ≡ all = let many : length (x ∷ all) - 1 ≡ length all = omega arith in ap (λ n. take n all) many ∙ take-length all in
    ap (λ others. quality_object (marked x) ++ others) (flat_map-map (λ next. 44 ∷ quality_object next) marked all)
    ∙ ap (λ one. quality_object (marked one) ++ flat_map (λ next. 44 ∷ quality_object (marked next)) all) (sym is)
    ∙ ap (λ rest. quality_object (marked first) ++ flat_map (λ next. 44 ∷ quality_object (marked next)) rest) (sym others)

-- two parts behind a text
behind : (t t1 t2 a b both : List ℕ) → t1 ≡ t ++ a → t2 ≡ t1 ++ b → both ≡ a ++ b → t2 ≡ t ++ both
behind t t1 t2 a b both h1 h2 is = rw (h2, h1, is) (append_assoc t a b)

pub returns-in_ok-write_further : goal.returns-in_ok-write_further
returns-in_ok-write_further c =
    let some : 0 < length c.args.all.now = omega arith in
    behind _ _ _ _ _ _ c.in_ok-write_object.ensures c.in_ok-write_further.ensures (first-and-others c.args.all.now c.first-item.result some c.first-item.is)
