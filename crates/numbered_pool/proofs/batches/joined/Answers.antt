use Rattle.std.proofs.Common.{◌≡◌, ℕ, List, map, [], ◌∷◌, refl, ap, subst, ◌∙◌, sym, IfOk}
use Rattle.std.proofs.lemmas.Iterator.Adapters.{YieldsList-from_vec}
use Rattle.std.proofs.lemmas.Iterator.Consumers.{YieldsList-from_enumerate, YieldsList-end}
use Rattle.joined_files.specs.Joining.{files_joined, joined_all}
use Rattle.numbered_pool.specs.Batches.{batch_of, called}
use Rattle.numbered_pool.proofs.batches.joined.Goals as goal

-- pairs by their parts
by-parts : {X : Type 0} (ps : List (ℕ × X)) → map (λ p. (p.0, p.1)) ps ≡ ps
by-parts [] = refl
by-parts (p ∷ ps) = ap (λ qs. p ∷ qs) (by-parts ps)

-- all files are joined
pub returns : goal.returns
unfolding batch_of
returns c =
    let first = c.into_iter-position-iterator.result in
    let all = YieldsList-from_enumerate {s = first} (YieldsList-from_vec c.args.files (cc) (cc)) (cc) in
    let ended = YieldsList-end all c.loop-position.yielded c.loop-position.position-iterator c.loop-position.yielded_by c.next.result c.next.new.self c.in-None.is c.next.ensures.steps in
    let whole = c.loop-position.invariant
    ∙ ap (λ ps. joined_all (map called ps)) (sym (by-parts c.loop-position.yielded) ∙ ended.0) in
    subst (λ joining. IfOk c.into_files.result (λ batch. batch ≡ files_joined joining)) whole c.into_files.ensures
