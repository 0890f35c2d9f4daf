-- `of_part` keeps the pointer, and the parts of what lies behind it.
use Rattle.std.proofs.Common.{◌≡◌, List, [], ◌∷◌, ◌++◌, refl, sym, subst}
use Rattle.std.specs.Prelude.{Option, Some}
use mir.Val.{Val}
use base.Logic.{SProp, ent, emp, id⊢}
use prog.Wp.{WpFn}
use types.Kit.{‵, raw, ◌⊛◌, ◌$◌, ◌∵◌, !, qed, by, move, keep, drop, split, fsplit, fjoin, suffices, use0, use1}
use types.Run.{stop, fld, of_opd, no_more, and_then, returns, enter}
use types.ByLocal.{alloc_all, pass_all, free_all, look_at, get, get_in, sets}
use types.Part.{agg, sub, whole}
use contract.Monad.{fact, fact_i}
use contract.Running.{tables}
use denote.Laws.{Is, shows}
use denote.RattleType.{RattleType, owns}
use denote.RawPtr.{Ptr}
use denote.Signature.{types_at, plain}
use denote.Steps.{nothing, peeks}
use denote.Struct.Owning.{shape}
use denote.Triple.Entry.{alive}
use denote.Triple.Walked.{Stays, stay_dropped, walk_of}
use Rattle.std.proofs.alloc.Calls.{Goes-blank}
use Rattle.std.proofs.raw_atomic.Walks.{proved_at, leaves}
use Rattle.numbered_pool.specs.declared.answers.Answers.{Answers}
use Rattle.numbered_pool.specs.contracts.answers.Answers as answers
use Rattle.protolink_c.proofs.PointerWord as pointer
use Rattle.protolink_c.specs.contracts.part.Part as part
use Rattle.protolink_c.proofs.ViewFields.{word, pointer_good, word_good, Data, made, seen_some}
use Rattle.protolink_c.specs.Seen.{Seen, seen}
use Rattle.protolink_c.specs.contracts.view.View.of_part.{ended, clauses}
use Rattle.protolink_c.specs.contracts.view.View.of_part.Key.{name as #self}
use Rattle.protolink_c.proofs.view.View.of_part.Statement.{statement}
use Rattle.protolink_c.proofs.view.View.of_part.Code as code

pub of_part_spec : {M : Type 1} → statement M
of_part_spec 𝓤 𝓛 𝓜 𝓡 wired =
    let H = 𝓛.H in let 𝓣 = tables 𝓤 H 𝓜 𝓡 𝓡.env in let c = clauses 𝓛 𝓜.mem 𝓡.returns in let fn = code.function in
    let R : RattleType = answers.the_row in let Row : RattleType = part.the_row R in let S = shape (part.the_type R) in let D : RattleType = pointer.Data S in
    let hs : Stays ended.signature.params ended.kept = (stay_dropped (plain (λ _. Row)) ended.kept.0, tt) in
    proved_at 𝓛 ended hs c 𝓜 𝓡 (Goes-blank 𝓛 0 (plain (λ _. Row)) ended.kept.0 (λ κs x f. tt), tt) #self fn (code.unfolded 𝓤 H 𝓜 𝓡 wired) (λ z are.
    let κs = z.0.0 in let v = z.0.3.0 in let p : Ptr = v.address in let Post : Val → SProp 𝓤 = (walk_of 𝓛 ended hs c).post z in let Run : List Val → SProp 𝓤 = λ ws. WpFn 𝓤 H 𝓣.C 𝓣.Λ fn ws Post in
    let all : Option (Seen Answers) = Some (v.content, (v.round, v.count)) in
    qed 𝓛 ((raw (alive 𝓛 ended.signature κs z.0.1) ⊛ ‵ (owns (types_at ended.signature.params κs) z.0.3 z.0.4)) ∷ raw ((c κs z.0.3).requires z.1) ∷ []) ∵ split ! $ move ! (1 ∷ []) $ fsplit ! $
    fsplit ! $ peeks ! D (Is D) (shows 𝓛 D) (p, tt) z.0.4.0 (λ so. drop ! $ let ws : z.0.4.0 ≡ word p ∷ [] = pointer.told S p z.0.4.0 so in
    -- [the parts; ..; the tokens]
    keep ! (0 ∷ 2 ∷ []) $
    suffices ! (Run (word p ∷ [])) (subst (λ (us : List Val). ent 𝓤 (Run (word p ∷ [])) (Run us)) (λ i. sym ws i ++ []) (id⊢ 𝓤 (Run (word p ∷ [])))) $
    use1 𝓛 (‵ (seen R p all)) (seen_some 𝓛 R p v.content v.round v.count) $
    enter ! 𝓣.C 𝓣.Λ fn (word p ∷ []) Post $ alloc_all ! (λ l. pass_all ! refl (word_good [] p, tt) $
    sets ! (of_opd ! (get_in ! (fld ! refl (stop !)) (sub ! 0 refl (whole !)))) refl (pointer_good p) $
    sets ! (of_opd ! (get ! refl)) refl (pointer_good p) $
    sets ! (agg ! (and_then ! (get ! refl) (no_more !))) refl (word_good [] p) $
    use0 𝓛 (‵ (Data.own_val (p, tt) (word p ∷ []))) (made 𝓛 p) $ fjoin ! $
    use0 𝓛 (raw (fact 𝓤 (all ≡ all))) (fact_i 𝓤 (all ≡ all) (emp 𝓤) refl) $ nothing ! $ nothing ! $ fjoin ! $
    returns ! (look_at ! 0 refl) $ free_all ! refl $ keep ! (3 ∷ 0 ∷ 2 ∷ 1 ∷ []) $
    by ! (leaves 𝓛 ended hs c z (word p) (record { at = p; shown = all }) (tt, tt) (tt, tt)))))
