-- `of_pointer` keeps the pointer, and what is owned behind it.
use Rattle.std.proofs.Common.{◌≡◌, List, [], ◌∷◌, ◌++◌, refl, sym, subst}
use Rattle.std.specs.Prelude.{Option, Some}
use mir.Val.{Val}
use base.Logic.{SProp, ent, emp, id⊢}
use prog.Wp.{WpFn}
use types.Kit.{‵, raw, ◌⊛◌, ◌$◌, ◌∵◌, !, qed, by, move, keep, split, fsplit, fjoin, suffices, use0, use1}
use types.Run.{stop, fld, of_opd, no_more, and_then, returns, enter}
use types.ByLocal.{alloc_all, pass_all, free_all, look_at, get, get_in, sets}
use types.Part.{agg, sub, whole}
use contract.Monad.{fact, fact_i}
use contract.Running.{tables}
use denote.RattleType.{RattleType, owns}
use denote.Signature.{types_at, plain}
use denote.Steps.{nothing}
use denote.Triple.Entry.{alive}
use denote.Triple.Walked.{Stays, stay_dropped, walk_of}
use Rattle.std.proofs.alloc.Calls.{Goes-blank}
use Rattle.std.proofs.raw_atomic.Walks.{proved_at, leaves}
use Rattle.std.specs.contracts.alloc.Global as heap
use Rattle.std.proofs.alloc.Global.TheLaws as heap_laws
use Rattle.std.specs.contracts.impls.GlobalAllocator.TheImpl.{ghosts}
use Rattle.numbered_pool.specs.declared.answers.Answers.{Answers}
use Rattle.numbered_pool.specs.contracts.answers.Answers as answers
use Rattle.protolink_c.proofs.BoxWord as pointer
use Rattle.protolink_c.proofs.Fields.{word, pointer_good, word_good, Data, made, held_some}
use Rattle.protolink_c.specs.Held.{held}
use Rattle.protolink_c.specs.contracts.handle.Handle.of_pointer.{ended, clauses}
use Rattle.protolink_c.specs.contracts.handle.Handle.of_pointer.Key.{name as #self}
use Rattle.protolink_c.proofs.handle.Handle.of_pointer.Statement.{statement}
use Rattle.protolink_c.proofs.handle.Handle.of_pointer.Code as code

pub of_pointer_spec : {M : Type 1} → statement M
of_pointer_spec 𝓤 𝓛 𝓜 𝓡 wired =
    let H = 𝓛.H in let 𝓣 = tables 𝓤 H 𝓜 𝓡 𝓡.env in let c = clauses 𝓛 𝓜.mem 𝓡.returns in let fn = code.function in
    let R : RattleType = answers.the_row in let Z : RattleType = heap.the_row in let LZ = heap_laws.the_row_laws in let Row : RattleType = pointer.Pointer R Z LZ ghosts in
    let hs : Stays ended.signature.params ended.kept = (stay_dropped (plain (λ _. Row)) ended.kept.0, tt) in
    proved_at 𝓛 ended hs c 𝓜 𝓡 (Goes-blank 𝓛 0 (plain (λ _. Row)) ended.kept.0 (λ κs x f. tt), tt) #self fn (code.unfolded 𝓤 H 𝓜 𝓡 wired) (λ z are.
    let κs = z.0.0 in let v = z.0.3.0 in let Post : Val → SProp 𝓤 = (walk_of 𝓛 ended hs c).post z in let Run : List Val → SProp 𝓤 = λ ws. WpFn 𝓤 H 𝓣.C 𝓣.Λ fn ws Post in
    let all : Option Answers = Some v.content in
    qed 𝓛 ((raw (alive 𝓛 ended.signature κs z.0.1) ⊛ ‵ (owns (types_at ended.signature.params κs) z.0.3 z.0.4)) ∷ raw ((c κs z.0.3).requires z.1) ∷ []) ∵ split ! $ move ! (1 ∷ []) $ fsplit ! $
    pointer.opened R Z LZ ghosts ! v z.0.4.0 (λ h ws fits. let w : Val = pointer.word v.address h in
    -- [the box; the allocator; ..; the tokens]
    keep ! (0 ∷ 3 ∷ []) $
    suffices ! (Run (w ∷ [])) (subst (λ (us : List Val). ent 𝓤 (Run (w ∷ [])) (Run us)) (λ i. sym ws i ++ []) (id⊢ 𝓤 (Run (w ∷ [])))) $
    use1 𝓛 (‵ (held R v.address all)) (held_some 𝓛 R v.address v.content) $
    enter ! 𝓣.C 𝓣.Λ fn (w ∷ []) Post $ alloc_all ! (λ l. pass_all ! refl (pointer.word_typed R Z LZ ghosts 𝓛 v.address h fits, tt) $
    sets ! (of_opd ! (get_in ! (fld ! refl (stop !)) (sub ! 0 refl (whole !)))) refl (pointer_good v.address) $
    sets ! (of_opd ! (get ! refl)) refl (pointer_good v.address) $
    sets ! (agg ! (and_then ! (get ! refl) (no_more !))) refl (word_good [] v.address) $
    use0 𝓛 (‵ (Data.own_val (v.address, tt) (word v.address ∷ []))) (made 𝓛 v.address) $ fjoin ! $
    use0 𝓛 (raw (fact 𝓤 (all ≡ all))) (fact_i 𝓤 (all ≡ all) (emp 𝓤) refl) $ nothing ! $ nothing ! $ fjoin ! $
    returns ! (look_at ! 0 refl) $ free_all ! refl $ keep ! (3 ∷ 0 ∷ 2 ∷ 1 ∷ []) $
    by ! (leaves 𝓛 ended hs c z (word v.address) (record { at = v.address; shown = all }) (tt, tt) (tt, tt)))))
