-- `split_one` copies the pointer, and takes one part off.
use Rattle.std.proofs.Common.{◌≡◌, ◌-◌, ◌<◌, List, [], ◌∷◌, ◌++◌, refl, sym, subst}
use mir.MapTy.{inst_fn}
use mir.Syntax.{Args, Fn, a_type}
use mir.Val.{Val}
use base.Logic.{SProp, ent, emp, id⊢}
use prog.Wp.{WpFn}
use types.Kit.{‵, raw, ◌⊛◌, ◌$◌, ◌∵◌, !, qed, by, move, keep, drop, split, join, fsplit, fjoin, suffices, use0, use1, use2}
use types.Run.{stop, fld, of_opd, no_more, and_then, returns, enter}
use types.ByLocal.{alloc_all, pass_all, free_all, look_at, get, get_in, sets}
use types.Part.{agg, sub, whole}
use contract.BorrowLft.{◌⊑◌}
use contract.Monad.{fact, fact_i}
use contract.Running.{tables}
use denote.Exit.{no}
use denote.Laws.{Is, shows}
use denote.Param.{layouts, param, layout}
use denote.Param.Laws.{param_laws}
use denote.RattleType.{RattleType, owns}
use denote.Signature.{types_at, plain}
use denote.Steps.{nothing, heard, peeks}
use denote.Struct.Owning.{shape}
use denote.Struct.Tuple.{Tuple}
use denote.Triple.Entry.{alive}
use denote.Triple.Walked.{Stays, stay_dropped, walk_of}
use Rattle.std.proofs.alloc.Calls.{Goes-blank}
use Rattle.std.proofs.raw_atomic.Walks.{proved_at, leaves}
use Rattle.protolink_c.proofs.Counting.{part_off}
use Rattle.protolink_c.proofs.PairWord.{two, two_good, pair_made}
use Rattle.protolink_c.proofs.PointerWord.{word, word_good, pointer_good, Data, told, made}
use Rattle.protolink_c.specs.Parted.{part_owns}
use Rattle.protolink_c.specs.contracts.part.Part as part
use Rattle.protolink_c.specs.contracts.part.Part.split_one as f
use Rattle.protolink_c.specs.contracts.part.Part.split_one.Key.{name as #self}
use Rattle.protolink_c.proofs.part.Part.split_one.Statement.{statement}
use Rattle.protolink_c.proofs.part.Part.split_one.Code as code

pub split_one_spec : {M : Type 1} → statement M
split_one_spec 𝓤 𝓛 𝓜 𝓡 wired Y L =
    let H = 𝓛.H in let 𝓣 = tables 𝓤 H 𝓜 𝓡 𝓡.env in let c = f.clauses Y 𝓛 𝓜.mem 𝓡.returns in
    let T = f.ended Y in let Ts : Args = layouts (a_type ∷ []) (Y, tt) in let fn : Fn = inst_fn Ts code.function in
    let R : RattleType = param 0 Y in let P : RattleType = part.the_row R in let S = shape (part.the_type R) in let D = Data S in
    let hs : Stays T.signature.params T.kept = (stay_dropped (plain (λ _. P)) no, tt) in
    proved_at 𝓛 T hs c 𝓜 𝓡 (Goes-blank 𝓛 1 (plain (λ _. P)) no (λ κs x w. tt), tt) (#self Ts) fn (code.unfolded 𝓤 H 𝓜 𝓡 wired (Y, tt)) (λ z are.
    let κs = z.0.0 in let v = z.0.3.0 in let p = v.address in let w : Val = word p in
    let Post : Val → SProp 𝓤 = (walk_of 𝓛 T hs c).post z in let Run : List Val → SProp 𝓤 = λ ws. WpFn 𝓤 H 𝓣.C 𝓣.Λ fn ws Post in
    let rest : P.Denot = record v { count = v.count - 1 } in let one : P.Denot = record v { count = 1 } in
    qed 𝓛 ((raw (alive 𝓛 T.signature κs z.0.1) ⊛ ‵ (owns (types_at T.signature.params κs) z.0.3 z.0.4)) ∷ (raw (fact 𝓤 (κs.0 ⊑ Y.lives)) ⊛ raw (fact 𝓤 (1 < v.count))) ∷ []) ∵
    split ! $ move ! (2 ∷ []) $ split ! $ drop ! $ heard ! (1 < v.count) (λ many. move ! (1 ∷ []) $ fsplit ! $ fsplit ! $
    peeks ! D (Is D) (shows 𝓛 D) (p, tt) z.0.4.0 (λ is. drop ! $
    -- [the parts; ..; the tokens]
    keep ! (0 ∷ 2 ∷ []) $
    suffices ! (Run (w ∷ [])) (subst (λ (us : List Val). ent 𝓤 (Run (w ∷ [])) (Run us)) (λ i. sym (told S p z.0.4.0 is) i ++ []) (id⊢ 𝓤 (Run (w ∷ [])))) $
    use1 𝓛 (‵ (part_owns R p v.content v.round (v.count - 1)) ⊛ ‵ (part_owns R p v.content v.round 1)) (part_off 𝓛 R (param_laws 0 Y L) p v.content v.round v.count many) $ split ! $
    enter ! 𝓣.C 𝓣.Λ fn (w ∷ []) Post $ alloc_all ! (λ l. pass_all ! refl (word_good [] p, tt) $
    sets ! (of_opd ! (get_in ! (fld ! refl (stop !)) (sub ! 0 refl (whole !)))) refl (pointer_good p) $
    sets ! (agg ! (and_then ! (get ! refl) (no_more !))) refl (word_good [] p) $
    sets ! (agg ! (and_then ! (get ! refl) (no_more !))) refl (word_good [] p) $
    sets ! (agg ! (and_then ! (get ! refl) (and_then ! (get ! refl) (no_more !)))) refl (two_good (layout P) (layout P) w w (word_good [] p) (word_good [] p)) $
    returns ! (look_at ! 0 refl) $ free_all ! refl $
    use0 𝓛 (‵ (D.own_val (p, tt) (w ∷ []))) (made S 𝓛 p) $ fjoin ! $ move ! (1 ∷ []) $
    use0 𝓛 (‵ (D.own_val (p, tt) (w ∷ []))) (made S 𝓛 p) $ fjoin ! $ move ! (1 ∷ 0 ∷ []) $
    use2 𝓛 (‵ ((Tuple (P ∷ P ∷ [])).own_val (rest, one) (two w w ∷ []))) (pair_made 𝓛 P P (rest, one) w w) $
    use0 𝓛 (raw (fact 𝓤 (one ≡ one))) (fact_i 𝓤 (one ≡ one) (emp 𝓤) refl) $ use0 𝓛 (raw (fact 𝓤 (rest ≡ rest))) (fact_i 𝓤 (rest ≡ rest) (emp 𝓤) refl) $ join ! $
    nothing ! $ nothing ! $ fjoin ! $ keep ! (3 ∷ 0 ∷ 2 ∷ 1 ∷ []) $
    by ! (leaves 𝓛 T hs c z (two w w) (rest, one) (tt, tt) (tt, tt))))))
