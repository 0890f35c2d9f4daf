-- `into_part` tests the pointer: null has nothing, and any other a part.
use Rattle.std.proofs.Common.{◌≡◌, List, [], ◌∷◌, ◌++◌, refl, sym, subst, lit<}
use Rattle.std.specs.Prelude.{◌^◌, Option, Some, None}
use seplogic.Ra.Ura.{Ura}
use mir.Val.{Val, vcons, vnil, has_ty}
use base.Logic.{SProp, ent, emp, id⊢, never_e}
use prog.Memory.{Memory}
use prog.Routine.{Routine}
use prog.Wp.{Calls, Loops, WpFn}
use types.Logic.{Logic}
use types.Kit.{⋆, ‵, raw, ◌⊛◌, at_ret, ◌$◌, ◌∵◌, !, qed, by, move, keep, drop, split, fsplit, fjoin, flt_l, flt_i, suffices, use0, use1}
use types.Run.{stop, fld, lit, bin, of_opd, no_more, and_then, first, branches, skips, exec, returns, returns_within, enter}
use types.ByLocal.{alloc_all, pass_all, free_all, look_at, get, get_in, sets, env}
use types.Part.{agg, sub, whole}
use types.Match.{live}
use contract.Monad.{Fun, fact, fact_i}
use contract.Running.{tables}
use denote.RattleType.{RattleType, owns}
use denote.Laws.{Is, shows}
use denote.Param.{layout}
use denote.Signature.{types_at, type_at, plain}
use denote.RawPtr.{Ptr, block_ptr, null_ptr, count_of, tests_null}
use denote.Steps.{nothing, peeks}
use denote.Struct.Owning.{shape}
use denote.Triple.Clauses.{Clauses}
use denote.Triple.Entry.{alive}
use denote.Triple.Walked.{Stays, stay_dropped, walk_of}
use Rattle.std.proofs.alloc.Calls.{Goes-blank}
use Rattle.std.proofs.cell.Inside.{Good}
use Rattle.std.proofs.option.Made.{Some-of, none_of}
use Rattle.std.proofs.ResultValues.{and_tt}
use Rattle.std.proofs.raw_atomic.Walks.{proved_at, leaves}
use Rattle.numbered_pool.specs.declared.answers.Answers.{Answers}
use Rattle.numbered_pool.specs.contracts.answers.Answers as answers
use Rattle.protolink_c.proofs.PointerWord as pointer
use Rattle.protolink_c.specs.contracts.part.Part as part
use Rattle.protolink_c.specs.Seen.{Seen, seen, shown_by}
use Rattle.protolink_c.proofs.ViewFields.{word, word_good, pointer_good, Data, told}
use Rattle.protolink_c.specs.contracts.view.View as view
use Rattle.protolink_c.specs.contracts.view.View.into_part.{ended, clauses}
use Rattle.protolink_c.specs.contracts.view.View.into_part.Key.{name as #self}
use Rattle.protolink_c.proofs.view.View.into_part.Statement.{statement}
use Rattle.protolink_c.proofs.view.View.into_part.Code as code

abbrev R : RattleType
R = answers.the_row

abbrev Row : RattleType
Row = part.the_row R

abbrev stayed : Stays ended.signature.params ended.kept
stayed = (stay_dropped (plain (λ _. view.the_row)) ended.kept.0, tt)

module _ {M : Type 1} {𝓤 : Ura M} (𝓛 : Logic 𝓤) (at_mem : Memory → SProp 𝓤) (run : Routine → Fun 𝓤) where
  open 𝓛 use {H}

  abbrev c : Clauses 𝓤 ended
  c = clauses 𝓛 at_mem run

  module _ (C : Calls 𝓤 H) (Λ : Loops 𝓤 H) (z : (walk_of 𝓛 ended stayed c).Ghost) where
    abbrev Post : Val → SProp 𝓤
    Post = (walk_of 𝓛 ended stayed c).post z

    abbrev shown : Option (Seen Answers)
    shown = z.0.3.0.shown

    abbrev toks : SProp 𝓤
    toks = alive 𝓛 ended.signature z.0.0 z.0.1

    abbrev Out : RattleType
    Out = type_at ended.signature.result z.0.0

    -- by the form of the pointer and of what it shows
    at : (p : Ptr) (s : Option (Seen Answers)) → s ≡ shown → ent 𝓤 (⋆ 𝓛 (‵ (seen R p s) ∷ raw toks ∷ [])) (WpFn 𝓤 H C Λ code.function (word p ∷ []) Post)
    at null_ptr (Some x) e = qed 𝓛 (‵ (seen R null_ptr (Some x)) ∷ raw toks ∷ []) ∵ keep ! (0 ∷ []) $ by ! (never_e 𝓤 _)
    at (block_ptr b o) None e = qed 𝓛 (‵ (seen R (block_ptr b o) None) ∷ raw toks ∷ []) ∵ keep ! (0 ∷ []) $ by ! (never_e 𝓤 _)
    at null_ptr None e =
        qed 𝓛 (‵ (seen R null_ptr None) ∷ raw toks ∷ []) ∵ keep ! (1 ∷ []) $
        enter ! C Λ code.function (word null_ptr ∷ []) Post $ alloc_all ! (λ l. pass_all ! refl (word_good [] null_ptr, tt) $
        sets ! (of_opd ! (get_in ! (fld ! refl (stop !)) (sub ! 0 refl (whole !)))) refl (pointer_good null_ptr) $
        sets ! (bin ! (get ! refl) (lit ! tt) tt) refl (tt, tt) $
        first ! $ branches ! (get ! refl)
        (λ _. sets ! (agg ! (and_then ! (lit ! tt) (no_more !))) refl (tt, (record { fits = lit< tt }, tt)) $
        returns_within ! Post refl (look_at ! 0 refl) $ free_all ! refl $
        use0 𝓛 (‵ (Out.own_val None (live 0 vnil ∷ []))) (none_of 𝓛 Row) $
        use0 𝓛 (raw (fact 𝓤 (None ≡ shown))) (fact_i 𝓤 (None ≡ shown) (emp 𝓤) e) $
        nothing ! $ nothing ! $ fjoin ! $ keep ! (3 ∷ 0 ∷ 2 ∷ 1 ∷ []) $
        by ! (leaves 𝓛 ended stayed c z (live 0 vnil) None (tt, tt) (tt, tt)))
        (λ wrong. absurd wrong))
    at (block_ptr b o) (Some x) e =
        let p : Ptr = block_ptr b o in let made : Val = word p in let typed : Good (layout Row) made = word_good [] p in
        let v₁ : Val = live 1 (vcons made vnil) in let d : Row.Denot = record { address = p; content = x.0; round = x.1.0; count = x.1.1 } in
        let some_typed : Good (layout Out) v₁ = (and_tt (has_ty (layout Row) made) typed.0, (record { fits = lit< tt }, (typed.1, tt))) in
        qed 𝓛 (‵ (seen R p (Some x)) ∷ raw toks ∷ []) ∵ fsplit ! $ move ! (1 ∷ []) $ fsplit ! $ move ! (1 ∷ []) $ flt_l ! (λ t. flt_i ! (count_of p) (2 ^ 63) t $ move ! (1 ∷ 0 ∷ []) $ fjoin ! $ move ! (1 ∷ 0 ∷ []) $ fjoin ! $
        enter ! C Λ code.function (word p ∷ []) Post $ alloc_all ! (λ l. pass_all ! refl (word_good [] p, tt) $
        sets ! (of_opd ! (get_in ! (fld ! refl (stop !)) (sub ! 0 refl (whole !)))) refl (tt, tt) $
        sets ! (bin ! (get ! refl) (lit ! tt) (tests_null p t)) refl (tt, tt) $
        first ! $ branches ! (get ! refl) (λ wrong. absurd wrong)
        (λ _. skips ! $ exec ! C Λ (env (code.function).locals l) code.Mir.t-4 (at_ret (env (code.function).locals l) Post) $
        sets ! (of_opd ! (get ! refl)) refl (tt, tt) $
        sets ! (agg ! (and_then ! (get ! refl) (no_more !))) refl typed $
        sets ! (agg ! (and_then ! (lit ! tt) (and_then ! (get ! refl) (no_more !)))) refl some_typed $
        use0 𝓛 (‵ ((pointer.Data (shape (part.the_type R))).own_val (p, tt) (word p ∷ []))) (pointer.made (shape (part.the_type R)) 𝓛 p) $ fjoin ! $ use1 𝓛 (‵ (Out.own_val (Some d) (v₁ ∷ []))) (Some-of 𝓛 Row d made) $
        use0 𝓛 (raw (fact 𝓤 (shown_by (Some d) ≡ shown))) (fact_i 𝓤 (shown_by (Some d) ≡ shown) (emp 𝓤) e) $
        nothing ! $ nothing ! $ fjoin ! $
        returns ! (look_at ! 0 refl) $ free_all ! refl $ keep ! (3 ∷ 0 ∷ 2 ∷ 1 ∷ []) $
        by ! (leaves 𝓛 ended stayed c z v₁ (Some d) (tt, tt) (tt, tt)))))

pub into_part_spec : {M : Type 1} → statement M
into_part_spec 𝓤 𝓛 𝓜 𝓡 wired =
    let H = 𝓛.H in let 𝓣 = tables 𝓤 H 𝓜 𝓡 𝓡.env in let cl = clauses 𝓛 𝓜.mem 𝓡.returns in let fn = code.function in
    proved_at 𝓛 ended stayed cl 𝓜 𝓡 (Goes-blank 𝓛 0 (plain (λ _. view.the_row)) ended.kept.0 (λ κs x f. tt), tt) #self fn (code.unfolded 𝓤 H 𝓜 𝓡 wired) (λ z are.
    let κs = z.0.0 in let v = z.0.3.0 in let Post : Val → SProp 𝓤 = (walk_of 𝓛 ended stayed cl).post z in let Run : List Val → SProp 𝓤 = λ ws. WpFn 𝓤 H 𝓣.C 𝓣.Λ fn ws Post in
    qed 𝓛 ((raw (alive 𝓛 ended.signature κs z.0.1) ⊛ ‵ (owns (types_at ended.signature.params κs) z.0.3 z.0.4)) ∷ raw ((cl κs z.0.3).requires z.1) ∷ []) ∵ split ! $ move ! (1 ∷ []) $ fsplit ! $ fsplit ! $
    peeks ! Data (Is Data) (shows 𝓛 Data) (v.at, tt) z.0.4.0 (λ is. drop ! $
    -- [the parts; ..; the tokens]
    keep ! (0 ∷ 2 ∷ []) $
    suffices ! (Run (word v.at ∷ [])) (subst (λ (us : List Val). ent 𝓤 (Run (word v.at ∷ [])) (Run (us ++ []))) (sym (told v.at z.0.4.0 is)) (id⊢ 𝓤 (Run (word v.at ∷ [])))) $
    by ! (at 𝓛 𝓜.mem 𝓡.returns 𝓣.C 𝓣.Λ z v.at v.shown refl)))
