-- `into_pointer` tests the pointer: null owns nothing, and any other a box.
use Rattle.std.proofs.Common.{◌≡◌, List, [], ◌∷◌, ◌++◌, refl, sym, subst, lit<}
use Rattle.std.specs.Prelude.{Option, Some, None}
use seplogic.Ra.Ura.{Ura}
use mir.Raw.{raw as bare}
use mir.Val.{Val, vcons, vnil, has_ty}
use base.Fraction.{full_share}
use base.Logic.{SProp, ent, emp, id⊢, never_e, via, snd∗, guard_i}
use prog.Memory.{Memory}
use prog.Routine.{Routine}
use prog.Wp.{Calls, Loops, WpFn}
use types.Logic.{Logic, sem}
use types.Kit.{⋆, ‵, raw, ◌⊛◌, given, at_ret, ◌$◌, ◌∵◌, !, qed, by, move, keep, drop, split, fsplit, fjoin, suffices, use0, use1, learn}
use types.Run.{stop, fld, lit, bin, of_opd, no_more, and_then, first, branches, skips, exec, returns, returns_within, enter}
use types.ByLocal.{alloc_all, pass_all, free_all, look_at, get, get_in, sets, env}
use types.Part.{agg, sub, whole}
use types.Match.{live}
use contract.Monad.{Fun, fact, fact_i, fact_use}
use contract.Running.{tables}
use denote.RattleType.{RattleType, owns}
use denote.Laws.{Is, shows}
use denote.Memory.{lone}
use denote.Param.{layout}
use denote.Param.Laws.{Laws}
use denote.Signature.{types_at, type_at, plain}
use denote.RawPtr.{Ptr, block_ptr, null_ptr, lies_at, tests_null, Testable}
use denote.Steps.{nothing, peeks}
use denote.Triple.Clauses.{Clauses}
use denote.Triple.Entry.{alive}
use denote.Triple.Walked.{Stays, stay_dropped, walk_of}
use Rattle.std.proofs.alloc.Calls.{Al, Goes-blank, handle_tells}
use Rattle.std.proofs.cell.Inside.{Good}
use Rattle.std.proofs.option.Made.{Some-of, none_of}
use Rattle.std.proofs.GlobalToken.{dealloc_token-Testable}
use Rattle.std.proofs.ResultValues.{and_tt}
use Rattle.std.proofs.raw_atomic.Walks.{proved_at, leaves}
use Rattle.std.specs.contracts.alloc.Global as heap
use Rattle.std.proofs.alloc.Global.TheLaws as heap_laws
use Rattle.std.specs.contracts.impls.GlobalAllocator.TheImpl as global
use Rattle.std_alloc.specs.Box.Ownership.{box_owns}
use Rattle.numbered_pool.specs.declared.answers.Answers.{Answers}
use Rattle.numbered_pool.specs.contracts.answers.Answers as answers
use Rattle.protolink_c.specs.Held.{held}
use Rattle.protolink_c.proofs.BoxWord as pointer
use Rattle.protolink_c.proofs.Fields.{word, word_good, pointer_good, Data, told}
use Rattle.protolink_c.specs.contracts.handle.Handle as handle
use Rattle.protolink_c.specs.contracts.handle.Handle.into_pointer.{ended, clauses}
use Rattle.protolink_c.specs.contracts.handle.Handle.into_pointer.Key.{name as #self}
use Rattle.protolink_c.proofs.handle.Handle.into_pointer.Statement.{statement}
use Rattle.protolink_c.proofs.handle.Handle.into_pointer.Code as code

abbrev R : RattleType
R = answers.the_row

abbrev Z : RattleType
Z = heap.the_row

abbrev LZ : Laws Z
LZ = heap_laws.the_row_laws

abbrev Row : RattleType
Row = pointer.Pointer R Z LZ global.ghosts

abbrev al : Al
al = record { row = Z; laws = LZ; g = global.ghosts; d = global.dict; drops = global.dict }

abbrev stayed : Stays ended.signature.params ended.kept
stayed = (stay_dropped (plain (λ _. handle.the_row)) ended.kept.0, (stay_dropped (plain (λ _. Z)) ended.kept.1.0, tt))

module _ {M : Type 1} {𝓤 : Ura M} (𝓛 : Logic 𝓤) (at_mem : Memory → SProp 𝓤) (run : Routine → Fun 𝓤) where
  open 𝓛 use {H}

  abbrev c : Clauses 𝓤 ended
  c = clauses 𝓛 at_mem run

  module _ (C : Calls 𝓤 H) (Λ : Loops 𝓤 H) (z : (walk_of 𝓛 ended stayed c).Ghost) (h : Val) (fits : Good (layout Z) h) where
    abbrev Post : Val → SProp 𝓤
    Post = (walk_of 𝓛 ended stayed c).post z

    abbrev a : Z.Denot
    a = z.0.3.1.0

    abbrev shown : Option Answers
    shown = z.0.3.0.shown

    abbrev toks : SProp 𝓤
    toks = alive 𝓛 ended.signature z.0.0 z.0.1

    abbrev Out : RattleType
    Out = type_at ended.signature.result z.0.0

    -- by the form of the pointer and of what it shows
    at : (p : Ptr) (s : Option Answers) → shown ≡ s → ent 𝓤 (⋆ 𝓛 (‵ (held R p s) ∷ ‵ (Z.own_val a (h ∷ [])) ∷ raw toks ∷ [])) (WpFn 𝓤 H C Λ code.function (word p ∷ h ∷ []) Post)
    at null_ptr (Some x) e = qed 𝓛 (‵ (held R null_ptr (Some x)) ∷ ‵ (Z.own_val a (h ∷ [])) ∷ raw toks ∷ []) ∵ keep ! (0 ∷ []) $ by ! (never_e 𝓤 _)
    at (block_ptr b o) None e = qed 𝓛 (‵ (held R (block_ptr b o) None) ∷ ‵ (Z.own_val a (h ∷ [])) ∷ raw toks ∷ []) ∵ keep ! (0 ∷ []) $ by ! (never_e 𝓤 _)
    at null_ptr None e =
        qed 𝓛 (‵ (held R null_ptr None) ∷ ‵ (Z.own_val a (h ∷ [])) ∷ raw toks ∷ []) ∵ keep ! (2 ∷ []) $
        enter ! C Λ code.function (word null_ptr ∷ h ∷ []) Post $ alloc_all ! (λ l. pass_all ! refl (word_good [] null_ptr, (fits, tt)) $
        sets ! (of_opd ! (get_in ! (fld ! refl (stop !)) (sub ! 0 refl (whole !)))) refl (pointer_good null_ptr) $
        sets ! (bin ! (get ! refl) (lit ! tt) tt) refl (tt, tt) $
        first ! $ branches ! (get ! refl)
        (λ _. sets ! (agg ! (and_then ! (lit ! tt) (no_more !))) refl (tt, (record { fits = lit< tt }, tt)) $
        returns_within ! Post refl (look_at ! 0 refl) $ free_all ! refl $
        use0 𝓛 (‵ (Out.own_val None (live 0 vnil ∷ []))) (none_of 𝓛 Row) $
        use0 𝓛 (raw (fact 𝓤 (shown ≡ None))) (fact_i 𝓤 (shown ≡ None) (emp 𝓤) e) $
        nothing ! $ nothing ! $ fjoin ! $ nothing ! $ fjoin ! $ keep ! (3 ∷ 0 ∷ 2 ∷ 1 ∷ []) $
        by ! (leaves 𝓛 ended stayed c z (live 0 vnil) None (tt, (tt, tt)) (tt, (tt, tt))))
        (λ wrong. absurd wrong))
    at (block_ptr b o) (Some x) e =
        let p : Ptr = block_ptr b o in let made : Val = pointer.word p h in let typed = pointer.word_typed R Z LZ global.ghosts 𝓛 p h fits in
        let v₁ : Val = live 1 (vcons made vnil) in let d : Row.Denot = record { address = p; allocator = a; content = x } in
        let some_typed : Good (layout Out) v₁ = (and_tt (has_ty (layout Row) made) typed.0, (record { fits = lit< tt }, (typed.1, tt))) in
        let boxed = box_owns (global.ghosts.dealloc_token a) R p x in
        qed 𝓛 (‵ boxed ∷ ‵ (Z.own_val a (h ∷ [])) ∷ raw toks ∷ []) ∵
        use1 𝓛 (given (Testable p) (‵ boxed)) (fact_use 𝓤 (Testable p) (via 𝓤 _ (snd∗ 𝓤 (sem 𝓛 (lies_at R full_share p x)) (sem 𝓛 (global.ghosts.dealloc_token a (bare (lone R.mir)) p))) (dealloc_token-Testable 𝓛 a (bare (lone R.mir)) p)) (guard_i 𝓤 (Testable p) (sem 𝓛 boxed))) $ learn ! (λ t.
        enter ! C Λ code.function (word p ∷ h ∷ []) Post $ alloc_all ! (λ l. pass_all ! refl (word_good [] p, (fits, tt)) $
        sets ! (of_opd ! (get_in ! (fld ! refl (stop !)) (sub ! 0 refl (whole !)))) refl (tt, tt) $
        sets ! (bin ! (get ! refl) (lit ! tt) (tests_null p t)) refl (tt, tt) $
        first ! $ branches ! (get ! refl) (λ wrong. absurd wrong)
        (λ _. skips ! $ exec ! C Λ (env (code.function).locals l) code.Mir.t-4 (at_ret (env (code.function).locals l) Post) $
        sets ! (of_opd ! (get ! refl)) refl (tt, tt) $
        sets ! (agg ! (and_then ! (get ! refl) (and_then ! (get ! refl) (no_more !)))) refl typed $
        sets ! (agg ! (and_then ! (lit ! tt) (and_then ! (get ! refl) (no_more !)))) refl some_typed $
        pointer.closed R Z LZ global.ghosts ! d h $ use1 𝓛 (‵ (Out.own_val (Some d) (v₁ ∷ []))) (Some-of 𝓛 Row d made) $
        use0 𝓛 (raw (fact 𝓤 (shown ≡ Some x))) (fact_i 𝓤 (shown ≡ Some x) (emp 𝓤) e) $
        nothing ! $ nothing ! $ fjoin ! $ nothing ! $ fjoin ! $
        returns ! (look_at ! 0 refl) $ free_all ! refl $ keep ! (3 ∷ 0 ∷ 2 ∷ 1 ∷ []) $
        by ! (leaves 𝓛 ended stayed c z v₁ (Some d) (tt, (tt, tt)) (tt, (tt, tt))))))

pub into_pointer_spec : {M : Type 1} → statement M
into_pointer_spec 𝓤 𝓛 𝓜 𝓡 wired =
    let H = 𝓛.H in let 𝓣 = tables 𝓤 H 𝓜 𝓡 𝓡.env in let cl = clauses 𝓛 𝓜.mem 𝓡.returns in let fn = code.function in
    proved_at 𝓛 ended stayed cl 𝓜 𝓡 (Goes-blank 𝓛 0 (plain (λ _. handle.the_row)) ended.kept.0 (λ κs x f. tt), (Goes-blank 𝓛 0 (plain (λ _. Z)) ended.kept.1.0 (λ κs x f. tt), tt)) #self fn (code.unfolded 𝓤 H 𝓜 𝓡 wired) (λ z are.
    let κs = z.0.0 in let v = z.0.3.0 in let Post : Val → SProp 𝓤 = (walk_of 𝓛 ended stayed cl).post z in let Run : List Val → SProp 𝓤 = λ ws. WpFn 𝓤 H 𝓣.C 𝓣.Λ fn ws Post in
    qed 𝓛 ((raw (alive 𝓛 ended.signature κs z.0.1) ⊛ ‵ (owns (types_at ended.signature.params κs) z.0.3 z.0.4)) ∷ raw ((cl κs z.0.3).requires z.1) ∷ []) ∵ split ! $ move ! (1 ∷ []) $ fsplit ! $ fsplit ! $
    peeks ! Data (Is Data) (shows 𝓛 Data) (v.at, tt) z.0.4.0 (λ is. drop ! $ move ! (1 ∷ []) $ fsplit ! $ handle_tells al ! z.0.3.1.0 z.0.4.1.0 (λ h eh fits.
    keep ! (2 ∷ 0 ∷ 3 ∷ []) $
    suffices ! (Run (word v.at ∷ h ∷ [])) (subst (λ (us : List Val × List Val). ent 𝓤 (Run (word v.at ∷ h ∷ [])) (Run (us.0 ++ (us.1 ++ [])))) (λ i. (sym (told v.at z.0.4.0 is) i, sym eh i)) (id⊢ 𝓤 (Run (word v.at ∷ h ∷ [])))) $
    by ! (at 𝓛 𝓜.mem 𝓡.returns 𝓣.C 𝓣.Λ z h fits v.at v.shown refl))))
