-- `freeze` lends the value for a round of its own: its token is all of the parts.
use Rattle.std.proofs.Common.{◌≡◌, ◌^◌, List, [], ◌∷◌, ◌++◌, refl, sym, subst}
use mir.MapTy.{inst_fn}
use mir.Raw.{raw as bare}
use mir.Syntax.{Args, Fn, a_type}
use mir.Val.{Val}
use base.Fml.{Lft, Fml, Incl-trans, ftrue, flft}
use base.Fraction.{full_share}
use base.Logic.{SProp, ent, emp, id⊢, guard_i}
use ghost.Rules.{Toks}
use prog.Wp.{WpFn}
use types.Kit.{‵, raw, ◌⊛◌, given, later, ◌$◌, ◌∵◌, !, qed, by, move, keep, drop, split, join, fsplit, fjoin, flt_i, suffices, learn, await, use0, use1, use2}
use types.Logic.{sem}
use types.Run.{stop, fld, of_opd, no_more, and_then, returns, enter}
use types.ByLocal.{alloc_all, pass_all, free_all, look_at, get, get_in, sets}
use types.Part.{agg, sub, whole as all_of_it}
use types.Tokens.{lft_new, bor_new}
use contract.BorrowLft.{◌⊑◌, meet_⊑_left, meet_⊑_right}
use contract.Monad.{fact, fact_i, fact_use}
use contract.Running.{tables}
use denote.Exit.{no}
use denote.Memory.{lone}
use denote.Param.{layouts, param, layout}
use denote.Param.Laws.{Laws, param_laws}
use denote.RattleType.{RattleType, owns}
use denote.RawPtr.{Testable, lies_at, count_of}
use denote.Signature.{types_at, plain}
use denote.Steps.{nothing, heard}
use denote.Struct.Lending.{lent_at, Lends-lies}
use denote.Struct.Owning.{shape}
use denote.Struct.Tuple.{Tuple}
use denote.Triple.Walked.{Stays, stay_dropped, walk_of}
use Rattle.std.proofs.GlobalToken.{dealloc_token-Testable}
use Rattle.std.proofs.alloc.Calls.{Goes-blank}
use Rattle.std.proofs.alloc.Global.TheLaws as heap_laws
use Rattle.std.proofs.raw_atomic.Walks.{proved_at, leaves}
use Rattle.std.specs.contracts.alloc.Global as heap
use Rattle.std.specs.contracts.impls.GlobalAllocator.TheImpl.{ghosts}
use Rattle.protolink_c.proofs.BoxWord as pointer
use Rattle.protolink_c.proofs.Counting.{all_of}
use Rattle.protolink_c.proofs.PairWord.{two, two_good, pair_made}
use Rattle.protolink_c.proofs.PointerWord.{word, word_good, pointer_good, Data, made}
use Rattle.protolink_c.specs.Parted.{parts, whole}
use Rattle.protolink_c.specs.contracts.part.Deed as deed
use Rattle.protolink_c.specs.contracts.part.Part as part
use Rattle.protolink_c.specs.contracts.part.freeze as f
use Rattle.protolink_c.specs.contracts.part.freeze.Key.{name as #self}
use Rattle.protolink_c.proofs.part.freeze.Statement.{statement}
use Rattle.protolink_c.proofs.part.freeze.Code as code

abbrev Z : RattleType
Z = heap.the_row

abbrev LZ : Laws Z
LZ = heap_laws.the_row_laws

pub freeze_spec : {M : Type 1} → statement M
freeze_spec 𝓤 𝓛 𝓜 𝓡 wired Y L =
    let H = 𝓛.H in let 𝓣 = tables 𝓤 H 𝓜 𝓡 𝓡.env in let c = f.clauses Y 𝓛 𝓜.mem 𝓡.returns in
    let T = f.ended Y in let Ts : Args = layouts (a_type ∷ []) (Y, tt) in let fn : Fn = inst_fn Ts code.function in
    let R : RattleType = param 0 Y in let P : RattleType = part.the_row R in let K : RattleType = deed.the_row R in let B : RattleType = pointer.Pointer R Z LZ ghosts in
    let S = shape (deed.the_type R) in let S' = shape (part.the_type R) in
    let hs : Stays T.signature.params T.kept = (stay_dropped (plain (λ _. B)) no, tt) in
    proved_at 𝓛 T hs c 𝓜 𝓡 (Goes-blank 𝓛 1 (plain (λ _. B)) no (λ κs x w. tt), tt) (#self Ts) fn (code.unfolded 𝓤 H 𝓜 𝓡 wired (Y, tt)) (λ z are.
    let κs = z.0.0 in let κ = κs.0 in let q = z.0.1.0 in let v = z.0.3.0 in let p = v.address in let x = v.content in let w : Val = word p in
    let Post : Val → SProp 𝓤 = (walk_of 𝓛 T hs c).post z in let Run : List Val → SProp 𝓤 = λ ws. WpFn 𝓤 H 𝓣.C 𝓣.Λ fn ws Post in
    let there : Fml = lies_at R full_share p x in let frees : Fml = ghosts.dealloc_token v.allocator (bare (lone R.mir)) p in
    qed 𝓛 (((‵ (flft κ q) ⊛ ‵ ftrue) ⊛ ‵ (owns (types_at T.signature.params κs) z.0.3 z.0.4)) ∷ (raw (fact 𝓤 (κ ⊑ Y.lives)) ⊛ ‵ ftrue) ∷ []) ∵
    split ! $ move ! (2 ∷ []) $ split ! $ heard ! (κ ⊑ Y.lives) (λ lives. drop ! $ split ! $ move ! (2 ∷ []) $ fsplit ! $
    pointer.opened R Z LZ ghosts ! v z.0.4.0 (λ h ws fits. let u : Val = pointer.word p h in
    -- [the box; the allocator; ..; the token; ..]
    keep ! (0 ∷ 3 ∷ []) $
    suffices ! (Run (u ∷ [])) (subst (λ (us : List Val). ent 𝓤 (Run (u ∷ [])) (Run us)) (λ i. sym ws i ++ []) (id⊢ 𝓤 (Run (u ∷ [])))) $
    fsplit ! $ move ! (1 ∷ []) $
    use1 𝓛 (given (Testable p) (‵ frees)) (fact_use 𝓤 (Testable p) (dealloc_token-Testable 𝓛 v.allocator (bare (lone R.mir)) p) (guard_i 𝓤 (Testable p) (sem 𝓛 frees))) $ learn ! (λ low.
    -- [the right to free; the value; the token]
    enter ! 𝓣.C 𝓣.Λ fn (u ∷ []) Post $ alloc_all ! (λ l. pass_all ! refl (pointer.word_typed R Z LZ ghosts 𝓛 p h fits, tt) $
    lft_new ! tt (λ α. let ν : Lft = α ∷ [] in let ts : Toks = (κ, q) ∷ (ν, full_share) ∷ [] in
    let rest : K.Denot = record { address = p; content = x; round = α } in let all : P.Denot = record { address = p; content = x; round = α; count = whole } in
    move ! (2 ∷ []) $ bor_new ! tt ν $
    -- [the loan; its way back; the round's token; the right to free; the token]
    move ! (4 ∷ 2 ∷ []) $ join ! $ move ! (1 ∷ 0 ∷ []) $
    use2 𝓛 (later (‵ (lent_at R p x ν) ⊛ (‵ (flft κ q) ⊛ ‵ (flft ν full_share)))) (Lends-lies 𝓛 R R.lives p x ((param_laws 0 Y L).shares 𝓛 x) ν ts (Incl-trans (meet_⊑_left κ ν) lives) (meet_⊑_right κ ν)) $
    await ! tt $ split ! $ move ! (1 ∷ []) $ split ! $ move ! (1 ∷ []) $ use1 𝓛 (‵ (parts α whole)) (all_of 𝓛 α) $
    -- [the parts; the token; what is lent; the way back; the right to free]
    move ! (2 ∷ []) $ flt_i ! (count_of p) (2 ^ 63) low $ move ! (1 ∷ 0 ∷ []) $ fjoin ! $ move ! (1 ∷ 0 ∷ []) $ fjoin ! $ move ! (2 ∷ 3 ∷ []) $ fjoin ! $
    -- [what is kept back; the parts; the token]
    sets ! (of_opd ! (get_in ! (fld ! refl (stop !)) (sub ! 0 refl (all_of_it !)))) refl (pointer_good p) $
    sets ! (agg ! (and_then ! (get ! refl) (no_more !))) refl (word_good [] p) $
    sets ! (agg ! (and_then ! (get ! refl) (no_more !))) refl (word_good [] p) $
    sets ! (agg ! (and_then ! (get ! refl) (and_then ! (get ! refl) (no_more !)))) refl (two_good (layout K) (layout P) w w (word_good [] p) (word_good [] p)) $
    returns ! (look_at ! 0 refl) $ free_all ! refl $
    use0 𝓛 (‵ ((Data S).own_val (p, tt) (w ∷ []))) (made S 𝓛 p) $ fjoin ! $ move ! (1 ∷ []) $
    use0 𝓛 (‵ ((Data S').own_val (p, tt) (w ∷ []))) (made S' 𝓛 p) $ fjoin ! $ move ! (1 ∷ 0 ∷ []) $
    use2 𝓛 (‵ ((Tuple (K ∷ P ∷ [])).own_val (rest, all) (two w w ∷ []))) (pair_made 𝓛 K P (rest, all) w w) $
    move ! (1 ∷ []) $ nothing ! $ move ! (1 ∷ 0 ∷ []) $ join ! $ move ! (1 ∷ 0 ∷ []) $
    use0 𝓛 (raw (fact 𝓤 (whole ≡ whole))) (fact_i 𝓤 (whole ≡ whole) (emp 𝓤) refl) $ use0 𝓛 (raw (fact 𝓤 (α ≡ α))) (fact_i 𝓤 (α ≡ α) (emp 𝓤) refl) $ join ! $
    use0 𝓛 (raw (fact 𝓤 (x ≡ x))) (fact_i 𝓤 (x ≡ x) (emp 𝓤) refl) $ join ! $ use0 𝓛 (raw (fact 𝓤 (x ≡ x))) (fact_i 𝓤 (x ≡ x) (emp 𝓤) refl) $ join ! $
    nothing ! $ nothing ! $ fjoin ! $ keep ! (3 ∷ 0 ∷ 2 ∷ 1 ∷ []) $
    by ! (leaves 𝓛 T hs c z (two w w) (rest, all) (tt, tt) (tt, tt))))))))
