-- `thaw` keeps the deed's pointer: the round is over, and what was lent for it is back.
use Rattle.std.proofs.Common.{◌≡◌, ℕ, List, [], ◌∷◌, ◌++◌, refl, sym, subst}
use mir.MapTy.{inst_fn}
use mir.Syntax.{Args, Fn, a_type}
use mir.Val.{Val}
use base.Fml.{flft}
use base.Fraction.{full_share}
use base.Logic.{SProp, ent, emp, id⊢}
use prog.Wp.{WpFn}
use types.Kit.{‵, raw, ◌⊛◌, ◌$◌, ◌∵◌, !, qed, by, move, keep, drop, split, fsplit, fjoin, suffices, use0, use1, rewrite}
use types.Run.{stop, fld, of_opd, no_more, and_then, returns, enter}
use types.ByLocal.{alloc_all, pass_all, free_all, look_at, get, get_in, sets}
use types.Part.{agg, sub, whole as all_of_it}
use types.Tokens.{lft_end, lent_back}
use contract.BorrowLft.{◌⊑◌}
use contract.Monad.{fact, fact_i}
use contract.Running.{tables}
use denote.Exit.{no}
use denote.Laws.{Is, shows}
use denote.Param.{layouts, param}
use denote.Param.Laws.{Laws}
use denote.RattleType.{RattleType, owns}
use denote.Signature.{types_at, plain}
use denote.Steps.{nothing, heard, peeks}
use denote.Struct.Owning.{shape}
use denote.Triple.Entry.{alive}
use denote.Triple.Walked.{Stays, stay_dropped, walk_of}
use Rattle.std.proofs.alloc.Calls.{Al, Goes-blank, handle_tells}
use Rattle.std.proofs.alloc.Global.TheLaws as heap_laws
use Rattle.std.proofs.raw_atomic.Walks.{proved_at, leaves}
use Rattle.std.specs.contracts.alloc.Global as heap
use Rattle.std.specs.contracts.impls.GlobalAllocator.TheImpl as global
use Rattle.protolink_c.proofs.BoxWord as pointer
use Rattle.protolink_c.proofs.Counting.{all_back}
use Rattle.protolink_c.proofs.PointerWord.{word, word_good, pointer_good, Data, told}
use Rattle.protolink_c.specs.Parted.{parts, whole}
use Rattle.protolink_c.specs.contracts.part.Deed as deed
use Rattle.protolink_c.specs.contracts.part.Part as part
use Rattle.protolink_c.specs.contracts.part.thaw as f
use Rattle.protolink_c.specs.contracts.part.thaw.Key.{name as #self}
use Rattle.protolink_c.proofs.part.thaw.Statement.{statement}
use Rattle.protolink_c.proofs.part.thaw.Code as code

abbrev Z : RattleType
Z = heap.the_row

abbrev LZ : Laws Z
LZ = heap_laws.the_row_laws

abbrev al : Al
al = record { row = Z; laws = LZ; g = global.ghosts; d = global.dict; drops = global.dict }

pub thaw_spec : {M : Type 1} → statement M
thaw_spec 𝓤 𝓛 𝓜 𝓡 wired Y L =
    let H = 𝓛.H in let 𝓣 = tables 𝓤 H 𝓜 𝓡 𝓡.env in let c = f.clauses Y 𝓛 𝓜.mem 𝓡.returns in
    let T = f.ended Y in let Ts : Args = layouts (a_type ∷ []) (Y, tt) in let fn : Fn = inst_fn Ts code.function in
    let R : RattleType = param 0 Y in let P : RattleType = part.the_row R in let K : RattleType = deed.the_row R in
    let S = shape (deed.the_type R) in let D = Data S in let S' = shape (part.the_type R) in let D' = Data S' in
    let hs : Stays T.signature.params T.kept = (stay_dropped (plain (λ _. Z)) T.kept.0, (stay_dropped (plain (λ _. K)) no, (stay_dropped (plain (λ _. P)) no, tt))) in
    proved_at 𝓛 T hs c 𝓜 𝓡 (Goes-blank 𝓛 1 (plain (λ _. Z)) T.kept.0 (λ κs x w. tt), (Goes-blank 𝓛 1 (plain (λ _. K)) no (λ κs x w. tt), (Goes-blank 𝓛 1 (plain (λ _. P)) no (λ κs x w. tt), tt)))
    (#self Ts) fn (code.unfolded 𝓤 H 𝓜 𝓡 wired (Y, tt)) (λ z are.
    let κs = z.0.0 in let a = z.0.3.0 in let d = z.0.3.1.0 in let v = z.0.3.1.1.0 in let p = d.address in
    let Post : Val → SProp 𝓤 = (walk_of 𝓛 T hs c).post z in let Run : List Val → SProp 𝓤 = λ ws. WpFn 𝓤 H 𝓣.C 𝓣.Λ fn ws Post in
    qed 𝓛 ((raw (alive 𝓛 T.signature κs z.0.1) ⊛ ‵ (owns (types_at T.signature.params κs) z.0.3 z.0.4))
    ∷ (raw (fact 𝓤 (κs.0 ⊑ Y.lives)) ⊛ (raw (fact 𝓤 (v.round ≡ d.round)) ⊛ raw (fact 𝓤 (v.count ≡ whole)))) ∷ []) ∵
    split ! $ move ! (2 ∷ []) $ split ! $ drop ! $ split ! $ heard ! (v.round ≡ d.round) (λ same. heard ! (v.count ≡ whole) (λ full. move ! (1 ∷ []) $ fsplit ! $
    handle_tells al ! a z.0.4.0 (λ h eh fits. move ! (1 ∷ []) $ fsplit ! $ fsplit ! $
    peeks ! D (Is D) (shows 𝓛 D) (p, tt) z.0.4.1.0 (λ is. drop ! $ move ! (1 ∷ []) $ fsplit ! $ fsplit ! $
    peeks ! D' (Is D') (shows 𝓛 D') (v.address, tt) z.0.4.1.1.0 (λ is'. drop ! $ fsplit ! $
    rewrite ! 0 (λ (r : ℕ). ‵ (parts r v.count)) same refl $ rewrite ! 0 (λ (n : ℕ). ‵ (parts d.round n)) full refl $ use1 𝓛 (‵ (flft (d.round ∷ []) full_share)) (all_back 𝓛 d.round) $
    -- [the token of the round; ..; ..; what was kept back; the allocator; the tokens]
    keep ! (0 ∷ 3 ∷ 4 ∷ 5 ∷ []) $
    suffices ! (Run (h ∷ word p ∷ word v.address ∷ [])) (subst (λ (us : List Val × (List Val × List Val)). ent 𝓤 (Run (h ∷ word p ∷ word v.address ∷ [])) (Run (us.0 ++ (us.1.0 ++ (us.1.1 ++ [])))))
    (λ i. (sym eh i, (sym (told S p z.0.4.1.0 is) i, sym (told S' v.address z.0.4.1.1.0 is') i))) (id⊢ 𝓤 (Run (h ∷ word p ∷ word v.address ∷ [])))) $
    enter ! 𝓣.C 𝓣.Λ fn (h ∷ word p ∷ word v.address ∷ []) Post $ alloc_all ! (λ l. pass_all ! refl (fits, (word_good [] p, (word_good [] v.address, tt))) $
    lft_end ! tt $ move ! (1 ∷ []) $ fsplit ! $ move ! (2 ∷ 0 ∷ []) $ lent_back ! tt $ fjoin ! $
    -- [the box; the allocator; the tokens]
    sets ! (of_opd ! (get_in ! (fld ! refl (stop !)) (sub ! 0 refl (all_of_it !)))) refl (pointer_good p) $
    sets ! (agg ! (and_then ! (get ! refl) (and_then ! (get ! refl) (no_more !)))) refl (pointer.word_typed R Z LZ global.ghosts 𝓛 p h fits) $
    returns ! (look_at ! 0 refl) $ free_all ! refl $
    pointer.closed R Z LZ global.ghosts ! (record { address = p; allocator = a; content = d.content }) h $
    use0 𝓛 (raw (fact 𝓤 (d.content ≡ d.content))) (fact_i 𝓤 (d.content ≡ d.content) (emp 𝓤) refl) $
    nothing ! $ nothing ! $ fjoin ! $ nothing ! $ fjoin ! $ nothing ! $ fjoin ! $ keep ! (3 ∷ 0 ∷ 2 ∷ 1 ∷ []) $
    by ! (leaves 𝓛 T hs c z (pointer.word p h) (record { address = p; allocator = a; content = d.content }) (tt, (tt, (tt, tt))) (tt, (tt, (tt, tt)))))))))))
