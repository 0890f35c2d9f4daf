-- `get` follows the pointer, and its reference holds what one to the parts holds.
use Rattle.std.proofs.Common.{◌≡◌, ℕ, ◌+◌, List, [], ◌∷◌, refl}
use seplogic.Ra.Ura.{Ura}
use mir.MapTy.{inst_fn}
use mir.Syntax.{Args, Fn, named, a_type}
use mir.Val.{Val, vptr}
use base.Fml.{Lft, ftrue, fhide, flft}
use base.Logic.{SProp, ent, sep, emp}
use types.Logic.{Logic, sem}
use types.Kit.{‵, raw, ◌⊛◌, at_ret, ◌$◌, ◌∵◌, !, qed, by, move, keep, drop, use0, use1, split, join, fsplit, fjoin, feq_i, done}
use types.Run.{addr, look, stop, fld, hop, of_opd, first, blocks, exec, returns, enter}
use types.ByLocal.{alloc_all, pass_all, free_all, look_at, get, through, sets, sets_last, env}
use contract.Monad.{fact, fact_i}
use contract.Running.{tables}
use denote.Builtin.{RefOf}
use denote.Exit.{yes}
use denote.Memory.{hidden_shr}
use denote.Opens.{shr_dup, unhide, hide}
use denote.Param.{layouts, param}
use denote.Param.Laws.{Laws, param_laws}
use denote.RattleType.{RattleType, RowLaws, owns}
use denote.RawPtr.{RawPtr, block_of, count_of, InBlock, ptr_row_laws}
use denote.Ref.{ShrRef, shr_vals, shr_Tells}
use denote.Signature.{Slot, plain}
use denote.Steps.{heard, nothing}
use denote.Struct.Lending.{in_block_says, lent_out}
use denote.Struct.Owning.{shape}
use denote.Struct.Struct.{Struct, Struct-row_laws}
use denote.Triple.Walked.{Stays, stay_dropped, Goes-dropped, walk_of}
use Rattle.std.proofs.VecSteps.Shapes.{after}
use Rattle.std.proofs.Words.{pointer_in, pointer_out}
use Rattle.std.proofs.raw_atomic.Walks.{proved, leaves}
use Rattle.protolink_c.specs.contracts.part.Part as part
use Rattle.protolink_c.proofs.part.Part.TheLaws.{the_row_laws}
use Rattle.protolink_c.specs.contracts.part.Part.get as f
use Rattle.protolink_c.specs.contracts.part.Part.get.Key.{name as #self}
use Rattle.protolink_c.proofs.part.Part.get.Statement.{statement}
use Rattle.protolink_c.proofs.part.Part.get.Code as code

module _ (Y : RattleType) where
  abbrev R : RattleType
  R = param 0 Y

  abbrev P : RattleType
  P = part.the_row R

  abbrev Data : RattleType
  Data = Struct (shape (part.the_type R))

  part_laws : Laws Y → RowLaws P
  part_laws L = (the_row_laws R (param_laws 0 Y L)).shr_laws

  data_shows : {M : Type 1} {𝓤 : Ura M} (𝓛 : Logic 𝓤) (κ : Lft) (b o : ℕ) (d : P.Denot)
      → ent 𝓤 (sem 𝓛 (hidden_shr Data κ (d.address, tt) b o)) (sep 𝓤 (sem 𝓛 (hidden_shr RawPtr κ d.address b (o + 0))) (sem 𝓛 (hidden_shr Data κ (d.address, tt) b o)))
  data_shows 𝓛 κ b o d = qed 𝓛 (‵ (hidden_shr Data κ (d.address, tt) b o) ∷ []) ∵ shr_dup ! Data (Struct-row_laws (shape (part.the_type R)) (ptr_row_laws, tt)) (d.address, tt) b o κ $ unhide ! $ fsplit ! $ fsplit ! $ hide ! $ keep ! (0 ∷ 3 ∷ []) $ done !

pub get_spec : {M : Type 1} → statement M
get_spec 𝓤 𝓛 𝓜 𝓡 wired Y L =
    let H = 𝓛.H in let 𝓣 = tables 𝓤 H 𝓜 𝓡 𝓡.env in let c = f.clauses Y 𝓛 𝓜.mem 𝓡.returns in
    let T = f.ended Y in let Ts : Args = layouts (a_type ∷ []) (Y, tt) in let fn : Fn = inst_fn Ts code.function in
    let self : Slot 2 = RefOf (0 ∷ []) tt (plain (λ _. P Y)) (λ _. tt) in let hs : Stays T.signature.params T.kept = (stay_dropped self yes, tt) in
    proved 𝓛 T hs c 𝓜 𝓡 (Goes-dropped 𝓛 2 self yes (λ κs x w. refl), tt) (#self Ts) fn (code.unfolded 𝓤 H 𝓜 𝓡 wired (Y, tt))
    (λ κs. (shr_vals, tt)) (λ κs. (shr_Tells (named 0) κs.0 (P Y), tt)) (λ κs qs bounds a g are.
    let κ = κs.0 in let q = qs.0 in let b = a.0.ref_ptr.0 in let o = a.0.ref_ptr.1 in let d = a.0.now in let p = d.address in
    let vs = shr_vals a.0 in let W = walk_of 𝓛 T hs c in let y : W.Ghost = ((κs, qs, bounds, a, (vs, tt)), g) in let Post : Val → SProp 𝓤 = W.post y in
    qed 𝓛 (((‵ (flft κ q) ⊛ (‵ (flft κs.1.0 qs.1.0) ⊛ ‵ ftrue)) ⊛ ‵ (owns (ShrRef (named 0) κ (P Y) ∷ []) a (vs, tt))) ∷ raw ((c κs a).requires g) ∷ []) ∵
    split ! $ split ! $ move ! (2 ∷ []) $ fsplit ! $ fsplit ! $ drop !
    $ use1 𝓛 (‵ (hidden_shr (Data Y) κ (p, tt) b o) ⊛ ‵ (fhide (part.the_lent (R Y) d p κ))) (lent_out 𝓛 (part.struct (R Y)) (part.the_codes Y.Denot (R Y).coded) (part.the_heap (R Y)) (part.the_lent (R Y)) κ d b o)
    $ split ! $ move ! (1 ∷ []) $ unhide ! $ fsplit ! $ use1 𝓛 (raw (fact 𝓤 (InBlock p))) (in_block_says 𝓛 p) $ heard ! (InBlock p) (λ inb. hide ! $
    -- [a reference to the fields; the token; a reference to the value; the other tokens]
    move ! (1 ∷ 3 ∷ 0 ∷ 4 ∷ []) $ enter ! 𝓣.C 𝓣.Λ fn vs Post $ alloc_all ! (λ l. pass_all ! refl ((tt, tt), tt) $
    first ! $ blocks ! $ pointer_in ! tt p inb b (o + 0) (data_shows Y 𝓛 κ b o d) (λ r.
    sets_last ! (addr ! (through ! refl (fld ! refl (hop ! (look ! 1 refl) (stop !))))) refl (tt, tt) $
    exec ! 𝓣.C 𝓣.Λ (env fn.locals l) (after 1 fn.body) (at_ret (env fn.locals l) Post) $ pointer_out ! tt p inb b (o + 0) $
    sets ! (of_opd ! (get ! refl)) refl (tt, tt) $ returns ! (look_at ! 0 refl) $ free_all ! refl $
    -- [the token; a reference to the fields; to the value; the other tokens]
    move ! (0 ∷ 3 ∷ []) $ join ! $ move ! (2 ∷ []) $ feq_i ! (List Val) (vptr (block_of p) (count_of p) ∷ []) (vptr (block_of p) (count_of p) ∷ []) refl $ fjoin ! $
    use0 𝓛 (raw (fact 𝓤 (d.content ≡ d.content))) (fact_i 𝓤 (d.content ≡ d.content) (emp 𝓤) refl) $ nothing ! $ nothing ! $ fjoin ! $
    keep ! (3 ∷ 0 ∷ 2 ∷ 1 ∷ []) $
    by ! (leaves 𝓛 T hs c y (vptr (block_of p) (count_of p)) (record { ref_ptr = (block_of p, count_of p); now = d.content }) (tt, tt) (tt, tt))))))
