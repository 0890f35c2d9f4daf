-- `from_pointer` hands the address, the allocator and the memory of the box to `from_raw`.
use Rattle.std.proofs.Common.{◌≡◌, List, [], ◌∷◌, ◌++◌, refl, sym, subst}
use seplogic.Ra.Ura.{Ura}
use mir.MapTy.{inst_fn}
use mir.Syntax.{Args, Fn, a_type, dcons, dnil}
use mir.Val.{Val}
use base.Logic.{SProp, ent, emp, id⊢}
use base.Fml.{ftrue}
use prog.Memory.{Memory}
use prog.Routine.{Routine}
use prog.Wp.{Calls, Loops, WpFn}
use sound.WpLaws.{FmC}
use types.Kit.{‵, raw, ◌⊛◌, some, later, at_ret, ◌$◌, ◌∵◌, !, qed, by, move, drop, split, join, fsplit, fjoin, feq_i, pick, suffices, use0, use1, await}
use types.Logic.{Logic}
use types.Run.{stop, fld, of_opd, and_then, no_more, first, blocks, exec, returns, enter}
use types.ByLocal.{alloc_all, pass_all, free_all, look_at, get, get_in, sets, lands_last, env}
use types.Part.{sub, whole}
use contract.BorrowLft.{◌⊑◌}
use contract.Lifetimes.{Lfts, Shares}
use contract.Monad.{Fun, fact, fact_i}
use contract.Running.{tables}
use denote.Exit.{no}
use denote.Laws.{Is, shows}
use denote.Param.{bounded}
use denote.RattleType.{owns}
use denote.RawPtr.{ptr_val}
use denote.Signature.{types_at, plain}
use denote.Steps.{nothing, heard, peeks}
use denote.Triple.Call.{calls_at_last}
use denote.Triple.Clauses.{Clauses, Ended, Lasts, lasts}
use denote.Triple.Entry.{Args as Parts, alive}
use denote.Triple.Spec.{triple_of}
use denote.Triple.Statement.{Contract, Triple}
use denote.Triple.Table.{framed}
use denote.Triple.Walked.{Stays, stay_dropped, walk_of}
use Rattle.std.proofs.VecSteps.Shapes.{after}
use Rattle.std.proofs.alloc.Calls.{Goes-blank}
use Rattle.std.proofs.raw_atomic.Walks.{proved_at, leaves}
use Rattle.std_alloc.specs.contracts.boxed.Box.from_raw as from_raw
use Rattle.std_alloc.proofs.boxed.Box.from_raw.Symbol.{name as #from_raw}
use Rattle.std_alloc.proofs.boxed.Box.from_raw.Met as from_raw_met
use Rattle.protolink_c.proofs.BoxBounds.{Bounds, R, A, A-laws, B, B-laws, passed}
use Rattle.protolink_c.proofs.BoxWord.{pointer_typed, word, word_typed, Pointer, opened}
use Rattle.protolink_c.specs.contracts.box_pointer.from_pointer as from_pointer
use Rattle.protolink_c.specs.contracts.box_pointer.from_pointer.Key.{name as #self}
use Rattle.protolink_c.proofs.box_pointer.from_pointer.Statement.{statement}
use Rattle.protolink_c.proofs.box_pointer.from_pointer.Code as code

module _ (E : Bounds) where
  open E use {Y, Z, g, d, drops, frees}

  abbrev asked : Args
  asked = bounded (a_type ∷ a_type ∷ []) (Y, (Z, tt)) (dcons d (dcons frees dnil))

  abbrev fn : Fn
  fn = inst_fn (passed E) code.function

  abbrev ended : Ended
  ended = from_pointer.ended Y Z g d drops frees

  abbrev answered : Ended
  answered = from_raw.ended Y Z g d frees

  abbrev stayed : Stays ended.signature.params ended.kept
  stayed = (stay_dropped (plain (λ _. Pointer (R E) (A E) (A-laws E) g)) no, tt)

  module _ {M : Type 1} {𝓤 : Ura M} (𝓛 : Logic 𝓤) (mem : Memory → SProp 𝓤) (run : Routine → Fun 𝓤) (C : Calls 𝓤 𝓛.H) (Λ : Loops 𝓤 𝓛.H) (fm : FmC 𝓤 𝓛.H 𝓛.laws C) where
    abbrev c : Clauses 𝓤 ended
    c = from_pointer.clauses Y Z g d drops frees 𝓛 mem run

    abbrev Called : Contract 𝓤
    Called = triple_of 𝓛 (from_raw.signature Y Z g d frees) (from_raw.spec Y Z g d frees 𝓛 mem run)

    module _ (met : Triple 𝓤 (C (#from_raw asked)) Called) (y : (walk_of 𝓛 ended stayed c).Ghost) where
      abbrev κs : Lfts 2
      κs = y.0.0

      abbrev qs : Shares 2
      qs = y.0.1

      abbrev pointer : (Pointer (R E) (A E) (A-laws E) g).Denot
      pointer = y.0.3.0

      abbrev Post : Val → SProp 𝓤
      Post = (walk_of 𝓛 ended stayed c).post y

      abbrev Pre : SProp 𝓤
      Pre = (c y.0.0 y.0.3).requires tt

      walk : ent 𝓤 ((walk_of 𝓛 ended stayed c).pre y) (WpFn 𝓤 𝓛.H C Λ fn (y.0.4.0 ++ []) Post)
      walk =
          qed 𝓛 ((raw (alive 𝓛 ended.signature y.0.0 y.0.1) ⊛ ‵ (owns (types_at ended.signature.params y.0.0) y.0.3 y.0.4)) ∷ raw Pre ∷ []) ∵
          split ! $ move ! (1 ∷ []) $ fsplit ! $ opened (R E) (A E) (A-laws E) g ! pointer y.0.4.0 (λ h is fits.
          let w = word pointer.address h in let at = pointer_typed 𝓛 pointer.address in let Run : List Val → SProp 𝓤 = λ us. WpFn 𝓤 𝓛.H C Λ fn us Post in
          let parts : Parts answered.signature κs = (pointer.allocator, (pointer.address, tt)) in
          let z : Called.Ghost = ((κs, qs, tt, parts, (h ∷ [], (ptr_val pointer.address ∷ [], tt))), pointer.content) in
          suffices ! (Run (w ∷ [])) (subst (λ (us : List Val). ent 𝓤 (Run (w ∷ [])) (Run us)) (λ i. sym is i ++ []) (id⊢ 𝓤 (Run (w ∷ [])))) $
          -- [the memory; the allocator; the end of a list; the tokens; that they live long enough]
          move ! (4 ∷ []) $ use1 𝓛 (raw (fact 𝓤 (κs.0 ⊑ Y.lives)) ⊛ (raw (fact 𝓤 (κs.1.0 ⊑ Z.lives)) ⊛ ‵ ftrue)) (id⊢ 𝓤 _) $ split ! $ move ! (1 ∷ []) $ split ! $
          move ! (0 ∷ 3 ∷ []) $ join ! $ move ! (2 ∷ 0 ∷ []) $ join ! $
          -- [what it asks; the end; the allocator; ..; the tokens]
          move ! (1 ∷ []) $ feq_i ! (List Val) (ptr_val pointer.address ∷ []) (ptr_val pointer.address ∷ []) refl $ fjoin ! $ move ! (2 ∷ 0 ∷ []) $ fjoin ! $
          move ! (3 ∷ 0 ∷ []) $ join ! $ join ! $ use1 𝓛 (raw (Called.pre z)) (id⊢ 𝓤 _) $
          enter ! C Λ fn (w ∷ []) _ $ alloc_all ! (λ l. pass_all ! refl (word_typed (R E) (A E) (A-laws E) g 𝓛 pointer.address h fits, tt) $
          sets ! (of_opd ! (get_in ! (fld ! refl (stop !)) (sub ! 0 refl (whole !)))) refl at $
          sets ! (of_opd ! (get_in ! (fld ! refl (stop !)) (sub ! 1 refl (whole !)))) refl fits $
          first ! $ blocks ! $ sets ! (of_opd ! (get ! refl)) refl fits $
          calls_at_last ! fm Called met z (and_then ! (get ! refl) (and_then ! (get ! refl) (no_more !))) (λ u.
          use1 𝓛 (later (some (λ (r : (B E).Denot). (raw (alive 𝓛 ended.signature κs qs) ⊛ ‵ ((B E).own_val r (u ∷ []))) ⊛ some (λ (ws : Lasts answered κs parts). ‵ (lasts answered κs parts ws)
          ⊛ (raw (fact 𝓤 (r.value ≡ pointer.content)) ⊛ raw (fact 𝓤 (r.alloc ≡ pointer.allocator))))))) (id⊢ 𝓤 _) $
          await ! tt $ pick ! (λ r. split ! $ split ! $ move ! (2 ∷ []) $ pick ! (λ ws. split ! $ drop ! $ split ! $ heard ! _ (λ told. drop ! $ move ! (1 ∷ []) $
          -- [the box; the tokens; the end]
          peeks ! (B E) (Is (B E)) (shows 𝓛 (B E)) r (u ∷ []) (λ shown. let ok = (((B-laws E).lawful 𝓛).typed r (u ∷ []) shown).0 in
          lands_last ! refl ok $ exec ! C Λ (env (fn).locals l) (after 3 (fn).body) (at_ret (env (fn).locals l) Post) $
          sets ! (of_opd ! (get ! refl)) refl ok $ returns ! (look_at ! 0 refl) $ free_all ! refl $
          use0 𝓛 (raw (fact 𝓤 (r.value ≡ pointer.content))) (fact_i 𝓤 (r.value ≡ pointer.content) (emp 𝓤) told) $
          move ! (3 ∷ []) $ nothing ! $ fjoin ! $ move ! (3 ∷ 0 ∷ 2 ∷ 1 ∷ []) $
          by ! (leaves 𝓛 ended stayed c y u r ((tt, (tt, tt)), tt) (tt, tt)))))))))

pub from_pointer_spec : {M : Type 1} → statement M
from_pointer_spec 𝓤 𝓛 𝓜 𝓡 wired Y Z L LZ g d drops frees met drops_met frees_met =
    let E : Bounds = record { Y = Y; Z = Z; laws = L; Z-laws = LZ; g = g; d = d; drops = drops; frees = frees } in
    let H = 𝓛.H in let 𝓣 = tables 𝓤 H 𝓜 𝓡 𝓡.env in
    let c = from_pointer.clauses Y Z g d drops frees 𝓛 𝓜.mem 𝓡.returns in
    let called = from_raw_met.met 𝓤 𝓛 𝓜 𝓡 (code.calls-std_alloc::boxed::Box::from_raw 𝓡.env wired) Y Z L LZ g d frees met frees_met in
    proved_at 𝓛 (ended E) (stayed E) c 𝓜 𝓡 (Goes-blank 𝓛 2 (plain (λ _. Pointer (R E) (A E) (A-laws E) g)) no (λ κs x f. tt), tt)
    (#self (passed E)) (fn E) (code.unfolded 𝓤 H 𝓜 𝓡 wired (Y, (Z, tt)) d drops frees)
    (λ y are. walk E 𝓛 𝓜.mem 𝓡.returns 𝓣.C 𝓣.Λ (framed 𝓤 H 𝓜 𝓣) called y)
