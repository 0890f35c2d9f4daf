-- `into_pointer` hands its box to `into_raw_with_allocator` unopened, and makes a pointer of the pair that it answers.
use Rattle.std.proofs.Common.{◌≡◌, List, [], ◌∷◌, ◌++◌, refl, sym, ap, subst}
use seplogic.Ra.Ura.{Ura}
use mir.MapTy.{inst_fn}
use mir.Syntax.{Args, Fn, a_type, dcons, dnil}
use mir.Val.{Val}
use base.Logic.{SProp, ent, emp, id⊢}
use prog.Memory.{Memory}
use prog.Routine.{Routine}
use prog.Wp.{Calls, Loops, WpFn}
use sound.WpLaws.{FmC}
use types.Kit.{‵, raw, ◌⊛◌, some, later, ◌$◌, ◌∵◌, !, qed, by, move, drop, split, fjoin, pick, rewrite, use0, use1, await}
use types.Logic.{Logic}
use types.Run.{stop, fld, of_opd, and_then, no_more, returns, enter}
use types.ByLocal.{alloc_all, pass_all, free_all, look_at, get, get_in, sets, lands_as}
use types.Part.{agg, sub, whole}
use contract.Lifetimes.{Lfts, Shares}
use contract.Monad.{Fun, fact, fact_i}
use contract.Running.{tables}
use denote.Exit.{no}
use denote.Param.{layout, bounded}
use denote.RawPtr.{Ptr}
use denote.Signature.{plain}
use denote.Steps.{nothing, heard, only}
use denote.Triple.Call.{calls_at}
use denote.Triple.Clauses.{Clauses, Ended, Lasts, lasts}
use denote.Triple.Entry.{Args as Parts, alive}
use denote.Triple.Spec.{triple_of}
use denote.Triple.Statement.{Contract, Triple}
use denote.Triple.Table.{framed}
use denote.Triple.Walked.{Stays, stay_dropped, walk_of}
use Rattle.std.proofs.alloc.Calls.{Goes-blank}
use Rattle.std.proofs.raw_atomic.Walks.{proved_at, leaves}
use Rattle.std_alloc.specs.Box.Ownership.{box_owns}
use Rattle.std_alloc.specs.contracts.boxed.Box.into_raw_with_allocator as into_raw
use Rattle.std_alloc.proofs.boxed.Box.into_raw_with_allocator.Met as into_raw_met
use Rattle.std_alloc.proofs.boxed.Box.into_raw_with_allocator.Symbol.{name as #into_raw}
use Rattle.protolink_c.proofs.BoxBounds.{Bounds, R, A, A-laws, B, B-laws, passed}
use Rattle.protolink_c.proofs.BoxWord.{Typed_as, lone_value, pointer_typed, word, word_typed, Pair, pair_opened, closed}
use Rattle.protolink_c.specs.contracts.box_pointer.into_pointer as into_pointer
use Rattle.protolink_c.specs.contracts.box_pointer.into_pointer.Key.{name as #self}
use Rattle.protolink_c.proofs.box_pointer.into_pointer.Statement.{statement}
use Rattle.protolink_c.proofs.box_pointer.into_pointer.Code as code

module _ (E : Bounds) where
  open E use {Y, Z, g, d, drops, frees}

  abbrev asked : Args
  asked = bounded (a_type ∷ a_type ∷ []) (Y, (Z, tt)) (dcons d (dcons frees (dcons drops dnil)))

  abbrev fn : Fn
  fn = inst_fn (passed E) code.function

  abbrev ended : Ended
  ended = into_pointer.ended Y Z g d drops frees

  abbrev answered : Ended
  answered = into_raw.ended Y Z g d frees drops

  abbrev stayed : Stays ended.signature.params ended.kept
  stayed = (stay_dropped (plain (λ _. B E)) no, tt)

  module _ {M : Type 1} {𝓤 : Ura M} (𝓛 : Logic 𝓤) (mem : Memory → SProp 𝓤) (run : Routine → Fun 𝓤) (C : Calls 𝓤 𝓛.H) (Λ : Loops 𝓤 𝓛.H) (fm : FmC 𝓤 𝓛.H 𝓛.laws C) where
    abbrev c : Clauses 𝓤 ended
    c = into_pointer.clauses Y Z g d drops frees 𝓛 mem run

    abbrev Called : Contract 𝓤
    Called = triple_of 𝓛 (into_raw.signature Y Z g d frees drops) (into_raw.spec Y Z g d frees drops 𝓛 mem run)

    module _ (met : Triple 𝓤 (C (#into_raw asked)) Called) (κs : Lfts 2) (qs : Shares 2) (a : Parts ended.signature κs) where
      abbrev given : List Val → (walk_of 𝓛 ended stayed c).Ghost
      given vs = ((κs, qs, tt, a, (vs, tt)), tt)

      walk : (v : Val) → Typed_as (layout (B E)) v → ent 𝓤 ((walk_of 𝓛 ended stayed c).pre (given (v ∷ []))) (WpFn 𝓤 𝓛.H C Λ fn (v ∷ []) ((walk_of 𝓛 ended stayed c).post (given (v ∷ []))))
      walk v ok =
          let y = given (v ∷ []) in
          qed 𝓛 (raw (Called.pre y) ∷ []) ∵ enter ! C Λ fn (v ∷ []) _ $ alloc_all ! (λ l. pass_all ! refl (ok, tt) $
          sets ! (of_opd ! (get ! refl)) refl ok $
          calls_at ! fm Called met y (and_then ! (get ! refl) (no_more !)) (λ u.
          use1 𝓛 (later (some (λ (r : Ptr × Z.Denot). (raw (alive 𝓛 ended.signature κs qs) ⊛ ‵ ((Pair (R E) (A E) (A-laws E) g).own_val r (u ∷ []))) ⊛ some (λ (ws : Lasts answered κs a). ‵ (lasts answered κs a ws)
          ⊛ (raw (fact 𝓤 (r.1 ≡ a.0.alloc)) ⊛ ‵ (box_owns (g.dealloc_token a.0.alloc) (R E) r.0 a.0.value)))))) (id⊢ 𝓤 _) $
          await ! tt $ pick ! (λ r. split ! $ split ! $ move ! (2 ∷ []) $ pick ! (λ ws. split ! $ drop ! $ split ! $ heard ! _ (λ same.
          rewrite ! 0 (λ (x : Z.Denot). ‵ (box_owns (g.dealloc_token x) (R E) r.0 a.0.value)) (sym same) refl $
          -- [the memory; the tokens; the pair]
          move ! (2 ∷ []) $ pair_opened (R E) (A E) (A-laws E) g ! r u (λ h is fits. let made = word_typed (R E) (A E) (A-laws E) g 𝓛 r.0 h fits in let at = pointer_typed 𝓛 r.0 in
          lands_as ! (ap only is) refl made $
          sets ! (of_opd ! (get_in ! (fld ! refl (stop !)) (sub ! 0 refl (whole !)))) refl at $
          sets ! (of_opd ! (get_in ! (fld ! refl (stop !)) (sub ! 1 refl (whole !)))) refl fits $
          sets ! (agg ! (and_then ! (get ! refl) (and_then ! (get ! refl) (no_more !)))) refl made $
          returns ! (look_at ! 0 refl) $ free_all ! refl $
          -- [the allocator; the memory; the tokens]
          move ! (1 ∷ 0 ∷ []) $ closed (R E) (A E) (A-laws E) g ! (record { address = r.0; allocator = r.1; content = a.0.value }) h $
          use0 𝓛 (raw (fact 𝓤 (a.0.value ≡ a.0.value))) (fact_i 𝓤 (a.0.value ≡ a.0.value) (emp 𝓤) refl) $
          nothing ! $ nothing ! $ fjoin ! $ move ! (3 ∷ 0 ∷ 2 ∷ 1 ∷ []) $
          by ! (leaves 𝓛 ended stayed c y (word r.0 h) (record { address = r.0; allocator = r.1; content = a.0.value }) ((tt, (tt, tt)), tt) (tt, tt))))))))

pub into_pointer_spec : {M : Type 1} → statement M
into_pointer_spec 𝓤 𝓛 𝓜 𝓡 wired Y Z L LZ g d drops frees met drops_met frees_met =
    let E : Bounds = record { Y = Y; Z = Z; laws = L; Z-laws = LZ; g = g; d = d; drops = drops; frees = frees } in
    let H = 𝓛.H in let 𝓣 = tables 𝓤 H 𝓜 𝓡 𝓡.env in
    let c = into_pointer.clauses Y Z g d drops frees 𝓛 𝓜.mem 𝓡.returns in
    let called = into_raw_met.met 𝓤 𝓛 𝓜 𝓡 (code.calls-std_alloc::boxed::Box::into_raw_with_allocator 𝓡.env wired) Y Z L LZ g d frees drops met frees_met drops_met in
    proved_at 𝓛 (ended E) (stayed E) c 𝓜 𝓡 (Goes-blank 𝓛 2 (plain (λ _. B E)) no (λ κs x f. tt), tt)
    (#self (passed E)) (fn E) (code.unfolded 𝓤 H 𝓜 𝓡 wired (Y, (Z, tt)) d drops frees) (λ z are.
    let one = lone_value 𝓛 (B E) (B-laws E) z.0.3.0 z.0.4.0 are.0 in
    let y = given E 𝓛 𝓜.mem 𝓡.returns 𝓣.C 𝓣.Λ (framed 𝓤 H 𝓜 𝓣) called z.0.0 z.0.1 z.0.3 in
    let W = walk_of 𝓛 (ended E) (stayed E) c in
    subst (λ (vs : List Val). ent 𝓤 (W.pre (y vs)) (WpFn 𝓤 H 𝓣.C 𝓣.Λ (fn E) (vs ++ []) (W.post (y vs)))) (sym one.1.0)
    (walk E 𝓛 𝓜.mem 𝓡.returns 𝓣.C 𝓣.Λ (framed 𝓤 H 𝓜 𝓣) called z.0.0 z.0.1 z.0.3 one.0 one.1.1))
