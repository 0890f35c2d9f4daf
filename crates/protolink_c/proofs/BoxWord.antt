-- A pointer of a box by its machine value, a struct of the address and the allocator. Assumes `Logic`.
--     lone_value     what a type with laws owns is at one machine value, of that type
--     Pointer, word, word_typed     the type as a row;  its machine value;  which is of the type
--     pair_opened     the answer `(address, allocator)`, as the allocator
--     opened, closed     a pointer of a box, as the memory of the box and the allocator, and back
use Rattle.std.proofs.Common.{◌≡◌, List, [], ◌∷◌, ◌++◌, refl, sym, ◌∙◌, subst}
use lib.Dec.{T}
use seplogic.Ra.Ura.{Ura}
use mir.Syntax.{Ty, ty_ptr}
use mir.Val.{Val, vstruct, vcons, vnil, of_list, has_ty, WT}
use types.Logic.{Logic}
use types.Kit.{Goal, Step, step, Seq, Item, ‵, ◌$◌, move, drop, rewrite, fsplit, fjoin, fpick, fpack, feq_l, feq_i}
use denote.Laws.{Is, Typed, shows}
use denote.Param.{layout}
use denote.Param.Laws.{Laws}
use denote.RattleType.{RattleType, Valss}
use denote.RawPtr.{Ptr, RawPtr, ptr_val, rawptr_Lawful}
use denote.Steps.{nothing, peeks}
use denote.Struct.Owning.{shape}
use denote.Struct.Struct.{as_fields, within}
use denote.Struct.Tuple.{Tuple}
use Rattle.std.specs.declared.alloc.Allocator.{Ghosts}
use Rattle.std_alloc.specs.Box.Ownership.{box_owns}
use Rattle.protolink_c.specs.contracts.box_pointer.BoxPointer as pointer

abbrev pub Typed_as : Ty → Val → Type 0
Typed_as τ v = T (has_ty τ v) × WT v

alone : (τ : Ty) (vs : List Val) → Typed (τ ∷ []) vs → (v : Val) × ((vs ≡ v ∷ []) × Typed_as τ v)
alone τ [] t = absurd t
alone τ (v ∷ []) t = (v, (refl, t.0))
alone τ (v ∷ u ∷ us) t = absurd t.1

pub lone_value : {M : Type 1} {𝓤 : Ura M} (𝓛 : Logic 𝓤) (R : RattleType) (L : Laws R) (x : R.Denot) (vs : List Val) → Is R x vs → (v : Val) × ((vs ≡ v ∷ []) × Typed_as (layout R) v)
lone_value 𝓛 R L x vs is = alone (layout R) vs (subst (λ (τs : List Ty). Typed τs vs) L.one ((L.lawful 𝓛).typed x vs is))

pub pointer_typed : {M : Type 1} {𝓤 : Ura M} (𝓛 : Logic 𝓤) (p : Ptr) → Typed_as ty_ptr (ptr_val p)
pointer_typed 𝓛 p = ((rawptr_Lawful 𝓛).typed p (ptr_val p ∷ []) refl).0

abbrev pub word : Ptr → Val → Val
word p h = vstruct (vcons (ptr_val p) (vcons h vnil))

module _ (R Z : RattleType) (LZ : Laws Z) (g : Ghosts Z.Denot) where
  abbrev pub Pointer : RattleType
  Pointer = pointer.the_row R Z g

  abbrev pub Pair : RattleType
  Pair = Tuple (RawPtr ∷ Z ∷ [])

  pub word_typed : {M : Type 1} {𝓤 : Ura M} (𝓛 : Logic 𝓤) (p : Ptr) (h : Val) → Typed_as (layout Z) h → Typed_as (layout Pointer) (word p h)
  word_typed 𝓛 p h ok = as_fields (ty_ptr ∷ (Z.mir ++ [])) (ptr_val p ∷ h ∷ []) (pointer_typed 𝓛 p, subst (λ (τs : List Ty). Typed (τs ++ []) (h ∷ [])) (sym LZ.one) (ok, tt))

  module _ {M : Type 1} {𝓤 : Ura M} {𝓛 : Logic 𝓤} {K : Type 0} {Γ : List (Item 𝓤)} {G : Goal 𝓤 𝓛.H} where
    pub pair_opened : K → (r : Ptr × Z.Denot) (u : Val) → ((h : Val) → u ∷ [] ≡ word r.0 h ∷ [] → Typed_as (layout Z) h → Seq K 𝓛 (‵ (Z.own_val r.1 (h ∷ [])) ∷ Γ) G)
        → Seq K 𝓛 (‵ (Pair.own_val r (u ∷ [])) ∷ Γ) G
    pair_opened t r u next =
        fpick t (λ parts. fsplit t $ feq_l t (λ is. fsplit t $ feq_l t (λ at. fsplit t $
        peeks t Z (Is Z) (shows 𝓛 Z) r.1 parts.1.0 (λ own. let one = lone_value 𝓛 Z LZ r.1 parts.1.0 own in
        rewrite t 0 (λ (us : List Val). ‵ (Z.own_val r.1 us)) one.1.0 refl $ move t (1 ∷ []) $ drop t $
        next one.0 (is ∙ (λ i. vstruct (of_list (at i ++ (one.1.0 i ++ []))) ∷ [])) one.1.1))))

    pub opened : K → (d : Pointer.Denot) (vs : List Val)
        → ((h : Val) → vs ≡ word d.address h ∷ [] → Typed_as (layout Z) h → Seq K 𝓛 (‵ (box_owns (g.dealloc_token d.allocator) R d.address d.content) ∷ ‵ (Z.own_val d.allocator (h ∷ [])) ∷ Γ) G)
        → Seq K 𝓛 (‵ (Pointer.own_val d vs) ∷ Γ) G
    opened t d vs next =
        fsplit t $ fpick t (λ parts. fsplit t $ feq_l t (λ is. fsplit t $ feq_l t (λ at. fsplit t $
        peeks t Z (Is Z) (shows 𝓛 Z) d.allocator parts.1.0 (λ own. let one = lone_value 𝓛 Z LZ d.allocator parts.1.0 own in
        rewrite t 0 (λ (us : List Val). ‵ (Z.own_val d.allocator us)) one.1.0 refl $ move t (1 ∷ []) $ drop t $ move t (1 ∷ []) $
        next one.0 (is ∙ (λ i. vstruct (of_list (at i ++ (one.1.0 i ++ []))) ∷ [])) one.1.1))))

    pub closed : K → (d : Pointer.Denot) (h : Val)
        → Step K 𝓛 (‵ (Pointer.own_val d (word d.address h ∷ [])) ∷ Γ) G (‵ (box_owns (g.dealloc_token d.allocator) R d.address d.content) ∷ ‵ (Z.own_val d.allocator (h ∷ [])) ∷ Γ) G
    closed t d h = step (λ after.
        move t (1 ∷ []) $ nothing t $ move t (1 ∷ 0 ∷ []) $ fjoin t $
        feq_i t (List Val) (ptr_val d.address ∷ []) (ptr_val d.address ∷ []) refl $ fjoin t $
        feq_i t (List Val) (word d.address h ∷ []) (word d.address h ∷ []) refl $ fjoin t $
        fpack t (Valss (RawPtr ∷ Z ∷ [])) (within (shape (pointer.the_type R Z g)) (d.address, (d.allocator, tt)) (word d.address h ∷ [])) (ptr_val d.address ∷ [], (h ∷ [], tt)) $ fjoin t $ after)
