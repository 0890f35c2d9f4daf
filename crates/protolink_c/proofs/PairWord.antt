-- A pair of two values, of which each is one machine value. Assumes `Logic`.
--     two, two_good     its machine value, and that it is of its type
--     pair_made     a pair of what is owned
use Rattle.std.proofs.Common.{List, [], ◌∷◌, refl}
use lib.Dec.{T}
use seplogic.Ra.Ura.{Ura}
use mir.Syntax.{Ty, tcons, tnil}
use mir.Val.{Val, vstruct, vcons, vnil, has_ty, has_tys, WT}
use base.Logic.{sep, ent}
use types.Logic.{Logic, sem}
use types.Kit.{‵, ◌$◌, ◌∵◌, !, qed, move, fjoin, fpack, feq_i, done}
use denote.RattleType.{RattleType, Valss}
use denote.Steps.{nothing}
use denote.Struct.Declared.{shape}
use denote.Struct.Struct.{as_fields, within}
use denote.Struct.Tuple.{Tuple, tuple_type}

abbrev pub two : Val → Val → Val
two u w = vstruct (vcons u (vcons w vnil))

pub two_good : (σ τ : Ty) (u w : Val) → T (has_ty σ u) × WT u → T (has_ty τ w) × WT w → T (has_tys (tcons σ (tcons τ tnil)) (vcons u (vcons w vnil))) × WT (two u w)
two_good σ τ u w first second = as_fields (σ ∷ τ ∷ []) (u ∷ w ∷ []) (first, (second, tt))

module _ {M : Type 1} {𝓤 : Ura M} (𝓛 : Logic 𝓤) (A B : RattleType) where
  abbrev Both : RattleType
  Both = Tuple (A ∷ B ∷ [])

  pub pair_made : (d : Both.Denot) (u w : Val) → ent 𝓤 (sep 𝓤 (sem 𝓛 (A.own_val d.0 (u ∷ []))) (sem 𝓛 (B.own_val d.1 (w ∷ [])))) (sem 𝓛 (Both.own_val d (two u w ∷ [])))
  pair_made d u w =
      let vs = two u w ∷ [] in
      qed 𝓛 (‵ (A.own_val d.0 (u ∷ [])) ∷ ‵ (B.own_val d.1 (w ∷ [])) ∷ []) ∵ move ! (1 ∷ []) $ nothing ! $ move ! (1 ∷ 0 ∷ []) $ fjoin ! $ move ! (1 ∷ 0 ∷ []) $ fjoin !
      $ feq_i ! (List Val) vs vs refl $ fjoin ! $ fpack ! (Valss (A ∷ B ∷ [])) (within (shape (tuple_type (A ∷ B ∷ []))) (d.0, (d.1, tt)) vs) (u ∷ [], (w ∷ [], tt)) $ done !
