-- The machine value of a struct whose one field is a pointer.
--     word, pointer_good, word_good     that value, and that it and its pointer are of their types
--     Data, told, made     the fields of such a struct as a row;  its machine value;  made of nothing
use Rattle.std.proofs.Common.{◌≡◌, List, [], ◌∷◌, ◌++◌, refl, ap, ◌∙◌, lit<}
use lib.Dec.{T}
use seplogic.Ra.Ura.{Ura}
use mir.Syntax.{Sym, ty_ptr, ty_struct, tcons, tnil}
use mir.Val.{Val, vstruct, vcons, vnil, of_list, has_ty, WT}
use base.Logic.{ent, emp}
use types.Logic.{Logic, sem}
use denote.RattleType.{RattleType}
use denote.Laws.{Is}
use denote.RawPtr.{Ptr, RawPtr, block_ptr, null_ptr, ptr_val}
use denote.Shadow.{makes_shadow}
use denote.Struct.Struct.{Shape, Struct}

abbrev pub word : Ptr → Val
word p = vstruct (vcons (ptr_val p) vnil)

pub pointer_good : (p : Ptr) → T (has_ty ty_ptr (ptr_val p)) × WT (ptr_val p)
pointer_good (block_ptr b o) = (tt, tt)
pointer_good null_ptr = (tt, record { fits = lit< tt })

pub word_good : (ν : Sym) (p : Ptr) → T (has_ty (ty_struct ν (tcons ty_ptr tnil)) (word p)) × WT (word p)
word_good ν (block_ptr b o) = (tt, (tt, tt))
word_good ν null_ptr = (tt, (record { fits = lit< tt }, tt))

module _ (S : Shape) where
  abbrev pub Data : RattleType
  Data = Struct (record { name = S.name; args = S.args; types = S.types; fields = RawPtr ∷ [] })

  pub told : (p : Ptr) (vs : List Val) → Is Data (p, tt) vs → vs ≡ word p ∷ []
  told p vs is = is.1.0 ∙ ap (λ (ws : List Val). vstruct (of_list (ws ++ [])) ∷ []) is.1.1.0

  pub made : {M : Type 1} {𝓤 : Ura M} (𝓛 : Logic 𝓤) (p : Ptr) → ent 𝓤 (emp 𝓤) (sem 𝓛 (Data.own_val (p, tt) (word p ∷ [])))
  made 𝓛 p = makes_shadow 𝓛 (Data.own_val (p, tt) (word p ∷ [])) (λ vss. (tt, (tt, tt))) ((ptr_val p ∷ [], tt), (refl, (refl, tt)))
