-- The fields of a view, and what it owns. Assumes `Logic`.
--     Data, told, made     the fields of a view as a row;  its machine value;  made of nothing
--     seen_some     what some parts own is what a view with their pointer owns
use Rattle.std.proofs.Common.{◌≡◌, ℕ, List, [], ◌∷◌}
use seplogic.Ra.Ura.{Ura}
use mir.Val.{Val}
use base.Logic.{ent, emp, id⊢, never_e}
use types.Kit.{‵, ◌$◌, ◌∵◌, !, qed, by, move, keep, fsplit}
use types.Logic.{Logic, sem}
use denote.RattleType.{RattleType}
use denote.Laws.{Is}
use denote.RawPtr.{Ptr, block_ptr, null_ptr}
use denote.Struct.Owning.{shape}
use Rattle.std.specs.Prelude.{Some}
use Rattle.protolink_c.proofs.PointerWord as pointer
pub use Rattle.protolink_c.proofs.PointerWord.{word, pointer_good, word_good}
use Rattle.protolink_c.specs.Parted.{part_owns}
use Rattle.protolink_c.specs.Seen.{seen}
use Rattle.protolink_c.specs.contracts.view.View as view

abbrev pub Data : RattleType
Data = pointer.Data (shape view.the_type)

pub told : (p : Ptr) (vs : List Val) → Is Data (p, tt) vs → vs ≡ word p ∷ []
told = pointer.told (shape view.the_type)

pub made : {M : Type 1} {𝓤 : Ura M} (𝓛 : Logic 𝓤) (p : Ptr) → ent 𝓤 (emp 𝓤) (sem 𝓛 (Data.own_val (p, tt) (word p ∷ [])))
made = pointer.made (shape view.the_type)

-- nothing lies at null
pub seen_some : {M : Type 1} {𝓤 : Ura M} (𝓛 : Logic 𝓤) (R : RattleType) (p : Ptr) (x : R.Denot) (round n : ℕ) → ent 𝓤 (sem 𝓛 (part_owns R p x round n)) (sem 𝓛 (seen R p (Some (x, (round, n)))))
seen_some {𝓤 = 𝓤} 𝓛 R (block_ptr b o) x round n = id⊢ 𝓤 _
seen_some {𝓤 = 𝓤} 𝓛 R null_ptr x round n =
    qed 𝓛 (‵ (part_owns R null_ptr x round n) ∷ []) ∵ fsplit ! $ move ! (1 ∷ []) $ fsplit ! $ fsplit ! $ keep ! (0 ∷ []) $ by ! (never_e 𝓤 _)
