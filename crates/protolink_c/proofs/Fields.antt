-- The fields of a handle, and what it owns. Assumes `Logic`.
--     Data, told, made     the fields of a handle as a row;  its machine value;  made of nothing
--     held_some     the memory of a box is what a handle with its pointer and its value owns
use Rattle.std.proofs.Common.{◌≡◌, List, [], ◌∷◌}
use seplogic.Ra.Ura.{Ura}
use mir.Raw.{raw}
use mir.Val.{Val}
use base.Logic.{ent, emp, id⊢, fst∗, never}
use types.Logic.{Logic, sem}
use denote.Memory.{lone}
use denote.RattleType.{RattleType}
use denote.Laws.{Is}
use denote.RawPtr.{Ptr, block_ptr, null_ptr}
use denote.Struct.Owning.{shape}
use Rattle.std.specs.Prelude.{Some}
use Rattle.std.specs.contracts.impls.GlobalAllocator.TheImpl.{ghosts}
use Rattle.std_alloc.specs.Box.Ownership.{box_owns}
use Rattle.protolink_c.proofs.PointerWord as pointer
pub use Rattle.protolink_c.proofs.PointerWord.{word, pointer_good, word_good}
use Rattle.protolink_c.specs.Held.{heap, held}
use Rattle.protolink_c.specs.contracts.handle.Handle as handle

abbrev pub Data : RattleType
Data = pointer.Data (shape handle.the_type)

pub told : (p : Ptr) (vs : List Val) → Is Data (p, tt) vs → vs ≡ word p ∷ []
told = pointer.told (shape handle.the_type)

pub made : {M : Type 1} {𝓤 : Ura M} (𝓛 : Logic 𝓤) (p : Ptr) → ent 𝓤 (emp 𝓤) (sem 𝓛 (Data.own_val (p, tt) (word p ∷ [])))
made = pointer.made (shape handle.the_type)

pub held_some : {M : Type 1} {𝓤 : Ura M} (𝓛 : Logic 𝓤) (R : RattleType) (p : Ptr) (x : R.Denot) → ent 𝓤 (sem 𝓛 (box_owns (ghosts.dealloc_token heap) R p x)) (sem 𝓛 (held R p (Some x)))
held_some {𝓤 = 𝓤} 𝓛 R (block_ptr b o) x = id⊢ 𝓤 _
held_some {𝓤 = 𝓤} 𝓛 R null_ptr x = fst∗ 𝓤 (never 𝓤) (sem 𝓛 (ghosts.dealloc_token heap (raw (lone R.mir)) null_ptr))
