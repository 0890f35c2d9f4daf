-- Parts of the right to read a value.
use Rattle.std.specs.Prelude.{ℕ, zero, suc, [], ◌∷◌, ◌^◌}
use mir.Raw.{raw}
use Rattle.std.specs.contracts.impls.GlobalAllocator.TheImpl.{ghosts}
use base.Fraction.{full_share, left}
use base.Fml.{Fml, Share, ftrue, ffalse, fsep, flt, flft, flent}
use denote.RattleType.{RattleType}
use denote.Memory.{lone}
use denote.RawPtr.{Ptr, count_of, lies_at}
use denote.Struct.Lending.{lent_at}
use Rattle.protolink_c.specs.Held.{heap}

-- how many parts a right to read has
abbrev pub whole : ℕ
whole = 2 ^ 63

-- a share, halved n times
unfoldable pub halved : ℕ → Share → Share
halved zero share = share
halved (suc n) share = halved n (left share)

-- n times what a formula says
unfoldable pub times : ℕ → Fml → Fml
times zero one = ftrue
times (suc n) one = fsep one (times n one)

-- n parts of the lifetime of a round: some, or nothing can be read
unfoldable pub parts : ℕ → ℕ → Fml
parts round zero = ffalse
parts round (suc n) = times (suc n) (flft (round ∷ []) (halved 63 full_share))

-- n parts of the right to read the value x at p, for a round
abbrev pub part_owns : (R : RattleType) → Ptr → R.Denot → ℕ → ℕ → Fml
part_owns R p x round n =
    fsep (parts round n) (fsep (lent_at R p x (round ∷ [])) (flt (count_of p) (2 ^ 63)))

-- what is kept back for a round: to have the value x at p back after it, and the right to free it
abbrev pub kept_back : (R : RattleType) → Ptr → R.Denot → ℕ → Fml
kept_back R p x round =
    fsep (flent (round ∷ []) (lies_at R full_share p x))
    (ghosts.dealloc_token heap (raw (lone R.mir)) p)
