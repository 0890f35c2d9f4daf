-- What a view owns, and what it shows.
use Rattle.std.specs.Prelude.{ℕ}
use Rattle.std.specs.declared.option.Option.{Option}
use Rattle.std.specs.declared.option.Option.TheVariants.{None, Some}
use Rattle.std.specs.Coded.{Coded, coded×, coded_ℕ}
use base.Fml.{Fml, ftrue, ffalse}
use denote.RattleType.{RattleType}
use denote.RawPtr.{Ptr, block_ptr, null_ptr}
use Rattle.numbered_pool.specs.declared.answers.Answers.{Answers}
use Rattle.protolink_c.specs.Parted.{part_owns}
use Rattle.protolink_c.specs.declared.part.Part.{Part}

-- a value, the round of its parts, and how many of them there are
abbrev pub Seen : Type 0 → Type 0
Seen X = X × (ℕ × ℕ)

-- how what is seen is stored
abbrev pub coded_seen : (R : RattleType) → Coded (Seen R.Denot)
coded_seen R = coded× R.coded (coded× coded_ℕ coded_ℕ)

-- parts of the right to read the value at a pointer, or nothing where the pointer is null
abbrev pub seen : (R : RattleType) → Ptr → Option (Seen R.Denot) → Fml
seen R (block_ptr b o) (Some s) = part_owns R (block_ptr b o) s.0 s.1.0 s.1.1
seen R (block_ptr b o) None = ffalse
seen R null_ptr (Some s) = ffalse
seen R null_ptr None = ftrue

-- what a view of some parts shows
abbrev pub shown_by : Option (Part Answers) → Option (Seen Answers)
shown_by None = None
shown_by (Some part) = Some (part.content, (part.round, part.count))

-- what is read through a view
abbrev pub read_in : Option (Seen Answers) → Option Answers
read_in None = None
read_in (Some s) = Some s.0
