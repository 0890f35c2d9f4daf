-- A refused batch as it is told, and its lines for people.
use Rattle.std.specs.Prelude.{ℕ, zero, suc, ◌+◌, ◌-◌, Bool, List, [], ◌∷◌, ◌++◌, codes, length}
use Rattle.std.specs.Prelude.{take, if◌then◌else◌}
use Rattle.std.specs.Str.{bytes_eq}
use Rattle.pool_faults.specs.declared.fault.DescriptorErrorKind.{DescriptorErrorKind}
use Rattle.proto_types.specs.declared.file.FileDescriptorProto.{FileDescriptorProto}
use Rattle.record_walk.specs.declared.counts.CountKind.{CountKind}
use Rattle.verdict_texts.specs.PlainFaults.{fault_lines}
use Rattle.verdict_texts.specs.Telling.{told_faults}
use Rattle.verdict_texts.specs.declared.refused.ToldRefusal.{ToldRefusal}
use Rattle.verdict_texts.specs.declared.telling.ToldFault.{ToldFault}
use Rattle.record_walk.specs.Words.{count_word}
use Rattle.verdict_texts.specs.Grouped.{grouped, grouped_count}

-- how many faults are not told
abbrev pub more_line : ℕ → List ℕ
more_line zero = []
more_line (suc n) = codes "and " ++ (grouped (suc n) ++ codes " more\n")

-- the last line of a refused batch
abbrev pub refused_line : ℕ → List ℕ
refused_line n =
    codes "refused: " ++ (grouped_count n (codes "fault") (codes "faults") ++ codes "\n")

-- a refused batch as it is told, by the records of the files of the pool and of its new files, by
-- some of its faults and how many more it has: so many of its faults at most, and how many it has
abbrev pub told_refusal : List FileDescriptorProto → List FileDescriptorProto
    → List DescriptorErrorKind → ℕ → ℕ → ToldRefusal
told_refusal linked new faults rest most = record {
  told = told_faults linked new (take most faults);
  count = length faults + rest;
}

-- how many of its faults are not told
abbrev pub untold : ToldRefusal → ℕ
untold r = r.count - length r.told

-- whether two faults have the same lines
abbrev pub are_alike : ToldFault → ToldFault → Bool
are_alike told other = bytes_eq (fault_lines told) (fault_lines other)

-- how many faults behind one another have the lines of this one, if there are more
abbrev pub repeats_line : ℕ → List ℕ
repeats_line zero = []
repeats_line (suc n) = codes "  note: " ++ (grouped (suc (suc n)) ++ codes " faults are told so\n")

-- faults as lines, where so many with the lines of the first stand before it: those that stand
-- behind one another with the same lines are written once, and counted
abbrev pub lines_of : ℕ → List ToldFault → List ℕ
lines_of n [] = []
lines_of n (f ∷ []) = fault_lines f ++ repeats_line n
lines_of n (f ∷ g ∷ fs) = if are_alike f g then lines_of (suc n) (g ∷ fs)
    else fault_lines f ++ (repeats_line n ++ lines_of 0 (g ∷ fs))

-- the faults that are told, how many more there are, and how many there are
abbrev pub refused_text : ToldRefusal → List ℕ
refused_text r = lines_of 0 r.told
    ++ (more_line (untold r) ++ refused_line r.count)

-- the line that tells of what there is too much
abbrev pub too_many_text : CountKind → List ℕ
too_many_text kind = codes "refused: too many " ++ (count_word kind ++ codes "\n")
