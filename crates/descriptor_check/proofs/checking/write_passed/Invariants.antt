use Rattle.std.proofs.Common.{◌≡◌, ◌++◌, string_bytes, take, flat_map}
use Rattle.joined_files.specs.Telling.{passed_words}
use Rattle.descriptor_check.specs.Complaints.{complaint}
use Rattle.descriptor_check.proofs.checking.write_passed.Given as goal

-- the files so far are told
abbrev pub invariant-loop-file : goal.invariant-loop-file
invariant-loop-file l =
    string_bytes l.lines ≡ string_bytes l.initial.lines ++ flat_map (λ u. complaint (passed_words u)) (take l.file-index l.unequal)
