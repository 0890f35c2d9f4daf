-- What is told of a call that added nothing: lines for people, and an object of JSON.
use Rattle.std.specs.Prelude.{ℕ, List, []}
use Rattle.joined_files.specs.Telling.{told_unequal}
use Rattle.joined_files.specs.declared.unequal.UnequalFile.{UnequalFile}
use Rattle.pool_faults.specs.declared.fault.DescriptorErrorKind.{DescriptorErrorKind}
use Rattle.proto_types.specs.declared.file.FileDescriptorProto.{FileDescriptorProto}
use Rattle.record_walk.specs.declared.counts.CountKind.{CountKind}
use Rattle.verdict_texts.specs.Lines.{line}
use Rattle.verdict_texts.specs.Objects.{refused_json, too_many_json, unread_json}
use Rattle.verdict_texts.specs.Refused.{refused_text, told_refusal, too_many_text}
use Rattle.verdict_texts.specs.declared.refused.ToldRefusal.{ToldRefusal}
use Rattle.numbered_pool.specs.declared.report.Report.{Report}

-- nothing told
abbrev pub no_report : Report
no_report = record { lines = []; json = [] }

-- a refused batch as it is told, by one list of faults in both texts
abbrev pub told_report : ToldRefusal → Report
told_report r = record { lines = refused_text r; json = refused_json r }

-- so many faults at most of new files that break rules, by the records of a pool's files and of the
-- new ones, by some of the faults and how many more there are
abbrev pub refused_report : List FileDescriptorProto → List FileDescriptorProto
    → List DescriptorErrorKind → ℕ → ℕ → Report
refused_report linked new faults rest most = told_report (told_refusal linked new faults rest most)

-- so many files at most that differ from others of their names
abbrev pub unequal_report : List UnequalFile → ℕ → Report
unequal_report unequal most = told_report (told_unequal unequal most)

-- of what there is too much
abbrev pub too_many_report : CountKind → Report
too_many_report kind = record { lines = too_many_text kind; json = too_many_json kind }

-- why bytes are no files
abbrev pub fault_report : List ℕ → Report
fault_report words = record { lines = line words; json = unread_json words }
