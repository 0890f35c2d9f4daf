use Rattle.std.proofs.Common.{◌≡◌, take}
use Rattle.std.specs.List.{fold}
use Rattle.descriptor_check.specs.Arguments.{no_job, step}
use Rattle.descriptor_check.specs.declared.arguments.Reading.TheVariants.{Reads}
use Rattle.descriptor_check.proofs.arguments.read_arguments.Given as goal

-- what the words so far ask
abbrev pub invariant-loop-word : goal.invariant-loop-word
invariant-loop-word l = l.reading ≡ fold step (Reads no_job) (take l.word-index l.words)
