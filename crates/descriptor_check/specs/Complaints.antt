-- What is told where there is no verdict.
use Rattle.std.specs.Prelude.{ℕ, List, [], ◌++◌, codes}
use Rattle.std.specs.declared.option.Option.TheVariants.{None}
use Rattle.verdict_texts.specs.Lines.{line}
use Rattle.descriptor_check.specs.declared.answer.Answer.{Answer}
use Rattle.descriptor_check.specs.declared.answer.Status.TheVariants as status
use Rattle.descriptor_check.specs.declared.arguments.TheConstants.{USAGE}

-- a line of the program's for the standard error
abbrev pub complaint : List ℕ → List ℕ
complaint words = line (codes "check_descriptors: " ++ words)

-- no verdict, with what is written to the two outputs
abbrev pub no_answer : List ℕ → List ℕ → Answer
no_answer report complaint =
    record { status = status.NoVerdict; report = report; complaint = complaint; linked = None }

-- no verdict, and why
abbrev pub no_verdict : List ℕ → Answer
no_verdict words = no_answer [] (complaint words)

-- no verdict since arguments are wrong, and why, with those that there are
abbrev pub wrong_arguments : List ℕ → Answer
wrong_arguments words = no_answer [] (complaint words ++ USAGE.now)
