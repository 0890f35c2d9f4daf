-- The statements of a script before its first fault, and that fault.
use Rattle.std.specs.Prelude.{ℕ, suc, Bool, not, List, [], ◌∷◌, if◌then◌else◌}
use Rattle.std.specs.Str.{is_utf8}
use Rattle.std.specs.declared.option.Option.{Option}
use Rattle.std.specs.declared.option.Option.TheVariants.{None, Some}
use Rattle.std.specs.declared.result.Result.{Result}
use Rattle.std.specs.declared.result.Result.TheVariants.{Ok, Err}
use Rattle.link_script.specs.declared.script.statement.Keyword.{Keyword}
use Rattle.link_script.specs.declared.script.statement.Block.{Block}
use Rattle.link_script.specs.declared.script.statement.Statement.{Statement}
use Rattle.link_script.specs.declared.script.statement.Script.{Script}
use Rattle.link_script.specs.declared.script.statement.ScriptFault.{ScriptFault}
use Rattle.link_script.specs.declared.script.statement.ScriptFault.TheVariants.{BadText}
use Rattle.link_script.specs.declared.script.statement.ScriptFault.TheVariants.{UnknownWord}
use Rattle.link_script.specs.declared.script.statement.ScriptFault.TheVariants.{Misplaced}
use Rattle.link_script.specs.declared.script.statement.ScriptFault.TheVariants.{MissingEnd}
use Rattle.link_script.specs.Script.Words.{lines, words, says_nothing}
use Rattle.link_script.specs.Script.Keyword.{Standing, at_start, keyword_of, may_stand}
use Rattle.link_script.specs.Script.Keyword.{standing_after}
use Rattle.link_script.specs.Script.Arguments.{said_in, and_then}

-- what a line says: a keyword and its statement, or nothing, or its fault
abbrev pub Saying : Type 0
Saying = Result (Option (Keyword × Statement)) ScriptFault

abbrev placed : List ℕ → Keyword → List (List ℕ) → Bool → Saying
placed line keyword rest may = if may
    then and_then (said_in line keyword rest) (λ s. Ok (Some (keyword, s))) else Err Misplaced

abbrev known : Standing → List ℕ → List (List ℕ) → Option Keyword → Saying
known here line rest None = Err UnknownWord
known here line rest (Some keyword) = placed line keyword rest (may_stand here keyword)

-- what a line with these words says behind other statements: an unknown word is told before a
-- misplaced one
abbrev pub of_words : Standing → List ℕ → List (List ℕ) → Saying
of_words here line [] = Ok None
of_words here line (w ∷ ws) = if says_nothing (w ∷ ws) then Ok None
    else known here line ws (keyword_of w)

-- what a line says behind other statements: bad text is told first, then an unknown word, a
-- misplaced one, and at last what the words break
abbrev pub line_said : Standing → List ℕ → Saying
line_said here line = if not (is_utf8 line) then Err BadText else of_words here line (words line)

-- a script behind one more statement
abbrev pub after_statement : Statement → Script → Script
after_statement s script = record script { statements = s ∷ script.statements }

-- a script that says nothing but the fault of a line
abbrev pub faulty : ℕ → ScriptFault → Script
faulty line fault = record { statements = []; fault = Some (line, fault) }

abbrev at_end : ℕ → List Block → Script
at_end n [] = record { statements = []; fault = None }
at_end n (_ ∷ _) = faulty n MissingEnd

-- what the lines from a number on say, behind other statements; where blocks are open at the end,
-- the fault is a missing end, one line past the last
abbrev pub said_from : ℕ → Standing → List (List ℕ) → Script
said_from n here [] = at_end n here.blocks
said_from n here (line ∷ rest) = elim (line_said here line) [
  | Err fault ↦ faulty n fault
  | Ok None ↦ said_from (suc n) here rest
  | Ok (Some s) ↦ after_statement s.1 (said_from (suc n) (standing_after here s.0) rest)
]

-- what a script says: the statements before the first fault, and that fault with its line, which
-- counts from 1
abbrev pub script : List ℕ → Script
script bytes = said_from 1 at_start (lines bytes)
