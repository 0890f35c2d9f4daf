-- What is left of a script, and what comes next in it.
use Rattle.std.specs.Prelude.{◌≡◌, ℕ, ◌+◌, ◌<◌, ◌^◌, [], length}
use Rattle.std.specs.declared.option.Option.{Option}
use Rattle.std.specs.declared.option.Option.TheVariants.{None, Some}
use Rattle.std.specs.declared.result.Result.{Result}
use Rattle.std.specs.declared.result.Result.TheVariants.{Ok, Err}
use Rattle.link_script.specs.declared.script.statement.Statement.{Statement}
use Rattle.link_script.specs.declared.script.statement.Script.{Script}
use Rattle.link_script.specs.declared.script.statement.ScriptError.{ScriptError}
use Rattle.link_script.specs.declared.script.statement.ScriptError.TheVariants.{Fault, OutOfMemory}
use Rattle.link_script.specs.declared.script.line_error.LineError.{LineError}
use Rattle.link_script.specs.declared.script.line_error.LineError.TheVariants as line
use Rattle.link_script.specs.declared.script.reading.ScriptReader.TheInside.{Inside}
use Rattle.link_script.specs.Script.Words.{lines}
use Rattle.link_script.specs.Script.Answers.{bytes_left, standing_in}
use Rattle.link_script.specs.Script.Reading.{said_from, after_statement, faulty}

-- what is left of a script: what the lines say that are left
abbrev pub left_of : Inside → Script
left_of r = said_from r.number (standing_in r.here) (lines (bytes_left r.left))

-- the number of a line has 64 bits, and so have those of the lines that are left
abbrev pub IsCounted : Inside → Type 0
IsCounted r = r.number + length (bytes_left r.left) < 2 ^ 64

-- a script that says nothing more
abbrev pub ended : Script
ended = record { statements = []; fault = None }

-- the error of a script, by that of the line with a number
abbrev pub error_in : ℕ → LineError → ScriptError
error_in number (line.Fault fault) = Fault number fault
error_in number line.OutOfMemory = OutOfMemory

-- what comes next of a script: a statement, the end or the fault, unless memory was refused; but
-- for a statement, as much is left as before
abbrev pub IsNext : Script → Result (Option Statement) ScriptError → Script → Type 0
IsNext old (Ok (Some s)) new = old ≡ after_statement s new
IsNext old (Ok None) new = (old ≡ ended) × (new ≡ old)
IsNext old (Err (Fault number fault)) new = (old ≡ faulty number fault) × (new ≡ old)
IsNext old (Err OutOfMemory) new = new ≡ old
