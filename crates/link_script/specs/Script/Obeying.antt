-- What is left of a script, obeyed statement by statement.
use Rattle.std.specs.Prelude.{◌≡◌, Bool, true, false, List, [], ◌∷◌}
use Rattle.std.specs.declared.option.Option.TheVariants.{None, Some}
use Rattle.std.specs.declared.result.Result.{Result}
use Rattle.std.specs.declared.result.Result.TheVariants.{Ok, Err}
use Rattle.link_script.specs.declared.script.statement.Statement.{Statement}
use Rattle.link_script.specs.declared.script.statement.Script.{Script}
use Rattle.link_script.specs.declared.script.statement.ScriptError.{ScriptError}
use Rattle.link_script.specs.declared.script.statement.ScriptError.TheVariants.{Fault, OutOfMemory}
use Rattle.link_script.specs.declared.script.statement.ScriptFault.{ScriptFault}
use Rattle.link_script.specs.declared.script.line_error.LineError.{LineError}
use Rattle.link_script.specs.declared.script.line_error.LineError.TheVariants as line
use Rattle.link_script.specs.Script.Keyword.{Standing}
use Rattle.link_script.specs.Script.Answers.{after_line}
use Rattle.link_script.specs.Script.Left.{ended}
use Rattle.link_script.specs.Script.Reading.{Saying, after_statement, faulty}

-- what it is to obey a statement: what obeys, the statement, and what has obeyed
abbrev pub Obeying : Type 0 → Type 1
Obeying S = S → Statement → S → Type 0

-- statements are obeyed, one behind another
abbrev pub AreObeyed : {S : Type 0} → Obeying S → S → List Statement → S → Type 0
AreObeyed obeys old [] new = old ≡ new
AreObeyed {S = S} obeys old (s ∷ ss) new =
    (mid : S) × (obeys old s mid × AreObeyed obeys mid ss new)

-- all statements of a script are obeyed, and the fault behind them is told, unless memory was
-- refused
abbrev pub IsObeyed : {S U : Type 0} → Obeying S → Script → S → Result U ScriptError → S → Type 0
IsObeyed obeys script old (Ok _) new =
    AreObeyed obeys old script.statements new × (script.fault ≡ None)
IsObeyed obeys script old (Err (Fault number fault)) new =
    AreObeyed obeys old script.statements new × (script.fault ≡ Some (number, fault))
IsObeyed obeys script old (Err OutOfMemory) new = Unit {0}

-- the next statement of a script is obeyed, or the end or the fault is told, unless memory was
-- refused; but for a statement, as much is left as before, and none is obeyed
abbrev pub IsNextObeyed : {S : Type 0} → Obeying S → Script → S → Result Bool ScriptError → Script
    → S
    → Type 0
IsNextObeyed obeys script old (Ok true) rest new =
    (s : Statement) × ((script ≡ after_statement s rest) × obeys old s new)
IsNextObeyed obeys script old (Ok false) rest new =
    (script ≡ ended) × ((rest ≡ script) × (new ≡ old))
IsNextObeyed obeys script old (Err (Fault number fault)) rest new =
    (script ≡ faulty number fault) × ((rest ≡ script) × (new ≡ old))
IsNextObeyed obeys script old (Err OutOfMemory) rest new = rest ≡ script

-- what a line says is obeyed, if it says a statement, or its fault is told, unless memory was
-- refused; but for a statement, none is obeyed
abbrev pub IsLineObeyed : {S : Type 0} → Obeying S → Saying → Standing → S → Result Bool LineError
    → Standing → S → Type 0
IsLineObeyed obeys said here old (Ok true) next new =
    (s : Statement) × ((after_line said here ≡ Ok (Some s, next)) × obeys old s new)
IsLineObeyed obeys said here old (Ok false) next new =
    (after_line said here ≡ Ok (None, next)) × (new ≡ old)
IsLineObeyed obeys said here old (Err (line.Fault fault)) next new =
    (said ≡ Err fault) × ((next ≡ here) × (new ≡ old))
IsLineObeyed obeys said here old (Err line.OutOfMemory) next new = next ≡ here

-- the statement that is meant is obeyed, or its fault is told and none is obeyed, unless memory was
-- refused
abbrev pub IsSaidObeyed : {S U : Type 0} → Obeying S → Result Statement ScriptFault → S
    → Result U LineError → S → Type 0
IsSaidObeyed obeys said old (Ok _) new = (s : Statement) × ((said ≡ Ok s) × obeys old s new)
IsSaidObeyed obeys said old (Err (line.Fault fault)) new = (said ≡ Err fault) × (new ≡ old)
IsSaidObeyed obeys said old (Err line.OutOfMemory) new = Unit {0}
