-- Statements that are obeyed, as they are read.
use Rattle.std.proofs.Common.{◌≡◌, ℕ, ◌+◌, Bool, true, false, ◌<◌, length, arith, List, [], ◌∷◌, ◌++◌, ap, append_assoc, sym, subst, ◌∙◌, Option, Some, None, Ok, Err}
use Rattle.std.proofs.lemmas.List.{append-nil}
use Rattle.std.proofs.lemmas.Bool.{false≢true}
use Rattle.std.specs.List.{fold}
use Rattle.link_script.specs.declared.script.statement.Statement.{Statement}
use Rattle.link_script.specs.declared.script.statement.Script.{Script}
use Rattle.link_script.specs.declared.records.RecordBuilder.{RecordBuilder}
use Rattle.link_script.specs.declared.script.statement.ScriptFault.{ScriptFault}
use Rattle.link_script.specs.declared.script.statement.ScriptError.{ScriptError}
use Rattle.link_script.specs.declared.script.statement.ScriptError.TheVariants.{Fault, OutOfMemory}
use Rattle.link_script.specs.declared.script.obeys.LastStatement.{LastStatement}
use Rattle.link_script.specs.Records.{built}
use Rattle.link_script.specs.RecordsCode.{building_in}
use Rattle.link_script.specs.Script.Words.{lines}
use Rattle.link_script.specs.Script.Keyword.{Standing}
use Rattle.link_script.specs.Script.Left.{IsNext}
use Rattle.link_script.specs.Script.Reading.{line_said, said_from}
use Rattle.link_script.specs.Script.Obeying.{Obeying, AreObeyed, IsLineObeyed, IsNextObeyed, IsObeyed}
use Rattle.link_script.proofs.Reading.{said_from-line}

-- where each statement is obeyed by a step, all are by the steps of all
pub followed : {S T : Type 0} (seen : S → T) (step : T → Statement → T) (old new : S) (ss : List Statement) → AreObeyed (λ o s n. seen n ≡ step (seen o) s) old ss new
    → fold step (seen old) ss ≡ seen new
followed seen step old new [] same = ap seen same
followed seen step old new (s ∷ ss) is = ap (λ t. fold step t ss) (sym is.1.0) ∙ followed seen step is.0 new ss is.1.1

-- what is built where all statements are obeyed
pub all_built : (old new : RecordBuilder) (ss : List Statement) → AreObeyed (λ o s n. building_in n ≡ built (building_in o) s) old ss new → fold built (building_in old) ss ≡ building_in new
all_built = followed building_in built

listed : (old new ss : List Statement) → AreObeyed (λ o s n. n ≡ o ++ s ∷ []) old ss new → old ++ ss ≡ new
listed old new [] same = append-nil old ∙ same
listed old new (s ∷ ss) is = sym (append_assoc old (s ∷ []) ss) ∙ ap (λ (xs : List Statement). xs ++ ss) (sym is.1.0) ∙ listed is.0 new ss is.1.1

-- a list of all statements, and the fault behind them, are the script
pub whole : (said : Script) (start statements : List Statement) (fault : Option (ℕ × ScriptFault)) → start ≡ [] → AreObeyed (λ o s n. n ≡ o ++ s ∷ []) start said.statements statements → said.fault ≡ fault
    → record { statements = statements; fault = fault } ≡ said
whole said start statements fault none all same =
    let is : said.statements ≡ statements = sym (ap (λ (xs : List Statement). xs ++ said.statements) none) ∙ listed start statements said.statements all in
    (λ i. record { statements = sym is i; fault = sym same i })

-- a statement and those behind it
pub one-more : {S : Type 0} (obeys : Obeying S) (whole rest : Script) (old mid : S) (b : Bool) → b ≡ true → IsNextObeyed obeys whole old (Ok b) rest mid
    → (new : S) → AreObeyed obeys mid rest.statements new → AreObeyed obeys old whole.statements new
one-more obeys whole rest old mid true is next new behind =
    subst (λ (w : Script). AreObeyed obeys old w.statements new) (sym next.1.0) (mid, (next.1.1, behind))
one-more obeys whole rest old mid false is next new behind = absurd (false≢true is)

-- one more is obeyed: the same fault is to come, and fewer statements
pub same-fault : {S : Type 0} (obeys : Obeying S) (whole rest : Script) (old mid : S) (b : Bool) → b ≡ true → IsNextObeyed obeys whole old (Ok b) rest mid → rest.fault ≡ whole.fault
same-fault obeys whole rest old mid true is next = sym (ap (λ (w : Script). w.fault) next.1.0)
same-fault obeys whole rest old mid false is next = absurd (false≢true is)

pub fewer : {S : Type 0} (obeys : Obeying S) (whole rest : Script) (old mid : S) (b : Bool) → b ≡ true → IsNextObeyed obeys whole old (Ok b) rest mid
    → length rest.statements < length whole.statements
fewer obeys whole rest old mid true is next = let e = ap (λ (w : Script). length w.statements) next.1.0 in omega (arith, e)
fewer obeys whole rest old mid false is next = absurd (false≢true is)

-- at the end all are obeyed, and there is no fault
pub at-end : {S : Type 0} (obeys : Obeying S) (whole rest : Script) (old new : S) (b : Bool) → b ≡ false → IsNextObeyed obeys whole old (Ok b) rest new
    → AreObeyed obeys old whole.statements new × (whole.fault ≡ None)
at-end obeys whole rest old new true is next = absurd (false≢true (sym is))
at-end obeys whole rest old new false is next =
    (subst (λ (w : Script). AreObeyed obeys old w.statements new) (sym next.0) (sym next.1.1), ap (λ (w : Script). w.fault) next.0)

-- where what is left of a script fails, so does the script
pub fails : {S : Type 0} (U : Type 0) (obeys : Obeying S) (whole left rest : Script) (first old new : S) (e : ScriptError)
    → ((n : S) → AreObeyed obeys old left.statements n → AreObeyed obeys first whole.statements n) → left.fault ≡ whole.fault → IsNextObeyed obeys left old (Err e) rest new
    → IsObeyed {U = U} obeys whole first (Err e) new
fails U obeys whole left rest first old new (Fault number fault) all same next =
    (all new (subst (λ (w : Script). AreObeyed obeys old w.statements new) (sym next.0) (sym next.1.1)), sym same ∙ ap (λ (w : Script). w.fault) next.0)
fails U obeys whole left rest first old new OutOfMemory all same next = tt

-- the next line says a statement that is obeyed
pub line-done : {S : Type 0} (obeys : Obeying S) (n : ℕ) (here next : Standing) (left line rest : List ℕ) (whole : Script) (old new : S) (b : Bool) → b ≡ true → lines left ≡ line ∷ lines rest
    → said_from n here (lines left) ≡ whole → IsLineObeyed obeys (line_said here line) here old (Ok b) next new → IsNextObeyed obeys whole old (Ok true) (said_from (n + 1) next (lines rest)) new
line-done obeys n here next left line rest whole old new true is first same h =
    (h.0, (sym same ∙ said_from-line n here next left line rest (Some h.0) first h.1.0, h.1.1))
line-done obeys n here next left line rest whole old new false is first same h = absurd (false≢true is)

-- the next line says nothing, so that as much is left
pub line-passed : {S : Type 0} (obeys : Obeying S) (n : ℕ) (here next : Standing) (left line rest : List ℕ) (old new : S) (b : Bool) → b ≡ false → lines left ≡ line ∷ lines rest
    → IsLineObeyed obeys (line_said here line) here old (Ok b) next new → (said_from (n + 1) next (lines rest) ≡ said_from n here (lines left)) × (new ≡ old)
line-passed obeys n here next left line rest old new true is first h = absurd (false≢true (sym is))
line-passed obeys n here next left line rest old new false is first h = (sym (said_from-line n here next left line rest None first h.0), h.1)

abbrev lasts : Obeying LastStatement
lasts _ s last = last.said ≡ Some s

-- what is obeyed last is the next statement
pub last-said : (old new : Script) (last : LastStatement) (b : Bool) → IsNextObeyed lasts old (record { said = None }) (Ok b) new last → IsNext old (Ok last.said) new
last-said old new last true h = subst (λ said. IsNext old (Ok said) new) (sym h.1.1) h.1.0
last-said old new last false h = subst (λ (l : LastStatement). IsNext old (Ok l.said) new) (sym h.1.1) (h.0, h.1.0)

-- where none is obeyed, there is no next statement
pub last-unsaid : (old new : Script) (first last : LastStatement) (e : ScriptError) → IsNextObeyed lasts old first (Err e) new last → IsNext old (Err e) new
last-unsaid old new first last (Fault number fault) h = (h.0, h.1.0)
last-unsaid old new first last OutOfMemory h = h
