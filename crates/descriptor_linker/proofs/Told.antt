-- What the statements of a script tell, where a session obeys them.
use Rattle.std.proofs.Common.{◌≡◌, ◌≢◌, ℕ, true, false, List, [], ◌++◌, string_bytes, Option, Some, None, Err, sym, ap, ◌∙◌}
use Rattle.std.specs.List.{fold}
use Rattle.std.proofs.lemmas.Option.{none-some}
use Rattle.std.specs.Option.{option_map_or}
use Rattle.link_script.specs.declared.script.statement.Statement.{Statement}
use Rattle.link_script.specs.declared.script.statement.Script.{Script}
use Rattle.link_script.specs.declared.script.statement.ScriptFault.{ScriptFault}
use Rattle.link_script.specs.declared.script.statement.ScriptError.{ScriptError}
use Rattle.link_script.specs.declared.script.statement.ScriptError.TheVariants.{Fault, OutOfMemory}
use Rattle.link_script.specs.Script.Obeying.{AreObeyed, IsObeyed}
use Rattle.link_script.proofs.Obeying.{followed}
use Rattle.descriptor_linker.specs.declared.report.session.Session.{Session}
use Rattle.descriptor_linker.specs.Report.Code.{session_in}
use Rattle.descriptor_linker.specs.Report.Lines.{fault_line}
use Rattle.descriptor_linker.specs.Report.Session.{new_session, report, step, IsTold}

-- the text of a session that obeyed all statements, and the line of the fault behind them
pub reported : (old new : Session) (said : Script) (fault : Option (ℕ × ScriptFault)) → session_in old ≡ new_session
    → AreObeyed (λ o s n. session_in n ≡ step (session_in o) s) old said.statements new → said.fault ≡ fault → string_bytes new.text ++ option_map_or fault_line fault [] ≡ report said
reported old new said fault is all same =
    let ended : fold step new_session said.statements ≡ session_in new = ap (λ s. fold step s said.statements) (sym is) ∙ followed session_in step old new said.statements all in
    ap (λ s. s.text ++ option_map_or fault_line fault []) (sym ended) ∙ ap (λ f. (fold step new_session said.statements).text ++ option_map_or fault_line f []) (sym same)

-- where the statements end at an error that is told
pub reported-end : (old new : Session) (said : Script) (e : ScriptError) (before after : List ℕ) → session_in old ≡ new_session
    → IsObeyed {U = Unit {0}} (λ o s n. session_in n ≡ step (session_in o) s) said old (Err e) new → before ≡ string_bytes new.text
    → IsTold e before after → after ≡ report said
reported-end old new said (Fault line fault) before after is failed same told =
    told ∙ ap (λ t. t ++ fault_line (line, fault)) same ∙ reported old new said (Some (line, fault)) is failed.0 failed.1
reported-end old new said OutOfMemory before after is failed same told = absurd told

-- a script that ends at an error that is told has a fault
pub has-fault : (old new : Session) (said : Script) (e : ScriptError) (before after : List ℕ)
    → IsObeyed {U = Unit {0}} (λ o s n. session_in n ≡ step (session_in o) s) said old (Err e) new
    → IsTold e before after → said.fault ≢ None
has-fault old new said (Fault line fault) before after failed told none = none-some (line, fault) (sym none ∙ failed.1)
has-fault old new said OutOfMemory before after failed told none = told

-- no truth value is both
pub false-true : false ≡ true → ⊥
false-true e = cc
