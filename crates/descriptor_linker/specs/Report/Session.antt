-- A script, statement by statement.
use Rattle.std.specs.Prelude.{◌≡◌, ◌<◌, ◌+◌, ◌⊎◌, ℕ, List, [], ◌∷◌, ◌++◌, length}
use Rattle.std.specs.List.{fold}
use Rattle.std.specs.Option.{option_map_or}
use Rattle.std.specs.declared.result.Result.{Result}
use Rattle.std.specs.declared.result.Result.TheVariants.{Ok, Err}
use Rattle.record_walk.specs.declared.counts.Counts.{Counts}
use Rattle.record_walk.specs.declared.counts.CountKind.{CountKind}
use Rattle.record_walk.specs.Counts.{counts_in}
use Rattle.pool_types.specs.Contents.{Contents, no_contents, files_of}
use Rattle.link_script.specs.declared.script.statement.Script.{Script}
use Rattle.link_script.specs.declared.script.statement.ScriptError.{ScriptError}
use Rattle.link_script.specs.declared.script.statement.ScriptError.TheVariants.{Fault, OutOfMemory}
use Rattle.link_script.specs.declared.script.statement.Statement.{Statement}
use Rattle.link_script.specs.declared.script.statement.Statement.TheVariants as say
use Rattle.reference_pass.specs.SecondPass.{Faults}
use Rattle.descriptor_pool.specs.Pool.{Batch, Fits, faults, counts_after, link}
use Rattle.link_script.specs.Records.{Building, built, nothing_built}
use Rattle.descriptor_linker.specs.Report.Lines.{counts_line, refused_lines, too_many_line}
use Rattle.descriptor_linker.specs.Report.Lines.{walk_answer, refs_answer, fault_line}
use Rattle.descriptor_linker.specs.Report.Answers.{ext_answer, find_answer, relink_answer}

-- a session: what is built, the pool, and the report so far
pub record Session : Type 0 where
  pub building : Building
  pub pool : Contents
  pub text : List ℕ

-- the session before the first statement
abbrev pub new_session : Session
new_session = record { building = nothing_built; pool = no_contents; text = [] }

-- the session with one more text behind its report
abbrev pub write : Session → List ℕ → Session
write s more = record s { text = s.text ++ more }

-- the pool and what is reported of a batch that fits, by its faults
abbrev pub accepted_or : Contents → Batch → Faults → Contents × List ℕ
accepted_or p batch [] = (link p batch, counts_line (counts_in (link p batch)))
accepted_or p batch (f ∷ fs) = (p, refused_lines (f ∷ fs))

-- the pool and what is reported where a batch is linked, by the counts after it
abbrev pub linking : Contents → Batch → Result Counts CountKind → Contents × List ℕ
linking p batch (Err kind) = (p, too_many_line kind)
linking p batch (Ok _) = accepted_or p batch (faults p batch)

-- the session after `link`: the pool of the definitions, with what is told of it, and none of the
-- files that were built
abbrev pub link_step : Session → Session
link_step s =
    let after = linking s.pool s.building.files (counts_after s.pool s.building.files) in
    record (write s after.1) { pool = after.0; building = record s.building { files = [] } }

-- the files that are built fit the pool, or a report of a length has no room for the line that
-- tells what there is too much of
abbrev pub FitsOrLacksRoom : Session → ℕ → ℕ → Type 0
FitsOrLacksRoom s len room =
    Fits s.pool s.building.files
    ⊎ ((kind : CountKind) × (counts_after s.pool s.building.files ≡ Err kind)
    × (room < len + length (too_many_line kind)))

-- the session after one more statement: it links, finds, walks, tells references or an extension,
-- tells whether the pool relinks, or builds
abbrev pub step : Session → Statement → Session
step s say.Link = link_step s
step s (say.Find name) = write s (find_answer s.pool name)
step s say.Walk = write s (walk_answer (files_of s.pool))
step s (say.Refs name) = write s (refs_answer (files_of s.pool) name)
step s (say.Ext name number) = write s (ext_answer s.pool name number)
step s say.Relink = write s (relink_answer s.pool)
step s statement = record s { building = built s.building statement }

-- how the error that ends a script is told: a fault by its line; want of memory ends the report
abbrev pub IsTold : ScriptError → List ℕ → List ℕ → Type 0
IsTold (Fault number fault) old new = new ≡ old ++ fault_line (number, fault)
IsTold OutOfMemory old new = ⊥

-- what the statements of a script tell, one after another, and the line of its fault
abbrev pub report : Script → List ℕ
report script =
    (fold step new_session script.statements).text ++ option_map_or fault_line script.fault []
