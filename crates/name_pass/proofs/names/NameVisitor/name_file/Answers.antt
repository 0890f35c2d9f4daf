use Rattle.std.proofs.Common.{is_some, ◌∷◌, [], refl, ap, sym, ◌∙◌}
use Rattle.pool_faults.specs.declared.fault.DescriptorErrorKind.TheVariants.{DuplicateFileName}
use Rattle.record_walk.specs.Faults.{told_in}
use Rattle.record_walk.specs.Telling.{with_faults}
use Rattle.name_pass.specs.State.{first_new, kept_of, state_of}
use Rattle.std.specs.FinMap as finite
use Rattle.name_tables.proofs.Inserted.{found-none, found-some}
use Rattle.name_pass.proofs.Entering.{new-file-name, held-file-name}
use Rattle.std.proofs.lemmas.Result.{on_ok_weaker}
use Rattle.name_pass.proofs.Showing.{stays-told}
use Rattle.name_pass.proofs.Kept.{stays-before}
use Rattle.name_pass.proofs.names.NameVisitor.name_file.Goals as goal

-- the name is a new one
pub returns-then-is_none-clause-ok : goal.returns-then-is_none-clause-ok
returns-then-is_none-clause-ok c =
    new-file-name (state_of c.args.self.now) c.args.name.now c.args.file c.insert.result c.insert.new.self
    (found-none (finite.get c.args.self.now.file_names.now c.args.name.now) (ap is_some (sym c.get.ensures) ∙ c.if-is_none.ensures)) c.insert.ensures.ok

pub returns-then-is_none-clause-stays : goal.returns-then-is_none-clause-stays
returns-then-is_none-clause-stays c =
    let v = c.args.self.now in
    let absent = found-none (finite.get v.file_names.now c.args.name.now) (ap is_some (sym c.get.ensures) ∙ c.if-is_none.ensures) in
    let names = stays-before (λ file. file) c.insert.result (first_new v) v.file_names.now c.insert.new.self c.args.name.now c.args.file absent c.requires c.insert.ensures.ok c.insert.ensures.err in
    record { files = refl; kept = λ i. record (kept_of v) { file_names = names i }; borrows = refl }

-- a file has the name
pub returns-clause-ok : goal.returns-clause-ok
returns-clause-ok c =
    let state = state_of c.args.self.now in
    let held = found-some (finite.get state.file_names c.args.name.now) (ap is_some (sym c.get.ensures) ∙ c.if-is_none.ensures) in
    on_ok_weaker c.push.result (λ told. held-file-name state c.args.name.now c.args.file held.0 (told_in c.push.new.self) held.1
    (told.told ∙ ap (λ name. with_faults state.faults (DuplicateFileName name ∷ [])) c.in_ok-name.ensures)) c.push.ensures.told

pub returns-clause-stays : goal.returns-clause-stays
returns-clause-stays c = stays-told c.args.self.now c.push.new.self c.push.ensures.labels
