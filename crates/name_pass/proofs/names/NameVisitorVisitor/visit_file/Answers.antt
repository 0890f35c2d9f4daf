use Rattle.std.proofs.Common.{[], ◌∷◌, map, ap, ◌∙◌, append_assoc, append-nil}
use Rattle.proto_types.specs.Readers.{text_of}
use Rattle.record_walk.proofs.Telling.{told-two}
use Rattle.name_pass.specs.Names.{package_entry, packages}
use Rattle.name_pass.specs.State.{records_of, state_of}
use Rattle.name_pass.specs.Steps.{entered, file_named}
use Rattle.name_pass.proofs.Showing.{both-ok, shown, stays-on, stays-told}
use Rattle.name_pass.proofs.names.NameVisitorVisitor.visit_file.Goals as goal

-- its syntax is looked at, and its name and its packages are entered
pub returns-clause-ok : goal.returns-clause-ok
returns-clause-ok c =
    let v = c.args.self.now in
    let stays = stays-on (stays-told v c.check_syntax.new.faults c.check_syntax.ensures.labels) c.name_file.ensures.stays in
    both-ok c.enter_packages.result (λ is scopes. shown v c.enter_packages.new.self _ (stays-on stays c.enter_packages.ensures.stays) c.requires (scopes ∙ ap (λ name. name ∷ []) c.package.ensures) (is
    ∙ (λ i. entered (map (λ f. f.raw) (stays.files i)) (c.in_ok-name_file.ensures.ok i) (map (package_entry c.args.index) (packages (c.package.ensures i))))
    ∙ (λ i. entered (records_of v) (file_named (record (state_of v) { faults = c.in_ok-check_syntax.ensures.told.told i }) (c.name.ensures i) c.args.index)
    (map (package_entry c.args.index) (packages (text_of c.args.file.now.«package»))))
    ∙ simp (told-two, append_assoc, append-nil))) c.enter_packages.ensures.ok c.enter_packages.ensures.scopes
