use Rattle.std.proofs.Common.{◌≡◌, Some, refl, ap, sym, ◌∙◌}
use Rattle.std.specs.FinMap as finite
use Rattle.std.specs.Option.{option_copied}
use Rattle.std.proofs.lemmas.Result.{on_ok_weaker}
use Rattle.pool_types.specs.declared.contents.definition.Definition.{Definition}
use Rattle.name_tables.specs.NameTables.{kept_before}
use Rattle.name_tables.proofs.Earlier.{later-goes}
use Rattle.record_walk.specs.Faults.{told_in}
use Rattle.record_walk.specs.Telling.{with_faults}
use Rattle.name_pass.specs.FirstPass.{holder_faults}
use Rattle.name_pass.specs.Names.{definition_at}
use Rattle.name_pass.specs.State.{first_new, kept_of, records_of, state_of}
use Rattle.name_pass.proofs.Entering.{again-package, either, held-name, new-name}
use Rattle.name_pass.proofs.Opened.{named-means, named-text}
use Rattle.name_pass.proofs.names.NameVisitor.enter.Goals as goal

-- a package is entered again
pub returns-then-is_package-2-clause-ok : goal.returns-then-is_package-2-clause-ok
returns-then-is_package-2-clause-ok c =
    let v = c.args.self.now in
    let n = c.args.name in
    let held = sym (named-means v n c.requires.stands c.open.new.self c.open.ensures.names c.in_ok-open.ensures.scopes) ∙ sym c.holder.ensures ∙ ap option_copied c.in-Some.is in
    (λ i. record (state_of v) { names = c.open.ensures.names i })
    ∙ again-package (records_of v) (state_of v) (n.full_name.now, definition_at c.args.file c.args.path.now c.args.kind) (Some c.in-Some.holder.now) held
    (sym c.is_package-then-is_package.ensures ∙ c.if-is_package-2.true) (sym c.is_package.ensures ∙ c.if-is_package.true)

-- the name is a new one
pub returns-in_default-clause-ok : goal.returns-in_default-clause-ok
returns-in_default-clause-ok c =
    let v = c.args.self.now in
    let n = c.args.name in
    let absent = sym (named-means v n c.requires.stands c.open.new.self c.open.ensures.names c.in_ok-open.ensures.scopes) ∙ sym c.holder.ensures ∙ ap option_copied c.in_default.is in
    on_ok_weaker c.define.result
    (λ is. new-name (records_of v) (state_of v) (n.full_name.now, definition_at c.args.file c.args.path.now c.args.kind) c.define.new.self.0 absent
    (is ∙ (λ i. finite.insert (c.open.ensures.names i) (named-text v n c.requires.stands c.open.new.self c.open.ensures.names c.in_ok-open.ensures.scopes i) (c.in_ok-definition.ensures i))))
    c.define.ensures.ok

pub returns-in_default-clause-stays : goal.returns-in_default-clause-stays
returns-in_default-clause-stays c =
    let v = c.args.self.now in
    let n = c.args.name in
    let d : Definition = definition_at c.args.file c.args.path.now c.args.kind in
    let absent = sym (named-means v n c.requires.stands c.open.new.self c.open.ensures.names c.in_ok-open.ensures.scopes) ∙ sym c.holder.ensures ∙ ap option_copied c.in_default.is in
    let kept = kept_before (λ d. d.file) (first_new v) in
    let names = either c.define.result c.define.ensures.ok c.define.ensures.err
    (λ is. ap kept (is ∙ (λ i. finite.insert (c.open.ensures.names i) (named-text v n c.requires.stands c.open.new.self c.open.ensures.names c.in_ok-open.ensures.scopes i) (c.in_ok-definition.ensures i)))
    ∙ later-goes (λ d. d.file) (first_new v) v.names.now.0 n.full_name.now d absent c.requires.later)
    (λ same. ap kept (same ∙ c.open.ensures.names)) in
    record { files = refl; kept = λ i. record (kept_of v) { names = names i }; borrows = refl }

-- the name has a holder
pub returns-clause-ok : goal.returns-clause-ok
returns-clause-ok c =
    let v = c.args.self.now in
    let n = c.args.name in
    let name = n.full_name.now in
    let holder = c.in-Some.holder.now in
    let faults = told_in c.check_clash.new.faults in
    let held = sym (named-means v n c.requires.stands c.open.new.self c.open.ensures.names c.in_ok-open.ensures.scopes) ∙ sym c.holder.ensures ∙ ap option_copied c.in-Some.is in
    on_ok_weaker c.check_clash.result (λ told.
    (λ i. record (state_of v) { names = c.open.ensures.names i; faults = faults })
    ∙ held-name (records_of v) (state_of v) (name, definition_at c.args.file c.args.path.now c.args.kind) holder faults held
    (told.told ∙ (λ i. with_faults (told_in v.faults.now) (holder_faults (records_of v) (Some holder) (name, c.in_ok-definition-2.ensures i)))))
    c.check_clash.ensures.told
