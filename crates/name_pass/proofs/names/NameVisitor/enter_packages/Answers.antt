use Rattle.std.proofs.Common.{◌≡◌, [], ◌∷◌, map, length, arith, ap, sym, ◌∙◌}
use Rattle.std.proofs.lemmas.Bool.Decides.{nat_tests}
use Rattle.std.proofs.lemmas.List.{nil_from_length}
use Rattle.proto_types.specs.Names.{fronts}
use Rattle.name_tables.proofs.Entries.{with-nothing}
use Rattle.name_pass.specs.Names.{package_entry, packages}
use Rattle.name_pass.specs.State.{records_of, state_of}
use Rattle.name_pass.specs.Steps.{entered}
use Rattle.name_pass.proofs.Packages.{packages_whole}
use Rattle.name_pass.proofs.names.NameVisitor.enter_packages.Goals as goal

-- the empty package is no name
pub returns-then-is_empty-clause-ok : goal.returns-then-is_empty-clause-ok
returns-then-is_empty-clause-ok c =
    let v = c.args.self.now in
    let none : c.args.name.now ≡ [] = nil_from_length c.args.name.now (grind (arith, nat_tests, c.is_empty.ensures, c.if-is_empty.ensures)) in
    (λ i. record (state_of v) { names = (c.in_ok-open_outermost.ensures.names ∙ sym (with-nothing v.names.now.0)) i })
    ∙ ap (λ name. entered (records_of v) (state_of v) (map (package_entry c.args.file) (packages name))) (sym none)

-- the last is the whole name
pub returns-clause-ok : goal.returns-clause-ok
returns-clause-ok c =
    let v = c.args.self.now in
    let name = c.args.name.now in
    let some : (name ≡ []) → ⊥ = λ none. absurd (grind (arith, nat_tests, ap length none, c.is_empty.ensures, c.if-is_empty.ensures)) in
    let outer = c.enter_around.new.self in
    let fronts-in : state_of outer ≡ entered (records_of v) (state_of v) (map (package_entry c.args.file) (fronts name)) =
    c.in_ok-package.ensures.ok ∙ (λ i. entered (records_of v) (record (state_of v) { names = c.in_ok-open_outermost.ensures.names i }) (map (package_entry c.args.file) (fronts name))) in
    (λ i. record (state_of c.enter_package.new.self) { names = c.keep_innermost.ensures.names i })
    ∙ c.in_ok-enter_package.ensures.ok
    ∙ (λ i. entered (map (λ f. f.raw) (c.enter_around.ensures.stays.files i)) (fronts-in i) (package_entry c.args.file (c.in_ok-package.ensures.name i) ∷ []))
    ∙ packages_whole (records_of v) (state_of v) c.args.file name some
