use Rattle.std.proofs.Common.{refl}
use Rattle.std.proofs.lemmas.Result.{on_ok_weaker}
use Rattle.name_pass.specs.Enumeration.{enum_faults}
use Rattle.name_pass.proofs.Showing.{shown-own}
use Rattle.name_pass.proofs.names.NameVisitorVisitor.visit_enum.Goals as goal

-- its name is entered, and what it breaks by itself is told
pub returns-clause-ok : goal.returns-clause-ok
returns-clause-ok c =
    on_ok_weaker c.check_enum_values.result (λ told. shown-own c.args.self.now c.enter.new.self _ c.enter.ensures.stays c.requires refl _ _ c.inside-name.ensures.level c.inside-name.ensures.full_name c.check_enum_values.new.faults
    (λ files. enum_faults files c.args.file c.args.path.now c.args.enumeration.now) refl c.in_ok-enter.ensures.ok c.in_ok-enter.ensures.scopes told.told c.check_enum_values.ensures.labels) c.check_enum_values.ensures.told
