use Rattle.std.proofs.Common.{refl}
use Rattle.std.proofs.lemmas.Result.{on_ok_weaker}
use Rattle.name_pass.specs.CamelCase.{message_own_faults}
use Rattle.name_pass.proofs.Showing.{shown-own}
use Rattle.name_pass.proofs.names.NameVisitorVisitor.visit_message.Goals as goal

-- its name is entered, and what it breaks by itself is told
pub returns-clause-ok : goal.returns-clause-ok
returns-clause-ok c =
    on_ok_weaker c.check_camel_case_names.result (λ told. shown-own c.args.self.now c.enter.new.self _ c.enter.ensures.stays c.requires refl _ _ c.inside-name.ensures.level c.inside-name.ensures.full_name c.check_camel_case_names.new.faults
    (λ files. message_own_faults files c.args.file c.args.path.now c.args.message.now) refl c.in_ok-enter.ensures.ok c.in_ok-enter.ensures.scopes told.told c.check_camel_case_names.ensures.labels) c.check_camel_case_names.ensures.told
