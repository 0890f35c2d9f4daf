use Rattle.std.proofs.Common.{refl}
use Rattle.name_pass.proofs.Showing.{shown-named}
use Rattle.name_pass.proofs.names.NameVisitorVisitor.visit_service.Goals as goal

-- its name is entered
pub returns-clause-ok : goal.returns-clause-ok
returns-clause-ok c =
    shown-named c.args.self.now c.enter.new.self _ c.enter.ensures.stays c.requires refl _ _ c.inside-name.ensures.level c.inside-name.ensures.full_name
    c.enter.result refl c.enter.ensures.ok c.enter.ensures.scopes
