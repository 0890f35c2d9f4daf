use Rattle.std.proofs.Common.{◌++◌, ◌∷◌, [], ap, subst, sym, ◌∙◌}
use Rattle.std.proofs.lemmas.List.Elements.{All-push}
use Rattle.std.specs.List.{All}
use Rattle.reference_pass.specs.NamesBegin.{ServiceNamesBegin}
use Rattle.reference_pass.proofs.items.NewItems.push_service.Goals as goal

-- the names of one more service begin where a character begins
pub returns-clause-names : goal.returns-clause-names
returns-clause-names c = λ old own. record {
  messages = old.messages;
  enums = old.enums;
  services = subst (All ServiceNamesBegin) (sym (c.push_reserved.ensures.items ∙ ap (λ items. items ++ c.args.service ∷ []) c.reserve.ensures.items)) (All-push ServiceNamesBegin c.args.self.now.services.items c.args.service old.services own);
  extensions = old.extensions;
}
