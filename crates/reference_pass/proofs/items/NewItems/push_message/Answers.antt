use Rattle.std.proofs.Common.{◌++◌, ◌∷◌, [], ap, subst, sym, ◌∙◌}
use Rattle.std.proofs.lemmas.List.Elements.{All-push}
use Rattle.std.specs.List.{All}
use Rattle.reference_pass.specs.NamesBegin.{MessageNamesBegin}
use Rattle.reference_pass.proofs.items.NewItems.push_message.Goals as goal

-- the names of one more message begin where a character begins
pub returns-clause-names : goal.returns-clause-names
returns-clause-names c = λ old own. record {
  messages = subst (All MessageNamesBegin) (sym (c.push_reserved.ensures.items ∙ ap (λ items. items ++ c.args.message ∷ []) c.reserve.ensures.items)) (All-push MessageNamesBegin c.args.self.now.messages.items c.args.message old.messages own);
  enums = old.enums;
  services = old.services;
  extensions = old.extensions;
}
