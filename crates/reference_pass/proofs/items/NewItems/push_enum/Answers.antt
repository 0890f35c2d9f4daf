use Rattle.std.proofs.Common.{◌++◌, ◌∷◌, [], ap, subst, sym, ◌∙◌}
use Rattle.std.proofs.lemmas.List.Elements.{All-push}
use Rattle.std.specs.List.{All}
use Rattle.field_rules.specs.NamesBegin.{EnumNamesBegin}
use Rattle.reference_pass.proofs.items.NewItems.push_enum.Goals as goal

-- the names of one more enum begin where a character begins
pub returns-clause-names : goal.returns-clause-names
returns-clause-names c = λ old own. record {
  messages = old.messages;
  enums = subst (All EnumNamesBegin) (sym (c.push_reserved.ensures.items ∙ ap (λ items. items ++ c.args.enumeration ∷ []) c.reserve.ensures.items)) (All-push EnumNamesBegin c.args.self.now.enums.items c.args.enumeration old.enums own);
  services = old.services;
  extensions = old.extensions;
}
