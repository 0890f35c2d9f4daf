use Rattle.std.proofs.Common.{◌==◌, not, map, filter, ap, sym, ◌∙◌, rules}
use Rattle.std.specs.Char.{to_ascii_lowercase}
use Rattle.std.proofs.lemmas.List.Elements.{filter_from_retain}
use lib.Utf8.{encodes}
use Rattle.name_pass.proofs.Keys.{filter-encodes}
use Rattle.name_pass.proofs.camel_case.camel_case_key.Goals as goal

-- the bytes that stay are those of the characters that stay
pub returns : goal.returns
returns c =
    let told = c.retain.ensures.filtered in
    let chosen = filter_from_retain _ (λ x. not (x == 95)) (λ p x b q t. search rules) _ _ _ told.chosen in
    c.make_ascii_lowercase.ensures.bytes
    ∙ ap (map to_ascii_lowercase) (told.stay ∙ ap encodes chosen ∙ sym (filter-encodes told.all)
    ∙ ap (filter (λ x. not (x == 95))) (told.spell ∙ c.in_ok-key.ensures.ok))
