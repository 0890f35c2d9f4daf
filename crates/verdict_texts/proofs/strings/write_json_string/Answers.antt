use Rattle.std.proofs.Common.{◌≡◌, ℕ, List, [], ◌∷◌, ◌++◌, OnOk, string_bytes, sym, subst, ◌∙◌, arith, append_assoc}
use Rattle.std.specs.List.{flat_map}
use Rattle.std.proofs.lemmas.Iterator.{YieldsList-from_chars}
use Rattle.std.proofs.lemmas.Iterator.Consumers.{YieldsList-end}
use Rattle.std.proofs.lemmas.Grind.{common_steps}
use Rattle.verdict_texts.specs.JsonStrings.{json_char, json_string}
use Rattle.std.proofs.lemmas.List.{map-id}
use Rattle.verdict_texts.proofs.strings.write_json_string.Goals as goal

-- all characters were yielded
pub returns : goal.returns
unfolding json_string
returns c =
    let t = YieldsList-end (YieldsList-from_chars c.args.value.now c.utf8.value cc) c.loop-c.yielded _ c.loop-c.yielded_by _ _ c.in-None.is c.next.ensures.steps in
    subst (λ (cs : List ℕ). OnOk c.push-2.result (string_bytes c.push-2.new.self ≡ string_bytes c.args.text.now ++ (34 ∷ (flat_map json_char cs ++ 34 ∷ []))))
    (sym (map-id c.loop-c.yielded) ∙ t.0) (grind (arith, common_steps, append_assoc))
