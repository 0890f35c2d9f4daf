use Rattle.std.proofs.Common.{◌≡◌, ℕ, List, ◌++◌, string_bytes, sym, subst, ◌∙◌, arith}
use Rattle.std.specs.List.{flat_map}
use Rattle.std.proofs.lemmas.Iterator.{YieldsList-from_chars}
use Rattle.std.proofs.lemmas.Iterator.Consumers.{YieldsList-end}
use Rattle.std.proofs.lemmas.Grind.{common_steps}
use Rattle.std.proofs.lemmas.List.{map-id}
use Rattle.verdict_texts.specs.Percent.{message, message_char}
use Rattle.verdict_texts.proofs.percent.write_message.Goals as goal

-- all characters were yielded
pub returns : goal.returns
unfolding message
returns c =
    let t = YieldsList-end (YieldsList-from_chars c.args.value.now c.utf8.value cc) c.loop-c.yielded _ c.loop-c.yielded_by _ _ c.in-None.is c.next.ensures.steps in
    subst (λ (cs : List ℕ). string_bytes c.loop-c.text ≡ string_bytes c.args.text.now ++ flat_map message_char cs)
    (sym (map-id c.loop-c.yielded) ∙ t.0) (grind (arith, common_steps))
