use Rattle.std.proofs.Common.{◌≡◌, ℕ, List, [], ◌∷◌, ◌++◌, sym, subst, ◌∙◌, arith, rules}
use Rattle.std.proofs.Output.{has_written_append, has_written_of_eq}
use Rattle.std.proofs.lemmas.Grind.{common_steps}
use Rattle.std.proofs.lemmas.Iterator.{YieldsList-from_chars}
use Rattle.std.proofs.lemmas.Iterator.Consumers.{YieldsList-end}
use Rattle.std.proofs.lemmas.List.{map-id}
use Rattle.std.specs.Fmt.{HasWritten}
use Rattle.std.specs.List.{flat_map}
use Rattle.verdict_texts.specs.Lines.{plain_char, plain_text}
use Rattle.verdict_texts.proofs.plain.fmt_text.Goals as goal

-- the character comes behind those so far
pub loop-c-preserved : goal.loop-c-preserved
loop-c-preserved g c = λ plain.
    let told = flat_map plain_char c.loop-c.yielded in
    let one = plain_char c.in-Some.c in
    let next : told ++ one ≡ flat_map plain_char (c.loop-c.yielded ++ c.in-Some.c ∷ []) = grind (arith, common_steps) in
    has_written_of_eq _ _ _ _ _ next (has_written_append _ _ told _ one _ (c.loop-c.invariant plain) (search rules))

-- all characters were yielded
pub returns : goal.returns
unfolding plain_text
returns g c = λ plain _.
    let t = YieldsList-end (YieldsList-from_chars c.args.text.now c.utf8.text cc) c.loop-c.yielded _ c.loop-c.yielded_by _ _ c.in-None.is c.next.ensures.steps in
    subst (λ (cs : List ℕ). HasWritten g.W.Write.write_str_gives c.args.f.now (flat_map plain_char cs) c.loop-c.f)
    (sym (map-id c.loop-c.yielded) ∙ t.0) (c.loop-c.invariant plain)
