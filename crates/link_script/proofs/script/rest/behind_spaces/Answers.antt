use Rattle.std.proofs.Common.{None, ◌∙◌, arith}
use Rattle.std.proofs.lemmas.Str.Pattern.{strip_prefix_char}
use Rattle.link_script.proofs.Rest.{no-space}
use Rattle.link_script.proofs.script.rest.behind_spaces.Goals as goal

pub returns : goal.returns
returns c =
    let rest = c.loop-more.rest.now in
    no-space rest (strip_prefix_char 32 rest None c.in_default.ensures.cases (omega arith)) ∙ c.loop-more.invariant.same
