use Rattle.std.proofs.Common.{Some, ap, sym, ◌∙◌, arith}
use Rattle.std.specs.Option.{option_map}
use Rattle.link_script.proofs.Rest.{without-space, with-space}
use Rattle.link_script.proofs.script.rest.behind_first_space.Goals as goal

pub returns-in_err-rest : goal.returns-in_err-rest
returns-in_err-rest c = ap (option_map (λ rest. rest.now)) c.from_residual.ensures ∙ sym (without-space c.args.line.now (c.in_err-rest.ensures.byte (omega arith) (λ w o h. h)))

pub returns : goal.returns
returns c =
    let around = c.in_ok-rest.ensures.byte (omega arith) (λ w o h. h) in
    ap Some around.1 ∙ sym (with-space c.args.line.now around.2)
