use Rattle.std.proofs.Common.{◌≡◌, ◌++◌, ◌+◌, ◌∙◌, ap, append_assoc, string_bytes, take, arith}
use Rattle.std.proofs.lemmas.Grind.{common_steps}
use Rattle.std.specs.List.{flat_map}
use Rattle.pool_descriptions.specs.Items.{extension_text}
use Rattle.pool_descriptions.proofs.extension.write_extensions.Goals as goal

pub loop-extension-preserved : goal.loop-extension-preserved
loop-extension-preserved c =
    let before = string_bytes c.args.text.now in
    let tell = extension_text c.args.pool.now in
    let all = c.args.pool.now.extensions in
    let at = c.loop-extension.extension-index in
    let line = tell c.extension-item.result in
    let next : flat_map tell (take at all) ++ line ≡ flat_map tell (take (at + 1) all) = grind (arith, common_steps) in
    c.in_ok-write_extension.ensures ∙ ap (λ told. told ++ line) c.loop-extension.invariant
    ∙ append_assoc before (flat_map tell (take at all)) line ∙ ap (λ rest. before ++ rest) next
