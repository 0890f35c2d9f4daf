use Rattle.std.proofs.lemmas.Grind.{common_steps}
use Rattle.std.proofs.Common.{◌≡◌, refl, ap, reverse, ◌∙◌, arith}
use Rattle.link_script.specs.Building.{closed_in}
use Rattle.link_script.proofs.Innermost.{innermost_of, reverse-last}
use Rattle.link_script.proofs.records.RecordBuilder.close.Goals as goal

pub returns-in_ok-close_in : goal.returns-in_ok-close_in
returns-in_ok-close_in c =
    let records = c.pop.new.self in
    let is : c.shrunk-inner.result ≡ c.in-Some.closed = c.shrunk-inner.ensures in
    let outer = innermost_of records.items records.len c.in-Some-last_mut.outer.now c.close_in.new.self records.ok.0 (c.in-Some-last_mut.ensures.variant.0 refl) c.in-Some-last_mut.ensures.value in
    rw (ap reverse c.in-Some.ensures.items ∙ reverse-last records.items c.in-Some.closed, outer.before, outer.after, c.in_ok-close_in.ensures ∙ ap (λ o. closed_in o c.in-Some-last_mut.outer.now) is) refl

pub returns-after-inner : goal.returns-after-inner
returns-after-inner c = grind (arith, common_steps)
