use Rattle.std.proofs.Common.{subst}
use Rattle.std.specs.Prelude.{IsTrue, ◌↔◌}
use Rattle.plain_data.specs.Maps.{IsWithin, HasAll}
use Rattle.plain_data.proofs.NumberRows.{told-by-first, told-by-others}
use Rattle.plain_data.proofs.number_map.NumberMap.is_within.Goals as goal

pub returns-then-has_others : goal.returns-then-has_others
returns-then-has_others c =
    let m = c.self.inside in
    subst (λ own. IsTrue c.has_all.result ↔ IsWithin own c.args.other.now) c.self.view_is
    (told-by-first m.entries.items m.others c.args.other.now c.self.invariant c.has_others.ensures.ordered c.has_all.result
    (c.has_others.ensures.all.0 c.if-has_others.true)
    (subst (λ es. IsTrue c.has_all.result ↔ HasAll es c.args.other.now) c.as_slice.ensures.value c.has_all.ensures))

pub returns-else-has_others : goal.returns-else-has_others
returns-else-has_others c =
    let m = c.self.inside in
    subst (λ own. IsTrue c.has_others.result ↔ IsWithin own c.args.other.now) c.self.view_is
    (told-by-others m.entries.items m.others c.args.other.now c.self.invariant c.has_others.ensures.ordered c.has_others.result
    c.if-has_others.false c.has_others.ensures.all)
