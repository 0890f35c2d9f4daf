use Rattle.std.proofs.Common.{◌≡◌, ◌∙◌, length, rules}
use Rattle.std.specs.BTreeMap.{IsFromIterResult}
use Rattle.std.specs.Ordering.{nat_cmp}
use Rattle.plain_data.proofs.NumberRows.{joined-settled}
use Rattle.plain_data.proofs.number_map.NumberMap.settle.Goals as goal

pub returns-in-Ok : goal.returns-in-Ok
returns-in-Ok c =
    let m = c.self.inside in
    let none : length m.others.entries ≡ 0 = search rules in
    let made : IsFromIterResult nat_cmp m.entries.items c.in-Ok.others = search rules in
    joined-settled m.entries.items c.new.result.items m.others c.in-Ok.others c.self.invariant.rising none c.new.ensures.items made
    ∙ c.self.view_is
