use Rattle.std.proofs.Common.{◌≡◌, ◌<◌, ◌-◌, ◌++◌, ◌∷◌, [], length, vec_len, get_or, ap, sym, ◌∙◌, subst, arith}
use Rattle.name_tables.specs.PartTexts.{cut_from, RiseFrom}
use Rattle.name_tables.proofs.PartTexts.{length-cut, cut-pushed, rise-popped}
use Rattle.name_tables.proofs.part_texts.PartTexts.pop.Goals as goal

-- the end that goes is the last
last : (c : goal.After-pop) → c.self.inside.ends.items ≡ c.pop.new.self.items ++ get_or c.self.inside.ends.items (vec_len c.self.inside.ends - 1) 0 ∷ []
last c =
    let some : 0 < vec_len c.self.inside.ends = omega (arith, length-cut 0 c.self.inside.bytes.items c.self.inside.ends.items, ap length c.self.view_is, c.self.inside.ends.ok.0) in
    rw (c.pop.ensures.value 0 some) at c.pop.ensures.items

pub invariant_of-self : goal.invariant_of-self
invariant_of-self c =
    rise-popped 0 c.pop.new.self.items (get_or c.self.inside.ends.items (vec_len c.self.inside.ends - 1) 0) (length c.self.inside.bytes.items)
    (subst (λ ends. RiseFrom 0 ends (length c.self.inside.bytes.items)) (last c) c.self.invariant)

pub returns : goal.returns
returns c =
    (_, sym c.self.view_is ∙ ap (λ ends. cut_from 0 c.self.inside.bytes.items ends) (last c) ∙ cut-pushed 0 c.self.inside.bytes.items c.pop.new.self.items _)
