use Rattle.std.proofs.Common.{◌≡◌, ap, sym, ◌∙◌, subst, length, rules, Some}
use Rattle.std.proofs.lemmas.List.{get_or_read}
use Rattle.std.specs.FinMap as map
use Rattle.plain_data.specs.NumberRows.{Rise, HasKey, FitsAt, AreApart, joined}
use Rattle.plain_data.proofs.NumberRows.{get-has, get-fits, none-in-empty, apart-set, joined-set, apart-insert, joined-insert, apart-others, joined-updated, apart-same}
use Rattle.plain_data.proofs.number_map.NumberMap.replace_any.Goals as goal

pub place_of-requires : goal.place_of-requires
place_of-requires c = subst Rise (sym c.as_slice.ensures.value) c.self.invariant.rising

pub invariant_of-self : goal.invariant_of-self
invariant_of-self c =
    let m = c.self.inside in
    let has : HasKey m.entries.items c.args.key c.in-Ok.at = subst (λ es. HasKey es c.args.key c.in-Ok.at) c.as_slice.ensures.value c.in-Ok.ensures in
    apart-set m.entries.items m.others c.args.key _ c.in-Ok.at c.self.invariant has

pub returns-in-Ok-clause-ok : goal.returns-in-Ok-clause-ok
returns-in-Ok-clause-ok c =
    let m = c.self.inside in
    let has : HasKey m.entries.items c.args.key c.in-Ok.at = subst (λ es. HasKey es c.args.key c.in-Ok.at) c.as_slice.ensures.value c.in-Ok.ensures in
    joined-set m.entries.items m.others c.args.key c.args.number c.in-Ok.at c.self.invariant has
    ∙ ap (λ made. map.insert made c.args.key c.args.number) c.self.view_is

pub invariant_of-self-in_err-earlier-in-Err : goal.invariant_of-self-in_err-earlier-in-Err
invariant_of-self-in_err-earlier-in-Err c =
    let m = c.self.inside in
    apart-same m.entries.items m.others c.insert.new.self c.in_err-earlier-in-Err.ensures.err c.self.invariant

pub invariant_of-self-then-not-is_empty : goal.invariant_of-self-then-not-is_empty
invariant_of-self-then-not-is_empty c =
    let m = c.self.inside in
    let fits : FitsAt m.entries.items c.args.key c.in-Err.at = subst (λ es. FitsAt es c.args.key c.in-Err.at) c.as_slice.ensures.value c.in-Err.ensures in
    apart-others m.entries.items m.others c.insert.new.self c.args.key c.in-Err.at _ fits c.self.invariant c.in_ok-earlier-in-Err.ensures.updates

pub returns-then-not-is_empty-clause-ok : goal.returns-then-not-is_empty-clause-ok
returns-then-not-is_empty-clause-ok c =
    let m = c.self.inside in
    let fits : FitsAt m.entries.items c.args.key c.in-Err.at = subst (λ es. FitsAt es c.args.key c.in-Err.at) c.as_slice.ensures.value c.in-Err.ensures in
    joined-updated m.entries.items m.others c.args.key c.args.number c.in-Err.at fits c.insert.new.self c.in_ok-earlier-in-Err.ensures.updates
    ∙ ap (λ made. map.insert made c.args.key c.args.number) c.self.view_is

pub invariant_of-self-then-moved-gt-FEW : goal.invariant_of-self-then-moved-gt-FEW
invariant_of-self-then-moved-gt-FEW c =
    let m = c.self.inside in
    let fits : FitsAt m.entries.items c.args.key c.in-Err.at = subst (λ es. FitsAt es c.args.key c.in-Err.at) c.as_slice.ensures.value c.in-Err.ensures in
    let none : length m.others.entries ≡ 0 = search rules in
    subst (λ es. AreApart es m.others) (sym c.in_ok-put-in-Err.ensures.ok)
    (apart-insert m.entries.items m.others c.args.key c.args.number c.in-Err.at fits c.self.invariant none)

pub invariant_of-self-else-moved-gt-FEW : goal.invariant_of-self-else-moved-gt-FEW
invariant_of-self-else-moved-gt-FEW c =
    let m = c.self.inside in
    let fits : FitsAt m.entries.items c.args.key c.in-Err.at = subst (λ es. FitsAt es c.args.key c.in-Err.at) c.as_slice.ensures.value c.in-Err.ensures in
    let none : length m.others.entries ≡ 0 = search rules in
    subst (λ es. AreApart es m.others) (sym c.in_ok-put-in-Err.ensures.ok)
    (apart-insert m.entries.items m.others c.args.key c.args.number c.in-Err.at fits c.self.invariant none)

pub returns-then-moved-gt-FEW-clause-ok : goal.returns-then-moved-gt-FEW-clause-ok
returns-then-moved-gt-FEW-clause-ok c =
    let m = c.self.inside in
    let fits : FitsAt m.entries.items c.args.key c.in-Err.at = subst (λ es. FitsAt es c.args.key c.in-Err.at) c.as_slice.ensures.value c.in-Err.ensures in
    c.settle.ensures
    ∙ ap (λ es. joined es m.others) c.in_ok-put-in-Err.ensures.ok
    ∙ joined-insert m.entries.items m.others c.args.key c.args.number c.in-Err.at fits
    ∙ ap (λ made. map.insert made c.args.key c.args.number) c.self.view_is

pub returns-else-moved-gt-FEW-clause-ok : goal.returns-else-moved-gt-FEW-clause-ok
returns-else-moved-gt-FEW-clause-ok c =
    let m = c.self.inside in
    let fits : FitsAt m.entries.items c.args.key c.in-Err.at = subst (λ es. FitsAt es c.args.key c.in-Err.at) c.as_slice.ensures.value c.in-Err.ensures in
    ap (λ es. joined es m.others) c.in_ok-put-in-Err.ensures.ok
    ∙ joined-insert m.entries.items m.others c.args.key c.args.number c.in-Err.at fits
    ∙ ap (λ made. map.insert made c.args.key c.args.number) c.self.view_is

pub returns-in-Ok-clause-earlier : goal.returns-in-Ok-clause-earlier
returns-in-Ok-clause-earlier c =
    let m = c.self.inside in
    let has : HasKey m.entries.items c.args.key c.in-Ok.at = subst (λ es. HasKey es c.args.key c.in-Ok.at) c.as_slice.ensures.value c.in-Ok.ensures in
    ap (λ e. Some e.1) (get_or_read m.entries.items c.in-Ok.at c.index.result.now has.0 c.index.ensures (0, 0))
    ∙ sym (get-has m.entries.items m.others c.args.key c.in-Ok.at c.self.invariant has)
    ∙ ap (λ made. map.get made c.args.key) c.self.view_is

pub returns-then-not-is_empty-clause-earlier : goal.returns-then-not-is_empty-clause-earlier
returns-then-not-is_empty-clause-earlier c =
    let m = c.self.inside in
    let fits : FitsAt m.entries.items c.args.key c.in-Err.at = subst (λ es. FitsAt es c.args.key c.in-Err.at) c.as_slice.ensures.value c.in-Err.ensures in
    c.in_ok-earlier-in-Err.ensures.old
    ∙ sym (get-fits m.entries.items m.others c.args.key c.in-Err.at fits)
    ∙ ap (λ made. map.get made c.args.key) c.self.view_is

pub returns-then-moved-gt-FEW-clause-earlier : goal.returns-then-moved-gt-FEW-clause-earlier
returns-then-moved-gt-FEW-clause-earlier c =
    let m = c.self.inside in
    let fits : FitsAt m.entries.items c.args.key c.in-Err.at = subst (λ es. FitsAt es c.args.key c.in-Err.at) c.as_slice.ensures.value c.in-Err.ensures in
    let none : length m.others.entries ≡ 0 = search rules in
    sym (get-fits m.entries.items m.others c.args.key c.in-Err.at fits ∙ none-in-empty m.others none c.args.key)
    ∙ ap (λ made. map.get made c.args.key) c.self.view_is

pub returns-else-moved-gt-FEW-clause-earlier : goal.returns-else-moved-gt-FEW-clause-earlier
returns-else-moved-gt-FEW-clause-earlier c =
    let m = c.self.inside in
    let fits : FitsAt m.entries.items c.args.key c.in-Err.at = subst (λ es. FitsAt es c.args.key c.in-Err.at) c.as_slice.ensures.value c.in-Err.ensures in
    let none : length m.others.entries ≡ 0 = search rules in
    sym (get-fits m.entries.items m.others c.args.key c.in-Err.at fits ∙ none-in-empty m.others none c.args.key)
    ∙ ap (λ made. map.get made c.args.key) c.self.view_is
