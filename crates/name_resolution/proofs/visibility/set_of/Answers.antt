use Rattle.std.proofs.Common.{◌||◌, OnOk, ap, subst, ◌∙◌}
use Rattle.std.specs.BTreeSet.{InsertsAll}
use Rattle.std.specs.List.{list_any}
use Rattle.std.specs.Ordering.{nat_cmp, eq_by_cmp}
use Rattle.std.proofs.lemmas.Iterator.{YieldsList-from_slice}
use Rattle.std.proofs.lemmas.Iterator.Adapters.{items_from_extend}
use Rattle.std.proofs.lemmas.Iterator.Consumers.{YieldsList-from_copied}
use Rattle.name_resolution.proofs.visibility.set_of.Goals as goal

-- a short list is put in one after another
pub returns : goal.returns
returns c =
    let all : InsertsAll nat_cmp c.new-set.result c.args.files.now c.extend.new.self =
    subst (λ r. OnOk r (InsertsAll nat_cmp c.new-set.result c.args.files.now c.extend.new.self)) c.in_ok-extend.was
    (items_from_extend c.extend.result c.extend.ensures.ran (YieldsList-from_copied (YieldsList-from_slice c.args.files.now cc))) in
    (λ q. all.0 q ∙ ap (λ ks. list_any (eq_by_cmp nat_cmp q) ks || list_any (eq_by_cmp nat_cmp q) c.args.files.now) c.new-set.ensures.empty, all.1)
