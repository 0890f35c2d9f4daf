use Rattle.std.proofs.Common.{◌≡◌, ◌<◌, ◌≤◌, ◌+◌, [], ◌∷◌, length, ap, sym, subst, ◌∙◌, arith}
use Rattle.std.specs.BTreeSet.{IsFromIterResult}
use Rattle.std.specs.FinMap as finite
use Rattle.std.specs.Ordering.{nat_cmp}
use Rattle.std.specs.Result.{IfOk}
use Rattle.std.proofs.lemmas.Result.{IfOk-weaker}
use Rattle.name_resolution.specs.Seen.{with_each}
use Rattle.name_resolution.proofs.Linked.{raws, few-seen, here-below, all-seen, seen-keys}
use Rattle.name_resolution.proofs.Reached.{Reached, Reached-first, Reached-next, first-seen}
use Rattle.name_resolution.proofs.visibility.Sight.visible_from.Goals as goal

-- the file and its imports are seen first
pub loop-next-init : goal.loop-next-init
loop-next-init c =
    let fs = raws c.args.files.now in
    let numbers = finite.get c.args.file_names.now in
    let file = c.args.file in
    let one = c.in_ok-see.ensures in
    let more = c.in_ok-see_each.ensures in
    let begun = c.begin.ensures.seen in
    let first = one.files begun ∙ ap (λ xs. with_each xs (file ∷ [])) c.begin.ensures.files in
    let list : c.see_each.new.self.files.items ≡ first-seen fs numbers file =
    more.files (one.seen begun) ∙ ap (λ xs. with_each xs c.args.imports.now) first ∙ ap (with_each (with_each [] (file ∷ []))) c.requires.imports in
    record {
      reached = subst (λ xs. Reached fs numbers file xs 0) (sym list) (Reached-first fs numbers file);
      now = more.seen (one.seen begun);
      by = more.by ∙ one.by ∙ c.begin.ensures.by;
      publics = c.requires.asked.publics;
    }

pub see_public_imports-requires-clause-here : goal.see_public_imports-requires-clause-here
see_public_imports-requires-clause-here c =
    let seen = c.loop-next.self.seen.files in
    let below : c.loop-next.next < length seen.items = omega (arith, c.loop-next-test.true, c.len.ensures, seen.ok.0) in
    here-below c.args.files.now c.args.file_names.now c.args.file c.requires.here c.requires.places seen.items c.loop-next.next c.index-seen.result.now c.loop-next.invariant.reached below c.index-seen.ensures

pub loop-next-smaller : goal.loop-next-smaller
loop-next-smaller c =
    let seen = c.loop-next.self.seen.files in
    let few = few-seen c.args.files.now c.args.file_names.now c.args.file c.requires.here c.requires.places seen.items c.loop-next.next c.loop-next.invariant.reached in
    omega (arith, few, c.loop-next-test.true, c.len.ensures, seen.ok.0)

-- the public imports of one more file are seen
pub loop-next-preserved : goal.loop-next-preserved
loop-next-preserved c =
    let fs = raws c.args.files.now in
    let numbers = finite.get c.args.file_names.now in
    let file = c.args.file in
    let before = c.loop-next.invariant in
    let seen = c.loop-next.self.seen.files in
    let next = c.loop-next.next in
    let x = c.index-seen.result.now in
    let step = c.in_ok-see_public_imports.ensures.sees in
    let below : next < length seen.items = omega (arith, c.loop-next-test.true, c.len.ensures, seen.ok.0) in
    record {
      reached = subst (λ xs. Reached fs numbers file xs (next + 1)) (sym (step.files before.now)) (Reached-next fs numbers file seen.items next x before.reached below c.index-seen.ensures);
      now = step.seen before.now;
      by = step.by ∙ before.by;
      publics = c.in_ok-see_public_imports.ensures.publics;
    }

pub returns-clause-sees : goal.returns-clause-sees
returns-clause-sees c =
    let seen = c.loop-next.self.seen.files in
    let all : length seen.items ≤ c.loop-next.next = omega (arith, c.loop-next-test.false, c.len.ensures, seen.ok.0) in
    let items : c.deref.result.now ≡ seen.items = c.deref.ensures.value in
    IfOk-weaker c.set_of.result _ _
    (λ set made. all-seen c.args.files.now c.args.file_names.now c.args.file c.requires.here c.requires.places seen.items c.loop-next.next c.loop-next.invariant.reached all set made)
    (subst (λ xs. IfOk c.set_of.result (λ set. IsFromIterResult nat_cmp xs set)) items c.set_of.ensures)

pub returns-clause-keys : goal.returns-clause-keys
returns-clause-keys c =
    let seen = c.loop-next.self.seen.files in
    let all : length seen.items ≤ c.loop-next.next = omega (arith, c.loop-next-test.false, c.len.ensures, seen.ok.0) in
    let items : c.deref.result.now ≡ seen.items = c.deref.ensures.value in
    IfOk-weaker c.set_of.result _ _
    (λ set made. seen-keys c.args.files.now c.args.file_names.now c.args.file c.requires.here c.requires.places seen.items c.loop-next.next c.loop-next.invariant.reached all set made)
    (subst (λ xs. IfOk c.set_of.result (λ set. IsFromIterResult nat_cmp xs set)) items c.set_of.ensures)
