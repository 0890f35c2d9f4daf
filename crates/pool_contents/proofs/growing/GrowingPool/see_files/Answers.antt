use Rattle.std.proofs.Common.{◌≡◌, ◌≤◌, ◌+◌, length, ap, subst, sym, refl, ◌∙◌, arith}
use Rattle.std.proofs.lemmas.List.{length-take}
use Rattle.name_tables.specs.NameTables.{FileNamesBefore}
use Rattle.std.specs.FinMap as finite
use Rattle.name_resolution.specs.Sight.{AskedBefore}
use Rattle.pool_types.specs.Contents.{Contents, files_of}
use Rattle.pool_contents.specs.Growing.{first_new}
use Rattle.pool_contents.specs.Inner.{contents_in}
use Rattle.pool_contents.specs.declared.growing.GrowingPool.{GrowingPool}
use Rattle.pool_contents.proofs.Seeing.{seeing_up_to, seeing-none, seeing-all, seeing-next, length-seeing, raws-seeing}
use Rattle.pool_contents.proofs.growing.GrowingPool.see_files.Goals as goal

first-is : (p : GrowingPool) → p.base.files ≡ first_new p
first-is p = omega (arith, length-take p.base.files p.inner.files.items, p.files_within)

pub loop-file-init : goal.loop-file-init
loop-file-init c =
    let p = c.args.self.now in
    let none = seeing-none p in
    record {
      is = λ i. record (contents_in p.inner) { files = sym (ap (seeing_up_to p) (first-is p) ∙ none) i };
      kept = refl;
      asked = c.in_ok-sight.ensures (files_of (contents_in p.inner)) (finite.get p.inner.file_names) p.base.files;
    }

-- there are as many files as there were
pub see_file-requires-clause-here : goal.see_file-requires-clause-here
see_file-requires-clause-here c =
    let many = ap (λ (x : Contents). length x.files) c.loop-file.invariant.is ∙ length-seeing c.args.self.now c.loop-file.file in
    omega (arith, many, c.loop-file-test.true, c.len-end.ensures)

pub see_file-requires-clause-places : goal.see_file-requires-clause-places
see_file-requires-clause-places c =
    let p = c.args.self.now in
    let is = c.loop-file.invariant.is in
    let many = ap (λ (x : Contents). length x.files) is ∙ length-seeing p c.loop-file.file in
    subst (λ (x : Contents). FileNamesBefore (length x.files) x.file_names) (sym is) (subst (λ n. FileNamesBefore n p.inner.file_names) (sym (length-seeing p c.loop-file.file)) c.requires.places)

-- the files are the records that they were
pub see_file-requires-clause-asked : goal.see_file-requires-clause-asked
see_file-requires-clause-asked c =
    let p = c.args.self.now in
    subst (λ (x : Contents). AskedBefore (files_of x) (finite.get x.file_names) c.loop-file.file c.loop-file.sight) (sym c.loop-file.invariant.is)
    (subst (λ fs. AskedBefore fs (finite.get p.inner.file_names) c.loop-file.file c.loop-file.sight) (sym (raws-seeing p c.loop-file.file)) c.loop-file.invariant.asked)

-- one more file has those that it sees
pub loop-file-preserved : goal.loop-file-preserved
loop-file-preserved c =
    let p = c.args.self.now in
    let q = c.loop-file.self in
    let k = c.loop-file.file in
    let came : first_new p ≤ k = omega (arith, first-is p, c.loop-file.auto.file) in
    let next = seeing-next p q k came c.loop-file.invariant.is in
    record {
      is = c.in_ok-see_file.ensures.ok ∙ (λ i. record (c.loop-file.invariant.is i) { files = next i });
      kept = c.see_file.ensures.kept ∙ c.loop-file.invariant.kept;
      asked = subst (λ fs. AskedBefore fs (finite.get p.inner.file_names) (k + 1) c.see_file.new.sight) (raws-seeing p k)
          (subst (λ (x : Contents). AskedBefore (files_of x) (finite.get x.file_names) (k + 1) c.see_file.new.sight) c.loop-file.invariant.is c.in_ok-see_file.ensures.asked);
    }

pub returns-clause-ok : goal.returns-clause-ok
returns-clause-ok c =
    let p = c.args.self.now in
    let all = seeing-all p c.loop-file.file (omega (arith, c.loop-file-test.false, c.len-end.ensures)) in
    c.loop-file.invariant.is ∙ (λ i. record (contents_in p.inner) { files = all i })
