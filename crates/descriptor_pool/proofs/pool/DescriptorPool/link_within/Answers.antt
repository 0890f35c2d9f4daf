use Rattle.std.proofs.Common.{◌≡◌, ℕ, true, eqb, List, [], ◌∷◌, ◌++◌, length, take, drop, append-nil, IsOk, Err, refl, ap, subst, sym, ◌∙◌, rules, arith}
use Rattle.std.proofs.lemmas.Bool.Decides.{nat_tests}
use Rattle.std.proofs.lemmas.List.{drop_all, take_all}
use Rattle.pool_types.specs.Contents.{Contents, files_of}
use Rattle.record_walk.specs.Short.{ShortFiles}
use Rattle.proto_types.specs.declared.file.FileDescriptorProto.{FileDescriptorProto}
use Rattle.record_walk.specs.Counts.{counts_in}
use Rattle.record_walk.specs.Fits.{counts_with}
use Rattle.pool_contents.specs.Inner.{contents_in}
use Rattle.descriptor_pool.specs.GivenBack.{GivesBack}
use Rattle.descriptor_pool.specs.Outcome.{IsLinked}
use Rattle.descriptor_pool.specs.Pool.{new_files, counts_after}
use Rattle.descriptor_pool.specs.Within.{OutcomeWithin}
use Rattle.descriptor_pool.proofs.Grown.{IsBehind, fits_of, outcome_with, pool_after}
use Rattle.descriptor_pool.proofs.Extendees.{numbers_lead}
use Rattle.descriptor_pool.proofs.Sound.{names_lie, short-behind}
use Rattle.descriptor_pool.proofs.NewFiles.{nothing_linked}
use Rattle.descriptor_pool.proofs.pool.DescriptorPool.link_within.Goals as goal

-- a list of length 0
nothing_in : {X : Type 0} (xs : List X) (n : ℕ) → n ≡ length xs → true ≡ eqb n 0 → xs ≡ []
nothing_in [] n is zero = refl
nothing_in (x ∷ xs) n is zero = absurd (grind (arith, nat_tests))

pub returns-then-is_empty-clause-outcome : goal.returns-then-is_empty-clause-outcome
returns-then-is_empty-clause-outcome c =
    let p = contents_in c.self.inside.inner in
    let kept = c.retain_new.ensures in
    let batch = c.retain_new.new.batch in
    let none = nothing_in batch.items batch.len batch.ok.0 c.if-is_empty.ensures in
    let P : Contents → Type 0 = λ q. IsLinked q c.args.files.now.items q in
    subst P c.self.view_is (nothing_linked p c.args.files.now.items (sym kept ∙ none) c.self.invariant.within)

pub returns-in-Err-clause-outcome : goal.returns-in-Err-clause-outcome
returns-in-Err-clause-outcome c =
    let p = c.args.self.now in
    let kept = c.retain_new.ensures ∙ ap (λ q. new_files q c.args.files.now.items) c.self.view_is in
    let first : counts_after p c.args.files.now.items ≡ Err c.in-Err.kind =
    ap (λ new. counts_with (counts_in p) new) (sym (c.deref.ensures.value ∙ kept))
    ∙ ap (λ base. counts_with base c.deref.result.now) (sym c.counts-base.ensures) ∙ sym c.with_files.ensures ∙ c.in-Err.is in
    record { first = first; unchanged = refl }

pub returns-in-Err-clause-nothing_new : goal.returns-in-Err-clause-nothing_new
returns-in-Err-clause-nothing_new c = λ nothing.
    let p = c.args.self.now in
    let kept = c.retain_new.ensures ∙ ap (λ q. new_files q c.args.files.now.items) c.self.view_is in
    let none : c.retain_new.new.batch.items ≡ [] = kept ∙ nothing in
    absurd (search rules)

pub invariant_of-self : goal.invariant_of-self
invariant_of-self c =
    let p = contents_in c.self.inside.inner in
    let kept = c.retain_new.ensures in
    let base_is = c.counts-base.ensures ∙ ap counts_in (sym c.self.view_is) in
    let ok : IsOk (counts_with c.counts-base.result c.deref.result.now) = rw (← c.with_files.ensures, c.in_default.is) refl in
    let fits = fits_of p c.counts-base.result c.args.files.now.items c.deref.result.now base_is (c.deref.ensures.value ∙ kept) ok in
    let Behind : List FileDescriptorProto → Type 0 = λ new. IsBehind c.args.most p new c.link.result (contents_in c.link.new.pool) in
    let behind : Behind c.deref_mut.result.now = record { ok = c.link.ensures.ok; told = c.link.ensures.faults; err = c.link.ensures.err; names = c.link.ensures.names } in
    pool_after c.args.most p c.args.files.now.items fits c.self.invariant c.link.result (contents_in c.link.new.pool) (subst Behind (c.deref_mut.ensures.value ∙ kept) behind)

pub link-requires-clause-before : goal.link-requires-clause-before
link-requires-clause-before c = names_lie (contents_in c.self.inside.inner) c.self.invariant

pub link-requires-clause-numbers : goal.link-requires-clause-numbers
link-requires-clause-numbers c = numbers_lead (contents_in c.self.inside.inner) c.self.invariant

-- no list of the pool's files and of the new ones is too long
pub link-requires-clause-short : goal.link-requires-clause-short
link-requires-clause-short c =
    let p = contents_in c.self.inside.inner in
    let base_is = c.counts-base.ensures ∙ ap counts_in (sym c.self.view_is) in
    let ok : IsOk (counts_with c.counts-base.result c.deref.result.now) = rw (← c.with_files.ensures, c.in_default.is) refl in
    let new = c.deref.ensures.value in
    let same = c.deref_mut.ensures.value in
    subst (λ fs. ShortFiles (files_of p ++ fs)) (sym same) (short-behind p c.self.invariant c.retain_new.new.batch.items (subst IsOk (λ i. counts_with (base_is i) (new i)) ok))

pub returns-clause-outcome : goal.returns-clause-outcome
returns-clause-outcome c =
    let p = contents_in c.self.inside.inner in
    let kept = c.retain_new.ensures in
    let base_is = c.counts-base.ensures ∙ ap counts_in (sym c.self.view_is) in
    let ok : IsOk (counts_with c.counts-base.result c.deref.result.now) = rw (← c.with_files.ensures, c.in_default.is) refl in
    let fits = fits_of p c.counts-base.result c.args.files.now.items c.deref.result.now base_is (c.deref.ensures.value ∙ kept) ok in
    let Behind : List FileDescriptorProto → Type 0 = λ new. IsBehind c.args.most p new c.link.result (contents_in c.link.new.pool) in
    let behind : Behind c.deref_mut.result.now = record { ok = c.link.ensures.ok; told = c.link.ensures.faults; err = c.link.ensures.err; names = c.link.ensures.names } in
    let P : Contents → Type 0 = λ old. OutcomeWithin c.args.most old c.args.files.now.items c.link.result (contents_in c.link.new.pool) in
    subst P c.self.view_is (outcome_with c.args.most p c.args.files.now.items fits c.link.result (contents_in c.link.new.pool) (subst Behind (c.deref_mut.ensures.value ∙ kept) behind))

pub returns-clause-nothing_new : goal.returns-clause-nothing_new
returns-clause-nothing_new c = λ nothing.
    let p = c.args.self.now in
    let kept = c.retain_new.ensures ∙ ap (λ q. new_files q c.args.files.now.items) c.self.view_is in
    let none : c.retain_new.new.batch.items ≡ [] = kept ∙ nothing in
    absurd (search rules)

-- a list that is written back as it was left
whole : {X : Type 0} (n : ℕ) (xs ys : List X) → length xs ≡ length ys → n ≡ length ys → xs ≡ take n (xs ++ drop (length xs) ys)
whole n xs ys same all =
    let none : drop (length xs) ys ≡ [] = drop_all (length xs) ys (omega (arith, same)) in
    sym (ap (λ zs. take n (xs ++ zs)) none ∙ ap (take n) (append-nil xs) ∙ take_all n xs (omega (arith, same, all)))

-- the new files are given back
pub returns-clause-back : goal.returns-clause-back
returns-clause-back c =
    let kept = c.deref_mut.ensures.value ∙ c.retain_new.ensures ∙ ap (λ q. new_files q c.args.files.now.items) c.self.view_is in
    let batch = c.retain_new.new.batch in
    let many : length c.link.new.new ≡ length batch.items = omega (arith, c.link.auto.new, ap length c.deref_mut.ensures.value) in
    let left = whole batch.len c.link.new.new batch.items many batch.ok.0 in
    subst (GivesBack c.link.result (new_files c.args.self.now c.args.files.now.items)) left
    (subst (λ new. GivesBack c.link.result new c.link.new.new) kept c.link.ensures.back)
