use Rattle.std.proofs.Common.{◌≡◌, ◌-◌, List, [], length, map, take, drop, Ok, Err, rules, ap, sym, subst, ◌∙◌}
use Rattle.pool_types.specs.Contents.{ByText, Contents}
use Rattle.pool_types.specs.declared.contents.definition.Definition.{Definition}
use Rattle.pool_types.specs.declared.contents.file.FileDescriptorInner.{FileDescriptorInner}
use Rattle.proto_types.specs.declared.file.FileDescriptorProto.{FileDescriptorProto}
use Rattle.record_walk.specs.declared.counts.Counts.{Counts}
use Rattle.record_walk.specs.Declarations.{declarations}
use Rattle.record_walk.specs.Faults.{told_in}
use Rattle.record_walk.specs.Telling.{nothing_told, with_faults}
use Rattle.record_walk.specs.FullNames.{CanBeRead}
use Rattle.record_walk.proofs.FullNames.{declarations-read}
use Rattle.reference_pass.specs.Setting.{Setting}
use Rattle.pool_contents.specs.declared.inner.DescriptorPoolInner.{DescriptorPoolInner}
use Rattle.reference_pass.specs.SecondPass.{second_pass}
use Rattle.descriptor_pool.specs.Against.{setting_against}
use Rattle.reference_pass.proofs.Seen.{held}
use Rattle.pool_contents.specs.Growing.{new_records}
use Rattle.descriptor_pool.specs.Items.{HasItems}
use Rattle.descriptor_pool.proofs.Bases.{rest-records}
use Rattle.descriptor_pool.proofs.Passed.{no_items, nothing-held, references-end, refuse-tells, tells-err}
use Rattle.descriptor_pool.proofs.build.read_items.Goals as goal

-- the files that are shown
abbrev shown : Counts → List FileDescriptorInner → List FileDescriptorProto
shown base files = map (λ f. f.raw) (take (length files - base.files) (drop base.files files))

-- what declarations are read against, where labels name these files and names mean this
abbrev setting_at : List FileDescriptorInner → ByText Definition → DescriptorPoolInner → Setting
setting_at files names p = record { files = map (λ f. f.raw) files; names = names; file_names = p.file_names; seen = map (λ f. f.transitive_dependencies) files }

pub walk-requires-clause-ready : goal.walk-requires-clause-ready
walk-requires-clause-ready c =
    let p = c.args.pool.now in
    let rest = rest-records p.base.files c.deref.result.now p.inner.files.items c.deref.ensures.value in
    subst (λ (fs : List FileDescriptorProto). CanBeRead (declarations p.base fs)) (sym rest) (declarations-read p.base (new_records p) c.requires.counts)

-- all items are there
pub returns-clause-items : goal.returns-clause-items
returns-clause-items c =
    let p = c.args.pool.now in
    let v = c.walk.new.visitor in
    let fs = shown p.base c.deref.result.now in
    let rest = rest-records p.base.files c.deref.result.now p.inner.files.items c.deref.ensures.value in
    let began = held c.deref-3.result.now c.in_ok-items.items c.new.result in
    let is : setting_at c.new.result.labels c.new-2.result p.inner ≡ setting_against p.inner =
    λ i. setting_at ((c.new.ensures.labels ∙ c.deref-4.ensures.value) i) (c.new-2.ensures i) p.inner in
    let old = p.inner.extensions.items in
    let start = nothing_told c.args.terms.most in
    let none : began ≡ no_items start old = nothing-held c.deref-3.result.now c.in_ok-items.items c.new.result start c.in_ok-items.ensures.messages c.in_ok-items.ensures.enums c.in_ok-items.ensures.services c.in_ok-items.ensures.extensions c.new.ensures.told
    ∙ ap (no_items start) c.deref-3.ensures.value in
    let kept = ap (λ (x : Contents). x.extensions) c.walk.ensures.kept ∙ c.deref-3.ensures.value in
    let has = (references-end (setting_at c.new.result.labels c.new-2.result p.inner) v old began start p.base fs none kept (c.in_ok-walk.ensures.ok.after_is [])).0 in
    subst (λ (gs : List FileDescriptorProto). HasItems v.items (setting_against p.inner) (declarations p.base gs)) rest
    (subst (λ (s : Setting). HasItems v.items s (declarations p.base fs)) is has)

-- and there are no faults
pub returns-clause-faults : goal.returns-clause-faults
returns-clause-faults c =
    let p = c.args.pool.now in
    let v = c.walk.new.visitor in
    let fs = shown p.base c.deref.result.now in
    let rest = rest-records p.base.files c.deref.result.now p.inner.files.items c.deref.ensures.value in
    let began = held c.deref-3.result.now c.in_ok-items.items c.new.result in
    let is : setting_at c.new.result.labels c.new-2.result p.inner ≡ setting_against p.inner =
    λ i. setting_at ((c.new.ensures.labels ∙ c.deref-4.ensures.value) i) (c.new-2.ensures i) p.inner in
    let old = p.inner.extensions.items in
    let start = nothing_told c.args.terms.most in
    let none : began ≡ no_items start old = nothing-held c.deref-3.result.now c.in_ok-items.items c.new.result start c.in_ok-items.ensures.messages c.in_ok-items.ensures.enums c.in_ok-items.ensures.services c.in_ok-items.ensures.extensions c.new.ensures.told
    ∙ ap (no_items start) c.deref-3.ensures.value in
    let kept = ap (λ (x : Contents). x.extensions) c.walk.ensures.kept ∙ c.deref-3.ensures.value in
    let told = (references-end (setting_at c.new.result.labels c.new-2.result p.inner) v old began start p.base fs none kept (c.in_ok-walk.ensures.ok.after_is [])).1 in
    let all = told ∙ (λ i. with_faults start (second_pass (is i) old (declarations p.base (rest i)))) in
    refuse-tells {U = Unit {0}} c.args.terms.most (Ok tt) (told_in v.reading.faults) _ c.in_ok-refuse.ensures.ok tt all

-- or all of them are told
pub returns-in_err-refuse-clause-faults : goal.returns-in_err-refuse-clause-faults
returns-in_err-refuse-clause-faults c =
    let p = c.args.pool.now in
    let v = c.walk.new.visitor in
    let fs = shown p.base c.deref.result.now in
    let rest = rest-records p.base.files c.deref.result.now p.inner.files.items c.deref.ensures.value in
    let began = held c.deref-3.result.now c.in_ok-items.items c.new.result in
    let is : setting_at c.new.result.labels c.new-2.result p.inner ≡ setting_against p.inner =
    λ i. setting_at ((c.new.ensures.labels ∙ c.deref-4.ensures.value) i) (c.new-2.ensures i) p.inner in
    let old = p.inner.extensions.items in
    let start = nothing_told c.args.terms.most in
    let none : began ≡ no_items start old = nothing-held c.deref-3.result.now c.in_ok-items.items c.new.result start c.in_ok-items.ensures.messages c.in_ok-items.ensures.enums c.in_ok-items.ensures.services c.in_ok-items.ensures.extensions c.new.ensures.told
    ∙ ap (no_items start) c.deref-3.ensures.value in
    let kept = ap (λ (x : Contents). x.extensions) c.walk.ensures.kept ∙ c.deref-3.ensures.value in
    let told = (references-end (setting_at c.new.result.labels c.new-2.result p.inner) v old began start p.base fs none kept (c.in_ok-walk.ensures.ok.after_is [])).1 in
    let all = told ∙ (λ i. with_faults start (second_pass (is i) old (declarations p.base (rest i)))) in
    tells-err c.args.terms.most _ c.in_err-refuse.field-0.0 _ (search rules) (refuse-tells {U = Unit {0}} c.args.terms.most (Err c.in_err-refuse.field-0.0) (told_in v.reading.faults) _ tt c.in_err-refuse.ensures.err all)
