use Rattle.std.proofs.Common.{map, ap, ◌∙◌}
use Rattle.std.specs.List.{fold}
use Rattle.pool_types.specs.Contents.{files_of}
use Rattle.record_walk.specs.Declarations.{declarations}
use Rattle.record_walk.specs.Faults.{told_in}
use Rattle.record_walk.specs.Telling.{nothing_told}
use Rattle.record_walk.proofs.Listings.{on-ok}
use Rattle.pool_contents.specs.Inner.{contents_in}
use Rattle.name_pass.specs.Steps.{NameState, name_step, state_at}
use Rattle.pool_contents.specs.Growing.{new_records, records_from}
use Rattle.descriptor_pool.proofs.NamesFold.{fold-names}
use Rattle.descriptor_pool.proofs.Passed.{refuse-tells}
use Rattle.descriptor_pool.proofs.build.enter_names.Goals as goal

pub returns-clause-faults : goal.returns-clause-faults
returns-clause-faults c =
    let g = c.args.pool.now in
    let p = contents_in g.inner in
    let files = c.new-faults.ensures.labels ∙ c.deref.ensures.value in
    let is = c.in_ok-show_names.ensures.ok
    ∙ (λ i. fold (name_step (map (λ f. f.raw) (files i))) (state_at p.names p.file_names (c.new-faults.ensures.told i)) (declarations g.base (records_from g.base.files (files i))))
    ∙ fold-names p (files_of p) (nothing_told c.args.terms.most) (declarations g.base (new_records g)) in
    refuse-tells c.args.terms.most c.refuse.result (told_in c.show_names.new.faults) _ c.refuse.ensures.ok c.refuse.ensures.err (ap (λ (s : NameState). s.faults) is)

pub returns-clause-entered : goal.returns-clause-entered
returns-clause-entered c =
    let g = c.args.pool.now in
    let p = contents_in g.inner in
    let files = c.new-faults.ensures.labels ∙ c.deref.ensures.value in
    let is = c.in_ok-show_names.ensures.ok
    ∙ (λ i. fold (name_step (map (λ f. f.raw) (files i))) (state_at p.names p.file_names (c.new-faults.ensures.told i)) (declarations g.base (records_from g.base.files (files i))))
    ∙ fold-names p (files_of p) (nothing_told c.args.terms.most) (declarations g.base (new_records g)) in
    on-ok c.refuse.result (λ none. λ i. record p { names = ap (λ (s : NameState). s.names) is i; file_names = ap (λ (s : NameState). s.file_names) is i }) c.refuse.ensures.ok
