use Rattle.std.proofs.Common.{◌≡◌, ◌∷◌, [], false, not, is_some, ap, sym, ◌∙◌, rules}
use Rattle.std.specs.FinMap as finite
use Rattle.proto_types.specs.declared.tag.file.TheConstants.{DEPENDENCY}
use Rattle.plain_data.specs.Lists.{only_if}
use Rattle.proto_types.specs.Paths.{entry_path}
use Rattle.record_walk.proofs.Listings.{on-ok}
use Rattle.pool_faults.specs.Labels.{label_in}
use Rattle.pool_faults.specs.declared.fault.DescriptorErrorKind.{DescriptorErrorKind}
use Rattle.pool_faults.specs.declared.fault.DescriptorErrorKind.TheVariants.{FileNotFound}
use Rattle.record_walk.proofs.Tells.{tells-from}
use Rattle.reference_pass.specs.Reading.{setting_of}
use Rattle.reference_pass.proofs.Readings.{reads-as, reads-told}
use Rattle.reference_pass.proofs.imports.check_name.Goals as goal

-- no file has the name
pub returns : goal.returns
returns c =
    let a = c.args.reading.now in
    let s = setting_of a in
    let name = c.args.name.now in
    let absent : is_some (finite.get s.file_names name) ≡ false = search rules in
    let path = c.deref.ensures.value ∙ c.in_ok-path.ensures in
    let found = c.in_ok-found.ensures.label ∙ ap (label_in s.files c.args.index) path in
    let fault : DescriptorErrorKind = FileNotFound name (label_in s.files c.args.index (entry_path [] DEPENDENCY c.args.position)) in
    on-ok c.push.result (λ told.
    reads-as ((λ i. FileNotFound (c.in_ok-name.ensures i) (found i) ∷ []) ∙ ap (λ here. only_if (not here) fault) (sym absent)) (reads-told {r = a} (tells-from c.in_ok-found.ensures.stays told)))
    c.push.ensures.told
