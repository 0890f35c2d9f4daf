use Rattle.std.proofs.Common.{◌≡◌, ℕ, ℤ, List, ◌++◌, ◌∷◌, [], ap, ◌∙◌}
use Rattle.pool_types.specs.declared.contents.definition.Identity.{Identity}
use Rattle.name_resolution.specs.declared.filter.ResolveNameFilter.TheVariants.{Message}
use Rattle.name_resolution.specs.References.{reference_fault}
use Rattle.plain_data.specs.Lists.{listed}
use Rattle.proto_types.specs.Names.{join}
use Rattle.proto_types.specs.declared.tag.method.TheConstants as method
use Rattle.proto_types.specs.declared.tag.service.TheConstants.{METHOD}
use Rattle.proto_types.specs.Paths.{entry_path}
use Rattle.field_rules.specs.Identities.{identity, named_at}
use Rattle.record_walk.specs.Place.{inside_of}
use Rattle.reference_pass.specs.Setting.{Setting, resolve}
use Rattle.reference_pass.specs.SecondPass.{Faults}
use Rattle.reference_pass.specs.References.{message_found, method_at, index_or_max}
use Rattle.reference_pass.specs.Reading.{setting_of}
use Rattle.reference_pass.proofs.Readings.{reads-as, reads-two, same-setting}
use Rattle.reference_pass.proofs.service.read_method.Goals as goal

-- the method is read where it stands
pub returns-clause-item : goal.returns-clause-item
returns-clause-item c =
    let s = setting_of c.args.reading.now in
    let service = c.args.service in
    let i = c.args.position in
    let m = c.args.method.now in
    let id : c.in_ok-id.id ≡ identity (method_at (inside_of service) i m) =
    c.in_ok-id.ensures.id ∙ ap (λ n. named_at service.file (entry_path service.path.now METHOD i) (join service.full_name.now n) n) c.name.ensures in
    let name = c.as_str.ensures ∙ ap (λ (d : Identity). d.full_name) id in
    let index : Setting → List ℕ → List ℕ → ℕ = λ t full_name written. index_or_max (message_found (resolve t service.file full_name Message written)) in
    λ j. record {
      id = id j;
      input = (c.in_ok-input.ensures.index ∙ (λ k. index s (name k) (c.input_type.ensures k))) j;
      output = (c.in_ok-output.ensures.index ∙ (λ k. index (same-setting c.in_ok-input.ensures.faults k) (name k) (c.output_type.ensures k))) j;
    }

-- what it takes is looked up first, and then what it gives
pub returns-clause-faults : goal.returns-clause-faults
returns-clause-faults c =
    let s = setting_of c.args.reading.now in
    let service = c.args.service in
    let i = c.args.position in
    let m = c.args.method.now in
    let id : c.in_ok-id.id ≡ identity (method_at (inside_of service) i m) =
    c.in_ok-id.ensures.id ∙ ap (λ n. named_at service.file (entry_path service.path.now METHOD i) (join service.full_name.now n) n) c.name.ensures in
    let path = c.as_slice.ensures ∙ ap (λ (d : Identity). d.path) id in
    let name = c.as_str.ensures ∙ ap (λ (d : Identity). d.full_name) id in
    let fault : Setting → ℤ → List ℕ → List ℤ → List ℕ → Faults = λ t tag written at full_name. listed (reference_fault t.files written service.file (at ++ tag ∷ []) (resolve t service.file full_name Message written)) in
    reads-two
    (reads-as (λ j. fault s method.INPUT_TYPE (c.input_type.ensures j) (path j) (name j)) c.in_ok-input.ensures.faults)
    (reads-as (λ j. fault (same-setting c.in_ok-input.ensures.faults j) method.OUTPUT_TYPE (c.output_type.ensures j) (path j) (name j)) c.in_ok-output.ensures.faults)
