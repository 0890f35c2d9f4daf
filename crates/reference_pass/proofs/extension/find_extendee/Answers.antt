use Rattle.std.proofs.Common.{◌≡◌, ◌∷◌, Some, arith}
use Rattle.std.specs.BTreeSet.{contains_by}
use Rattle.std.specs.Ordering.{nat_cmp}
use Rattle.std.proofs.lemmas.Str.Pattern.{strip_prefix_char}
use Rattle.name_resolution.specs.declared.filter.ResolveNameFilter.TheVariants.{Message}
use Rattle.reference_pass.specs.Reading.{setting_of}
use Rattle.reference_pass.specs.Setting.{seen_by}
use Rattle.reference_pass.proofs.Found.{found-dotted}
use Rattle.reference_pass.proofs.extension.find_extendee.Goals as goal

-- it is found by the rest of what is written
pub returns : goal.returns
returns c =
    let s = setting_of c.args.reading.now in
    let name = c.in_ok-name.name in
    let written : c.args.written.now ≡ 46 ∷ name.now = strip_prefix_char 46 c.args.written.now (Some name) c.in_ok-name.ensures.cases (omega arith) in
    found-dotted s.names (λ n. contains_by (nat_cmp n) (seen_by s c.args.place.file)) Message c.args.place.full_name.now c.args.written.now name.now c.in_ok-def.def.now written c.in_ok-def.ensures
