use Rattle.std.proofs.Common.{◌≡◌, ◌-◌, ◌++◌, length, length-append, arith, rules}
use Rattle.proto_types.specs.Paths.{entry_path}
use Rattle.proto_types.specs.Readers.{text_of}
use Rattle.proto_types.specs.declared.tag.enum_.TheConstants.{VALUE}
use Rattle.field_rules.proofs.identities.identity_of_value.Goals as goal

-- the name stands behind what is around the enum
pub returns-clause-id : goal.returns-clause-id
returns-clause-id c =
    let around = c.args.enumeration.around.now in
    let name = text_of c.args.value.now.name in
    let index : length around ≡ length (around ++ name) - length name = omega (arith, length-append around name) in
    let path : c.in_ok-below.field-0 ≡ entry_path c.args.enumeration.place.path.now VALUE c.args.position = search rules in
    λ i. record {
      file = c.args.enumeration.place.file;
      path = path i;
      full_name = c.in_ok-next_beside.ensures.name i;
      name_index = index i;
    }

-- and begins there where a character begins
pub returns-clause-begins : goal.returns-clause-begins
returns-clause-begins c = c.in_ok-next_beside.ensures.begins
