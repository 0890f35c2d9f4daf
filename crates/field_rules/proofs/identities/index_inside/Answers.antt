use Rattle.std.proofs.Common.{refl, ap, ◌∙◌, ◌-◌, length}
use Rattle.proto_types.specs.Names.{join}
use Rattle.record_walk.proofs.FullNames.{join-ends}
use Rattle.field_rules.proofs.NamesBegin.{name-begins}
use Rattle.field_rules.proofs.identities.index_inside.Goals as goal

pub returns-clause-index : goal.returns-clause-index
returns-clause-index c =
    c.saturating_sub.ensures ∙ ap (λ len. len - length c.args.name.now) c.joined_len.ensures

-- the name ends the name joined to its scope
pub returns-clause-begins : goal.returns-clause-begins
returns-clause-begins c =
    let scope = c.args.scope.now in
    let name = c.args.name.now in
    name-begins (join scope name) (join scope name) name c.saturating_sub.result refl
    (c.saturating_sub.ensures ∙ ap (λ len. len - length name) c.joined_len.ensures) c.utf8.name (join-ends scope name)
