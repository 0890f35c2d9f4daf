use Rattle.std.proofs.Common.{rules}
use Rattle.field_rules.proofs.NamesBegin.{name-begins}
use Rattle.field_rules.proofs.identities.identity.Goals as goal

pub returns-clause-begins : goal.returns-clause-begins
returns-clause-begins c =
    λ ends. name-begins c.in_ok-from_str.field-0 c.args.place.full_name.now c.args.name.now c.saturating_sub.result
    c.in_ok-from_str.ensures c.saturating_sub.ensures c.utf8.name ends

pub returns-clause-id : goal.returns-clause-id
returns-clause-id c = search rules
