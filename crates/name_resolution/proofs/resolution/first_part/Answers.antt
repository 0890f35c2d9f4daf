use Rattle.std.proofs.Common.{[], None, Some, sym}
use Rattle.name_tables.specs.Parts.{parts}
use Rattle.name_tables.proofs.NameParts.{part-between}
use Rattle.name_resolution.proofs.FirstParts.{parts-split}
use Rattle.name_resolution.proofs.resolution.first_part.Goals as goal

pub returns-in-Some-clause-one : goal.returns-in-Some-clause-one
returns-in-Some-clause-one c =
    part-between c.args.name.now [] c.in-Some.first.now (parts c.in-Some.field-0-1.now)
    (sym (parts-split c.args.name.now (Some (c.in-Some.first, c.in-Some.field-0-1)) c.in-Some.ensures.cases))

pub returns-in-None-clause-one : goal.returns-in-None-clause-one
returns-in-None-clause-one c = parts-split c.args.name.now None c.in-None.ensures.cases
