-- The records that the statements of a script build, statement by statement.
use Rattle.std.specs.Prelude.{Bool, true, false, List, [], ◌∷◌, ◌++◌}
use Rattle.std.specs.List.{fold}
use Rattle.std.specs.declared.option.Option.{Option}
use Rattle.std.specs.declared.option.Option.TheVariants.{None, Some}
use Rattle.proto_types.specs.declared.file.FileDescriptorProto.{FileDescriptorProto}
use Rattle.link_script.specs.declared.script.statement.Script.{Script}
use Rattle.link_script.specs.declared.script.statement.Statement.{Statement}
use Rattle.link_script.specs.declared.script.statement.Statement.TheVariants as say
use Rattle.link_script.specs.declared.building.Open.{Open}
use Rattle.link_script.specs.declared.building.Open.TheVariants as opened
use Rattle.link_script.specs.Building.{opened_by, applied, closed_in}

-- what is built so far: the open records, from the innermost out; whether an extension was stated
-- after the last field; and the files whose blocks have closed
pub record Building : Type 0 where
  pub open_records : List Open
  pub extends : Bool
  pub files : List FileDescriptorProto

-- what is built before the first statement
abbrev pub nothing_built : Building
nothing_built = record { open_records = []; extends = false; files = [] }

-- what is built where the innermost open record closes
abbrev pub close_step : Building → List Open → Building
close_step b [] = b
close_step b (opened.File f ∷ []) = record b { open_records = []; files = b.files ++ f ∷ [] }
close_step b (inner ∷ []) = record b { open_records = [] }
close_step b (inner ∷ outer ∷ rest) = record b { open_records = closed_in inner outer ∷ rest }

-- what is built where something is said of the innermost open record
abbrev pub state_step : Building → Statement → List Open → Building
state_step b said [] = b
state_step b said (o ∷ os) = record b { open_records = applied b.extends said o ∷ os }

-- whether the last of the fields and extensions that were stated is an extension
abbrev pub extends_after : Bool → Statement → Bool
extends_after before (say.Extend field) = true
extends_after before (say.Field field) = false
extends_after before _ = before

-- what is built after a statement that opens no record
abbrev pub stating : Building → Statement → Building
stating b said =
    record (state_step b said b.open_records) { extends = extends_after b.extends said }

-- what is built where one more record is open
abbrev pub opening : Building → Open → Building
opening b o = record b { open_records = o ∷ b.open_records }

-- what is built where a record is opened, or else something is said of the innermost
abbrev pub open_or_state : Building → Statement → Option Open → Building
open_or_state b said (Some o) = opening b o
open_or_state b said None = stating b said

-- what is built after one more statement: it opens a record, closes one, or says something of the
-- innermost; a command builds nothing
abbrev pub built : Building → Statement → Building
built b say.Link = b
built b (say.Find name) = b
built b say.Walk = b
built b (say.Refs name) = b
built b (say.Ext name number) = b
built b say.Relink = b
built b say.End = close_step b b.open_records
built b said = open_or_state b said (opened_by said)

-- the files that the statements of a script declare
abbrev pub files_in : Script → List FileDescriptorProto
files_in said = (fold built nothing_built said.statements).files
