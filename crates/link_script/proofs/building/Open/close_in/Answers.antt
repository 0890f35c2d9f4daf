use Rattle.std.proofs.Common.{rules}
use Rattle.link_script.proofs.building.Open.close_in.Goals as goal

pub returns-in-Enum : goal.returns-in-Enum
returns-in-Enum c = search rules

pub returns-in-File : goal.returns-in-File
returns-in-File c = search rules

pub returns-in-Message : goal.returns-in-Message
returns-in-Message c = search rules

pub returns-in-Service : goal.returns-in-Service
returns-in-Service c = search rules
