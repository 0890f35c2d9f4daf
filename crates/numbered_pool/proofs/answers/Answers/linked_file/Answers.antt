use Rattle.std.proofs.Common.{rules}
use Rattle.numbered_pool.proofs.answers.Answers.linked_file.Goals as goal

pub returns-in_ok-encode_file-in-Some : goal.returns-in_ok-encode_file-in-Some
returns-in_ok-encode_file-in-Some c = search rules

pub returns-in-None : goal.returns-in-None
returns-in-None c = search rules
