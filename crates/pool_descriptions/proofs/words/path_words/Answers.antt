use Rattle.std.proofs.Common.{rules}
use Rattle.pool_faults.proofs.PathText.{debug_list-path}
use Rattle.pool_descriptions.proofs.words.path_words.Goals as goal

-- the path is printed as the library prints it
pub returns : goal.returns
returns c = search (rules, debug_list-path)
