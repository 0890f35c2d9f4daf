use Rattle.std.proofs.Common.{rules}
use Rattle.pool_descriptions.proofs.BytesText.{debug_list-bytes}
use Rattle.pool_descriptions.proofs.values.bytes_words.Goals as goal

-- the bytes are printed as the library prints them
pub returns : goal.returns
returns c = search (rules, debug_list-bytes)
