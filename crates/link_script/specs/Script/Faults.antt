-- What is wrong with a line of a script, in words.
use Rattle.std.specs.Prelude.{ℕ, List, codes}
use Rattle.link_script.specs.declared.script.statement.ScriptFault.{ScriptFault}
use Rattle.link_script.specs.declared.script.statement.ScriptFault.TheVariants as fault

-- what is wrong with a line of a script, in words
abbrev pub fault_words : ScriptFault → List ℕ
fault_words fault.BadText = codes "bad text"
fault_words fault.UnknownWord = codes "unknown word"
fault_words fault.Misplaced = codes "misplaced"
fault_words fault.WrongCount = codes "wrong count of words"
fault_words fault.BadNumber = codes "bad number"
fault_words fault.BadWord = codes "bad word"
fault_words fault.MissingEnd = codes "missing end"
