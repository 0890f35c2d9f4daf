-- What is told of an input that is no descriptor set.
use Rattle.std.specs.Prelude.{ℕ, List, ◌++◌, codes}
use Rattle.verdict_texts.specs.WireWords.{bytes_words}
use Rattle.descriptor_check.specs.Guises.{guise_words}
use Rattle.descriptor_check.specs.declared.batches.Flaw.{Flaw}
use Rattle.descriptor_check.specs.declared.batches.Flaw.TheVariants.{Bytes, Foreign, NoFiles}
use Rattle.descriptor_check.specs.declared.batches.NotASet.{NotASet}

-- what is wrong with an input
abbrev pub flaw_words : Flaw → List ℕ
flaw_words (Bytes fault) = bytes_words fault
flaw_words (Foreign guise fault) =
    bytes_words fault ++ (codes "; it looks like " ++ guise_words guise)
flaw_words NoFiles = codes "there is no file in it"

-- an input that is no set, what is wrong, and what to give
abbrev pub unread_words : NotASet → List ℕ
unread_words n = n.name ++ (codes ": " ++ (flaw_words n.flaw
    ++ codes "; give what `protoc --include_imports -o FILE` writes"))
