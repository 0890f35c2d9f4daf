-- What the parts of the reader answer, where memory may be refused at any point.
use Rattle.std.specs.Prelude.{◌≡◌, ◌<◌, ◌==◌, ℕ, ℤ, List, [], ◌∷◌, length, reverse, IsUtf8}
use Rattle.std.specs.List.{slice_split}
use Rattle.std.specs.Borrow.{Bor}
use Rattle.std.specs.Result.{result_map_both}
use Rattle.std.specs.declared.option.Option.{Option}
use Rattle.std.specs.declared.option.Option.TheVariants.{None, Some}
use Rattle.std.specs.declared.result.Result.{Result}
use Rattle.std.specs.declared.result.Result.TheVariants.{Ok, Err}
use Rattle.proto_types.specs.declared.records.source.Location.{Location}
use Rattle.link_script.specs.declared.script.statement.Statement.{Statement}
use Rattle.link_script.specs.declared.script.statement.Statement.TheVariants.{At}
use Rattle.link_script.specs.declared.script.statement.ScriptFault.{ScriptFault}
use Rattle.link_script.specs.declared.script.line_error.LineError.{LineError}
use Rattle.link_script.specs.declared.script.line_error.LineError.TheVariants.{Fault, OutOfMemory}
use Rattle.link_script.specs.declared.script.standing.Standing.{Standing as Code}
use Rattle.link_script.specs.declared.script.words.KeyedLine.{KeyedLine}
use Rattle.link_script.specs.declared.script.words.Words.{Words}
use Rattle.link_script.specs.declared.script.lines.Lines.{Lines}
use Rattle.link_script.specs.declared.script.lines.Lines.TheVariants as left
use Rattle.link_script.specs.declared.script.lines.FirstLine.{FirstLine}
use Rattle.link_script.specs.Script.Words.{lines, words}
use Rattle.link_script.specs.Script.Keyword.{Standing, standing_after}
use Rattle.link_script.specs.Script.Arguments.{said_in, and_then, each_number}
use Rattle.link_script.specs.Script.Reading.{Saying, of_words}

-- an answer is the one that is meant, unless memory was refused
abbrev pub IsAnswer : {X : Type 0} → Result X ScriptFault → Result X LineError → Type 0
IsAnswer meant (Ok x) = meant ≡ Ok x
IsAnswer meant (Err (Fault fault)) = meant ≡ Err fault
IsAnswer meant (Err OutOfMemory) = Unit {0}

-- an answer is the location that is meant, unless memory was refused
abbrev pub IsLocation : Result Statement ScriptFault → Result Location LineError → Type 0
IsLocation meant answer = IsAnswer meant (result_map_both (λ l. At l) (λ e. e) answer)

-- the statement that a line says, if it says one, and what stands before the next line
abbrev pub after_line : Saying → Standing → Result (Option Statement × Standing) ScriptFault
after_line (Err fault) here = Err fault
after_line (Ok None) here = Ok (None, here)
after_line (Ok (Some s)) here = Ok (Some s.1, standing_after here s.0)

-- what stands before a statement, as the code has it with the innermost block last
abbrev pub standing_in : Code → Standing
standing_in h = record { blocks = reverse h.blocks.items; more = h.more }

-- the bytes of the lines that are left
abbrev pub bytes_left : Lines → List ℕ
bytes_left (left.Text text) = text.now
bytes_left (left.Bytes bytes) = bytes.now

-- the text of a line, or nothing where its bytes are no UTF-8
abbrev pub IsTextOf : Option (Bor (List ℕ)) → List ℕ → Type 0
IsTextOf (Some text) line = (text.now ≡ line) × IsUtf8 line
IsTextOf None line = ¬ IsUtf8 line

-- the first line of bytes, with its text, and what is left behind it
abbrev pub IsFirstLine : List ℕ → FirstLine → Type 0
IsFirstLine bytes first = (lines bytes ≡ first.bytes.now ∷ lines (bytes_left first.rest))
    × (length (bytes_left first.rest) < length bytes)
    × IsTextOf first.text first.bytes.now

-- the words of a line that are left to be read
abbrev pub words_left : Words → List (List ℕ)
words_left w = words w.rest.now

-- what a line that is a text says behind other statements
abbrev pub text_said : Standing → List ℕ → Saying
text_said here line = of_words here line (words line)

-- the statement that a line says by its keyword and the words behind it, or the fault
abbrev pub said_by : KeyedLine → Result Statement ScriptFault
said_by keyed = said_in keyed.line.now keyed.keyword (words_left keyed.words)

-- what a line says is made of its keyword and the words behind it, where it has them
abbrev pub IsBegun : Saying → Result (Option KeyedLine) ScriptFault → Type 0
IsBegun said (Err fault) = said ≡ Err fault
IsBegun said (Ok None) = said ≡ Ok None
IsBegun said (Ok (Some keyed)) = said ≡ and_then (said_by keyed) (λ s. Ok (Some (keyed.keyword, s)))

-- the numbers of a text between commas
abbrev pub numbers_between : List ℕ → Result (List ℤ) ScriptFault
numbers_between text = each_number (slice_split (λ c. c == 44) text)

-- the numbers of a text are a first one and those of the text behind its comma, if it has one, or
-- its first number has a fault
abbrev pub IsFirstNumber : List ℕ → Result (ℤ × Option (Bor (List ℕ))) ScriptFault → Type 0
IsFirstNumber text (Ok (n, None)) = numbers_between text ≡ Ok (n ∷ [])
IsFirstNumber text (Ok (n, Some rest)) = (length rest.now < length text)
    × (numbers_between text ≡ and_then (numbers_between rest.now) (λ ns. Ok (n ∷ ns)))
IsFirstNumber text (Err fault) = numbers_between text ≡ Err fault
