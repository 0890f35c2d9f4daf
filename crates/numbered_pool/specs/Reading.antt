-- The files that bytes say.
use Rattle.std.specs.Prelude.{◌≡◌, ℕ, suc, List, [], ◌∷◌, ◌++◌, take, drop, codes, Result, Ok, Err}
use Rattle.std.specs.Fmt.{decimal}
use Rattle.std.specs.declared.option.Option.{Option}
use Rattle.std.specs.declared.option.Option.TheVariants.{None, Some}
use Rattle.wire_format.specs.declared.fault.WireFault.{WireFault}
use Rattle.proto_types.specs.declared.file.FileDescriptorProto.{FileDescriptorProto}
use Rattle.proto_types.specs.declared.file.FileDescriptorSet.{FileDescriptorSet}
use Rattle.descriptor_decoding.specs.Decoding.{file_of, file_set_of}
use Rattle.verdict_texts.specs.WireWords.{bytes_words}
use Rattle.link_script.specs.Records.{files_in}
use Rattle.link_script.specs.Script.Faults.{fault_words}
use Rattle.link_script.specs.Script.Reading.{script}
use Rattle.link_script.specs.declared.script.statement.ScriptFault.{ScriptFault}
use Rattle.numbered_pool.specs.declared.reading.ReadError.{ReadError}
use Rattle.numbered_pool.specs.declared.reading.ReadError.TheVariants as error
use Rattle.numbered_pool.specs.declared.reading.Source.{Source}
use Rattle.numbered_pool.specs.declared.reading.Source.TheVariants.{Set, File, Script as Statements}

-- what is read: files in order, or the first fault in words
abbrev pub Read : Type 0
Read = Result (List FileDescriptorProto) (List ℕ)

-- a list of one file
abbrev pub only : FileDescriptorProto → List FileDescriptorProto
only f = f ∷ []

-- the files of a set that was read, or the fault of its bytes
abbrev pub of_set : Result FileDescriptorSet WireFault → Read
of_set (Ok set) = Ok set.file
of_set (Err fault) = Err (bytes_words fault)

-- the fault of one of several files, behind its number
abbrev pub file_words : ℕ → WireFault → List ℕ
file_words number fault = codes "file " ++ (decimal number ++ (codes ": " ++ bytes_words fault))

-- a file that was read, or the fault of its bytes
abbrev pub of_file : Result FileDescriptorProto WireFault → Read
of_file (Ok f) = Ok (only f)
of_file (Err fault) = Err (bytes_words fault)

-- the fault of a script, behind its line
abbrev pub script_words : ℕ → ScriptFault → List ℕ
script_words line fault = codes "line " ++ (decimal line ++ (codes ": " ++ fault_words fault))

-- the files that a script declares, unless it has a fault
abbrev pub of_script : List FileDescriptorProto → Option (ℕ × ScriptFault) → Read
of_script files None = Ok files
of_script files (Some (line, fault)) = Err (script_words line fault)

-- the files of a set
abbrev pub set_read : List ℕ → Read
set_read bytes = of_set (file_set_of bytes)

-- one file
abbrev pub file_read : List ℕ → Read
file_read bytes = of_file (file_of bytes)

-- what follows a file with a number, or its fault
abbrev pub read_behind : ℕ → Result FileDescriptorProto WireFault
    → (FileDescriptorProto → Read) → Read
read_behind number (Ok f) follows = follows f
read_behind number (Err fault) follows = Err (file_words number fault)

-- the files so far, and behind them those of bytes, so many of the bytes each, numbered on; or the
-- fault of the first that is no file
abbrev pub files_behind : List FileDescriptorProto → ℕ → List ℕ → List ℕ → Read
files_behind files number bytes [] = Ok files
files_behind files number bytes (len ∷ lens) =
    read_behind number (file_of (take len bytes))
    (λ f. files_behind (files ++ f ∷ []) (suc number) (drop len bytes) lens)

-- several files that stand behind one another, by their lengths, numbered from 1
unfoldable pub each_read : List ℕ → List ℕ → Read
each_read bytes lens = files_behind [] 1 bytes lens

-- the files that a script declares; its commands are passed over
abbrev pub script_read : List ℕ → Read
script_read bytes = of_script (files_in (script bytes)) (script bytes).fault

-- the files that bytes say
abbrev pub files_read : Source → List ℕ → Read
files_read Set bytes = set_read bytes
files_read File bytes = file_read bytes
files_read Statements bytes = script_read bytes

-- the fault of bytes, as an error
abbrev pub bytes_fault : WireFault → ReadError
bytes_fault fault = error.Fault (bytes_words fault)

-- the fault of one of several files, as an error
abbrev pub file_fault : ℕ → WireFault → ReadError
file_fault number fault = error.Fault (file_words number fault)

-- the fault of a script, as an error
abbrev pub script_fault : ℕ → ScriptFault → ReadError
script_fault line fault = error.Fault (script_words line fault)

-- what a call gave is what is read, unless memory was refused
abbrev pub Reads : Result (List FileDescriptorProto) ReadError → Read → Type 0
Reads (Ok files) r = r ≡ Ok files
Reads (Err (error.Fault words)) r = r ≡ Err words
Reads (Err error.OutOfMemory) r = Unit {0}

-- what a call gave is the file with a number that was read, or its fault, unless memory was refused
abbrev pub ReadsNumbered : Result FileDescriptorProto ReadError → ℕ
    → Result FileDescriptorProto WireFault → Type 0
ReadsNumbered (Ok f) number r = r ≡ Ok f
ReadsNumbered (Err (error.Fault words)) number (Ok f) = ⊥
ReadsNumbered (Err (error.Fault words)) number (Err fault) = words ≡ file_words number fault
ReadsNumbered (Err error.OutOfMemory) number r = Unit {0}
