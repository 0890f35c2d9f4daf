-- The files that a script declares, as an answer.
use Rattle.std.specs.Prelude.{◌≡◌, List}
use Rattle.std.specs.declared.option.Option.TheVariants.{None, Some}
use Rattle.std.specs.declared.result.Result.{Result}
use Rattle.std.specs.declared.result.Result.TheVariants.{Ok, Err}
use Rattle.proto_types.specs.declared.file.FileDescriptorProto.{FileDescriptorProto}
use Rattle.link_script.specs.declared.script.statement.Script.{Script}
use Rattle.link_script.specs.declared.script.statement.ScriptError.{ScriptError}
use Rattle.link_script.specs.declared.script.statement.ScriptError.TheVariants.{Fault, OutOfMemory}
use Rattle.link_script.specs.Records.{files_in}

-- an answer is the files that a script declares, or else its fault, unless memory was refused
abbrev pub DeclaresFiles : Script → Result (List FileDescriptorProto) ScriptError → Type 0
DeclaresFiles script (Ok files) = (files ≡ files_in script) × (script.fault ≡ None)
DeclaresFiles script (Err (Fault line fault)) = script.fault ≡ Some (line, fault)
DeclaresFiles script (Err OutOfMemory) = Unit {0}
