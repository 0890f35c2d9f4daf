-- The verdict on a batch, and what protoc refuses in it besides.
use Rattle.std.specs.Prelude.{List, [], if◌then◌else◌}
use Rattle.std.specs.declared.option.Option.{Option}
use Rattle.std.specs.declared.option.Option.TheVariants.{None, Some}
use Rattle.joined_files.specs.declared.joining.JoinedFiles.{JoinedFiles}
use Rattle.proto_types.specs.declared.file.FileDescriptorProto.{FileDescriptorProto}
use Rattle.protoc_rules.specs.Linked.{linked_in}
use Rattle.protoc_rules.specs.Strict.{strict_faults}
use Rattle.protoc_rules.specs.Written.{written_types}
use Rattle.protoc_rules.specs.declared.faults.StrictFault.{StrictFault}
use Rattle.protoc_rules.specs.declared.written.WrittenTypes.{WrittenTypes}
use Rattle.descriptor_check.specs.Verdicts.{verdict_of_joined}
use Rattle.descriptor_check.specs.declared.answer.Wanted.{Wanted}
use Rattle.descriptor_check.specs.declared.strict.Judgement.{Judgement}
use Rattle.descriptor_check.specs.declared.verdicts.Verdict.{Verdict}
use Rattle.descriptor_check.specs.declared.verdicts.Verdict.TheVariants.{Accepted}

-- the types of a batch as they are written, where what protoc refuses besides is wanted
abbrev pub types_wanted : Wanted → List FileDescriptorProto → Option WrittenTypes
types_wanted w batch = if w.strict then Some (written_types batch) else None

-- what protoc refuses besides in an accepted batch, if the types are known as they were written
abbrev pub strict_in : Option WrittenTypes → Verdict → List StrictFault
strict_in (Some types) (Accepted p) = strict_faults (linked_in p) types
strict_in _ _ = []

-- the verdict that is wanted on the files of sets
abbrev pub verdict_wanted : Wanted → JoinedFiles → Verdict
verdict_wanted w joined = verdict_of_joined w.first_counts w.most joined

-- the verdict on the files of sets, and what protoc refuses in them besides, where this is wanted
abbrev pub judgement_of : Wanted → JoinedFiles → Judgement
judgement_of w joined = record {
  verdict = verdict_wanted w joined;
  strict = strict_in (types_wanted w joined.files) (verdict_wanted w joined);
}
