use Rattle.std.proofs.Common.{◌≡◌, take}
use Rattle.std.specs.List.{flat_map}
use Rattle.protoc_rules.specs.Written.{field_types, file_extension_types}
use Rattle.protoc_rules.proofs.written.written_types.Given as goal

abbrev pub invariant-loop-file : goal.invariant-loop-file
invariant-loop-file l = record {
  fields : l.fields ≡ flat_map (λ f. flat_map field_types f.message_type) (take l.file-index l.files);
  extensions : l.extensions ≡ flat_map file_extension_types (take l.file-index l.files);
}
