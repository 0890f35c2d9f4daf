use Rattle.std.proofs.Common.{Bor, map, slice_get, sym, ap, ◌∙◌, List}
use Rattle.std.specs.Option.{option_and_then}
use Rattle.proto_types.specs.declared.file.FileDescriptorProto.{FileDescriptorProto}
use Rattle.verdict_texts.proofs.Naming.{declaring-is}
use Rattle.verdict_texts.proofs.known.declaring_of.Goals as goal

-- the first file is at its position
pub returns : goal.returns
returns c =
    let files : List FileDescriptorProto = map (λ (g : Bor FileDescriptorProto). g.now) c.args.files.now in
    c.file_at.ensures ∙ ap (option_and_then (slice_get files)) c.get.ensures ∙ sym (declaring-is c.args.names.now files c.args.name.now c.requires)
