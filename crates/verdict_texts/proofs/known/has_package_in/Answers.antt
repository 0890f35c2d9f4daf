use Rattle.std.proofs.Common.{rules, ◌≡◌, Bor, List, true, sym, ◌∙◌}
use Rattle.proto_types.specs.declared.file.FileDescriptorProto.{FileDescriptorProto}
use Rattle.verdict_texts.specs.Known.{has_package}
use Rattle.verdict_texts.proofs.Looking.{any_mapped}
use Rattle.verdict_texts.proofs.Placing.{any-at}
use Rattle.verdict_texts.proofs.known.has_package_in.Goals as goal

-- one of the files has the package
pub returns-then-has_package : goal.returns-then-has_package
returns-then-has_package c =
    let files : List (Bor FileDescriptorProto) = c.args.files.now in
    let x = c.file-item.result in
    let passes : has_package c.args.name.now x.now ≡ true = search rules in
    sym (sym (any_mapped (has_package c.args.name.now) (λ (f : Bor FileDescriptorProto). f.now) files)
    ∙ any-at (λ (f : Bor FileDescriptorProto). has_package c.args.name.now f.now) files c.loop-file.file-index x c.loop-file-test.true c.file-item.is passes)
