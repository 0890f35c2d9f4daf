use Rattle.std.proofs.Common.{rules, ◌≡◌, Bor, None, false, true, is_some, cond, map, slice_get, sym, ap, ◌∙◌, List}
use Rattle.std.specs.FinMap as finite
use Rattle.std.specs.Option.{option_and_then}
use Rattle.proto_types.specs.declared.file.FileDescriptorProto.{FileDescriptorProto}
use Rattle.verdict_texts.proofs.Naming.{only-is}
use Rattle.verdict_texts.proofs.known.only_of.Goals as goal

-- several files have the name
pub returns-then-is_some : goal.returns-then-is_some
returns-then-is_some c =
    let files : List FileDescriptorProto = map (λ (g : Bor FileDescriptorProto). g.now) c.args.files.now in
    let some : is_some (finite.get c.args.named.now.several c.args.name.now) ≡ true = search rules in
    sym (only-is c.args.named.now files c.args.name.now c.requires ∙ ap (λ b. cond b None (option_and_then (slice_get files) (finite.get c.args.named.now.first c.args.name.now))) some)

-- one has it, or none
pub returns : goal.returns
returns c =
    let files : List FileDescriptorProto = map (λ (g : Bor FileDescriptorProto). g.now) c.args.files.now in
    let none : is_some (finite.get c.args.named.now.several c.args.name.now) ≡ false = search rules in
    let first : c.get-2.result ≡ finite.get c.args.named.now.first c.args.name.now = search rules in
    c.file_at.ensures ∙ ap (option_and_then (slice_get files)) first
    ∙ sym (only-is c.args.named.now files c.args.name.now c.requires ∙ ap (λ b. cond b None (option_and_then (slice_get files) (finite.get c.args.named.now.first c.args.name.now))) none)
