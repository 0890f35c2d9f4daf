use Rattle.std.proofs.Common.{rules, ◌≡◌, List, ℕ, ◌++◌, ap, sym, ◌∙◌}
use Rattle.proto_types.specs.Readers.{text_of}
use Rattle.verdict_texts.specs.Named.{enum_names, types_in}
use Rattle.verdict_texts.proofs.Declared.{file-named}
use Rattle.verdict_texts.proofs.declaring.types_in_file.Goals as goal

-- the names in the messages of a file, and then those of its enums
pub returns : goal.returns
returns c =
    let f = c.args.file.now in
    let scope : List ℕ = text_of f.«package» in
    let first : c.add_messages.new.names ≡ types_in scope f.message_type = search rules in
    let second : c.add_enums.new.names ≡ c.add_messages.new.names ++ enum_names scope f.enum_type = search rules in
    second ∙ ap (λ (ys : List (List ℕ)). ys ++ enum_names scope f.enum_type) first ∙ sym (file-named f)
