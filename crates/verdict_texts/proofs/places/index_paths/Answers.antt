use Rattle.std.proofs.Common.{rules, ◌≡◌, ◌++◌, [], ℤ, List, sym, ap, ◌∙◌}
use Rattle.proto_types.specs.declared.tag.file.TheConstants as file
use Rattle.verdict_texts.specs.Places.{messages_indexes, outside_imports}
use Rattle.verdict_texts.proofs.Indexed.{file-indexed}
use Rattle.verdict_texts.proofs.places.index_paths.Goals as goal

-- those of the imports are added, and then those of the messages
pub returns : goal.returns
returns c =
    let f = c.args.file.now in
    let a = outside_imports f.dependency file.PUBLIC_DEPENDENCY f.public_dependency in
    let b = outside_imports f.dependency file.WEAK_DEPENDENCY f.weak_dependency in
    let m = messages_indexes [] file.MESSAGE_TYPE f.message_type in
    let first : c.add_imports.new.paths.items ≡ a = search rules in
    let second : c.add_imports-2.new.paths.items ≡ c.add_imports.new.paths.items ++ b = search rules in
    let third : c.add_messages.new.paths.items ≡ c.add_imports-2.new.paths.items ++ m = search rules in
    third ∙ ap (λ (ys : List (List ℤ)). ys ++ m) (second ∙ ap (λ (ys : List (List ℤ)). ys ++ b) first) ∙ sym (file-indexed f)
