use Rattle.std.proofs.Common.{rules, ◌≡◌, ◌++◌, ◌∷◌, [], ℕ, List, Bor, None, true, is_some, length, map, take, sym, subst, ◌∙◌}
use Rattle.std.specs.FinMap as finite
use Rattle.pool_types.specs.Contents.{ByText}
use Rattle.proto_types.specs.Readers.{text_of}
use Rattle.proto_types.specs.declared.file.FileDescriptorProto.{FileDescriptorProto}
use Rattle.verdict_texts.specs.Named.{AreNamed, Enters}
use Rattle.verdict_texts.proofs.Naming.{named-again, named-new, records-length, records-next}
use Rattle.verdict_texts.proofs.Results.{on-ok}
use Rattle.verdict_texts.proofs.known.add_file.Goals as goal

-- a file has the name
pub returns-then-is_some : goal.returns-then-is_some
returns-then-is_some c =
    let xs = c.args.files.now in
    let f = c.index-files-at.result.now in
    let files : List FileDescriptorProto = map (λ (g : Bor FileDescriptorProto). g.now) (take c.args.at xs) in
    let named = c.args.named.now in
    let new = c.enter.new.names in
    let own : c.name-name.result.now ≡ text_of f.name = search rules in
    let some : is_some (finite.get named.first (text_of f.name)) ≡ true = search rules in
    let next = records-next xs c.args.at c.index-files-at.result c.requires.within c.index-files-at.is in
    on-ok c.enter.result
    (λ enters. subst (AreNamed (record { first = named.first; several = new })) (sym next)
    (named-again named new files f c.in_ok-number.number c.requires.named some (subst (λ (s : List ℕ). Enters named.several new c.in_ok-number.number (s ∷ [])) own enters)))
    c.enter.ensures

-- no file has it
pub returns-else-is_some : goal.returns-else-is_some
returns-else-is_some c =
    let xs = c.args.files.now in
    let f = c.index-files-at.result.now in
    let files : List FileDescriptorProto = map (λ (g : Bor FileDescriptorProto). g.now) (take c.args.at xs) in
    let named = c.args.named.now in
    let own : c.name-name.result.now ≡ text_of f.name = search rules in
    let none : finite.get named.first (text_of f.name) ≡ None = search rules in
    let next = records-next xs c.args.at c.index-files-at.result c.requires.within c.index-files-at.is in
    let number : c.in_ok-number.number ≡ length files = c.in_ok-number.ensures ∙ records-length xs c.args.at c.requires.within in
    on-ok c.insert.result
    (λ is. subst (AreNamed (record { first = c.insert.new.self; several = named.several })) (sym next)
    (subst (λ (m : ByText ℕ). AreNamed (record { first = m; several = named.several }) (files ++ f ∷ [])) (sym (is ∙ (λ i. finite.insert named.first (own i) (number i))))
    (named-new named files f c.requires.named none)))
    c.insert.ensures.ok
