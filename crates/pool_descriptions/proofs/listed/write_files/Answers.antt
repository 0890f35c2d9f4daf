use Rattle.std.proofs.Common.{◌≡◌, [], ◌++◌, OnOk, map, string_bytes, subst, ap, sym, ◌∙◌, append-nil}
use Rattle.std.specs.List.{flat_map}
use Rattle.record_walk.specs.Counts.{no_counts}
use Rattle.record_walk.specs.Declarations.{declarations}
use Rattle.record_walk.specs.Declaration.{declaration_of}
use Rattle.record_walk.specs.Visitor.{Progress}
use Rattle.pool_descriptions.specs.Listed.{listed_line}
use Rattle.pool_descriptions.proofs.listed.write_files.Goals as goal

-- the list is that of all declarations
pub returns : goal.returns
returns c =
    let files = map (λ f. f.raw) c.args.files.now in
    let listed = c.declarations.ensures ∙ sym (append-nil c.walk.new.visitor) ∙ ap (λ (p : Progress). p.listed) (c.in_ok-walk.ensures.ok.after_is [])
    ∙ (λ j. c.new-lister.ensures j ++ map declaration_of (append-nil (declarations no_counts files) j)) in
    subst (λ list. OnOk c.write_declarations.result (string_bytes c.write_declarations.new.text ≡ string_bytes c.args.text.now ++ flat_map listed_line list)) listed c.write_declarations.ensures
