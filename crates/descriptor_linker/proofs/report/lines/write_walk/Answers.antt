use Rattle.std.proofs.Common.{◌≡◌, [], ◌++◌, OnOk, map, string_bytes, subst, ap, sym, ◌∙◌, append-nil}
use Rattle.record_walk.specs.Counts.{no_counts}
use Rattle.record_walk.specs.Declarations.{declarations}
use Rattle.record_walk.specs.Declaration.{declaration_of}
use Rattle.record_walk.specs.Visitor.{Progress}
use Rattle.descriptor_linker.specs.Report.Lines.{declaration_lines}
use Rattle.descriptor_linker.proofs.report.lines.write_walk.Goals as goal

-- the list is that of all declarations
pub returns : goal.returns
returns c =
    let files = map (λ f. f.raw) c.args.files.now in
    let listed = c.declarations.ensures ∙ sym (append-nil c.walk.new.visitor) ∙ ap (λ (p : Progress). p.listed) (c.in_ok-walk.ensures.ok.after_is [])
    ∙ (λ j. c.new-lister.ensures j ++ map declaration_of (append-nil (declarations no_counts files) j)) in
    subst (λ list. OnOk c.write_declarations.result (string_bytes c.write_declarations.new.report ≡ string_bytes c.args.report.now ++ declaration_lines list)) listed c.write_declarations.ensures
