use Rattle.std.proofs.Common.{◌≡◌, ◌++◌, None, Some, OnOk, map, string_bytes, subst, ap, ◌∙◌}
use Rattle.std.specs.Str.{bytes_eq}
use Rattle.proto_types.specs.Readers.{text_of}
use Rattle.record_lists.specs.Code.{reference_of}
use Rattle.descriptor_linker.specs.Report.Lines.{reference_lines}
use Rattle.descriptor_linker.proofs.FileNamed.{found-named, refs-named}
use Rattle.descriptor_linker.proofs.OneFits.{one-fits}
use Rattle.descriptor_linker.proofs.report.lines.write_refs.Goals as goal

-- what the file declares fits, since it is one of those
pub references-requires : goal.references-requires
references-requires c =
    one-fits (λ f. bytes_eq (text_of f.name) c.args.name.now) (map (λ f. f.raw) c.args.files.now) c.in-Some.file.now.raw (found-named c.args.files.now c.args.name.now _ c.in-Some.ensures) c.requires

pub returns-in_default : goal.returns-in_default
returns-in_default c =
    subst (λ answer. OnOk c.write_none.result (string_bytes c.write_none.new.report ≡ string_bytes c.args.report.now ++ answer))
    (refs-named c.args.files.now c.args.name.now None c.in_default.ensures) c.write_none.ensures

pub returns : goal.returns
returns c =
    let lines = ap (λ list. reference_lines (map reference_of list)) c.deref.ensures.value ∙ ap reference_lines c.in_ok-references.ensures
    ∙ refs-named c.args.files.now c.args.name.now (Some c.in-Some.file.now) c.in-Some.ensures in
    subst (λ answer. OnOk c.write_references.result (string_bytes c.write_references.new.report ≡ string_bytes c.args.report.now ++ answer)) lines c.write_references.ensures
