use Rattle.std.proofs.Common.{ap, map, ◌∙◌}
use Rattle.record_walk.specs.declared.declaration.Declaration.{Declaration}
use Rattle.record_walk.specs.Leads.{leads}
use Rattle.record_lists.specs.Code.{reference_of}
use Rattle.record_lists.proofs.ExtensionReferences.{extension-adds}
use Rattle.record_lists.proofs.MethodReferences.{method-adds}
use Rattle.record_lists.proofs.reference.add_references.Goals as goal

-- of a method its input and its output
pub returns-in_ok-add_reference-in-Method : goal.returns-in_ok-add_reference-in-Method
returns-in_ok-add_reference-in-Method c d same lead =
    let name = ap (λ (y : Declaration). y.full_name) same in
    let there = ap (leads c.args.file.now) (c.as_slice-in-Method.ensures ∙ ap (λ (y : Declaration). y.path) same) ∙ lead in
    method-adds c.add_reference-in-Method.result c.args.declaration (leads c.args.file.now c.as_slice-in-Method.result.now)
    c.method_types.result.0.now c.method_types.result.1.now (map reference_of c.args.found.now.items)
    (map reference_of c.add_reference.new.found.items) (map reference_of c.add_reference-in-Method.new.found.items)
    d.file d.parent d.index d.path d.full_name d.proto c.in-Method.is same there c.method_types.ensures.input c.method_types.ensures.output
    (c.in_ok-add_reference-in-Method.ensures d (c.in_ok-full_name-in-Method.ensures ∙ name)) (c.add_reference-in-Method.ensures d name)

-- of an extension its extendee and its type name
pub returns-in_ok-add_reference-in-Extension : goal.returns-in_ok-add_reference-in-Extension
returns-in_ok-add_reference-in-Extension c d same lead =
    let name = ap (λ (y : Declaration). y.full_name) same in
    let there = ap (leads c.args.file.now) (c.as_slice-in-Extension.ensures ∙ ap (λ (y : Declaration). y.path) same) ∙ lead in
    extension-adds c.add_given-in-Extension.result c.args.declaration (leads c.args.file.now c.as_slice-in-Extension.result.now)
    c.extension_types.result.0.now c.extension_types.result.1.now (map reference_of c.args.found.now.items)
    (map reference_of c.add_reference-in-Extension.new.found.items) (map reference_of c.add_given-in-Extension.new.found.items)
    d.file d.parent d.index d.path d.full_name d.proto c.in-Extension.is same there c.extension_types.ensures.extendee c.extension_types.ensures.type_name
    (c.in_ok-add_reference-in-Extension.ensures d (c.in_ok-full_name-in-Extension.ensures ∙ name)) (c.add_given-in-Extension.ensures d name)
