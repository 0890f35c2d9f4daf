use Rattle.std.proofs.Common.{MutBor, [], ◌++◌, List, map, ap, ◌∙◌, sym, append-nil, refl}
use Rattle.std.specs.List.{filter}
use borrow.Pointer.Hide.{carried_sameᵐ}
use mir.Syntax.{Dict}
use Rattle.record_walk.specs.declared.declaration.Declaration.{Declaration}
use Rattle.record_walk.specs.Declarations.{declarations}
use Rattle.record_walk.specs.Declaration.{declaration_of}
use Rattle.record_walk.specs.Visitor.{Progress}
use Rattle.example_visitor.specs.FieldVisitor.{is_field}
use Rattle.example_visitor.proofs.fields_of.OwnLists.{own-1, at-1-1, entry-1-1, same-1-1}
use Rattle.example_visitor.proofs.fields_of.Object-1 as object
use Rattle.example_visitor.proofs.fields_of.Goals as goal

-- the visitor object that is shown the declarations is the visitor
pub returns : goal.returns
returns c =
    let ds = declarations c.args.base c.args.files.now in
    let lent : MutBor (List Declaration) = record { ref_ptr = (c.visitor-1.given.1, 0); ghost_name = c.visitor-1.given.0; now = c.new-visitor.result } in
    let shown = c.visitor-2-1.given in
    let was = carried_sameᵐ object.Members Dict entry-1-1 (own-1.entry at-1-1) same-1-1 Progress (λ j r. j.1.after r.now ds) lent in
    let is = carried_sameᵐ object.Members Dict entry-1-1 (own-1.entry at-1-1) same-1-1 Progress (λ j r. j.1.after r.now []) shown.0 in
    let same = ap (λ z. (own-1.entry z.now.0).1.after z.now.1 []) shown.1 in
    c.visitor-3-1.given.1 refl ∙ sym (append-nil shown.0.now)
    ∙ ap (λ (p : Progress). p.listed) (sym is ∙ same ∙ c.in_ok-visit.ensures.after ∙ was)
    ∙ ap (λ (fields : List Declaration). fields ++ map declaration_of (filter is_field ds)) c.new-visitor.ensures
