use Rattle.std.proofs.Common.{◌≡◌, true, List, Some, length, slice_get, refl, ap, sym, ◌∙◌}
use Rattle.std.proofs.lemmas.Option.{slice_get_read}
use Rattle.std.specs.Str.{bytes_eq}
use Rattle.pool_types.specs.declared.contents.enumeration.EnumDescriptorInner.{EnumDescriptorInner}
use Rattle.pool_changes.proofs.Looking.{enum_meant_at}
use Rattle.pool_changes.proofs.named.enum_at.Goals as goal

-- the name is that of the enum with the index
pub returns-then-eq : goal.returns-then-eq
returns-then-eq c =
    let p = c.args.pool.now in
    let es = c.enums.result.now in
    let e = c.in_ok-enumeration.enumeration.now in
    let at : slice_get es c.args.index ≡ Some e = slice_get_read es (length es) c.args.index e refl c.in_ok-enumeration.ensures.lookup.3.0 c.in_ok-enumeration.ensures.lookup.1 in
    let there : slice_get p.enums c.args.index ≡ Some e = sym (ap (λ (xs : List EnumDescriptorInner). slice_get xs c.args.index) c.enums.ensures.items) ∙ at in
    let named : bytes_eq e.id.full_name c.args.name.now ≡ true = cc in
    enum_meant_at p c.made.ensures c.args.index e c.args.name.now there named
