use Rattle.std.proofs.Common.{◌≡◌, length, refl, ◌∙◌}
use Rattle.std.proofs.lemmas.Option.{slice_get_read}
use Rattle.record_walk.proofs.Listings.{on-ok}
use Rattle.reference_pass.specs.Linking.{lists_of, reference_by, typed_by}
use Rattle.reference_pass.proofs.ByItems.{extension-ends, extension-missing}
use Rattle.reference_pass.proofs.linking.Linker.link_extension.Goals as goal

-- its extendee and its type are linked by its item, which is the next one
pub returns : goal.returns
returns c =
    let it = lists_of c.args.self in
    let x = c.args.extension.now in
    let item = c.in-Some.item.now in
    let got = slice_get_read c.args.self.extensions.now (length c.args.self.extensions.now) c.args.next.now.extensions item refl c.in-Some.ensures.lookup.3.0 c.in-Some.ensures.lookup.1 in
    let extendee : c.link_reference.new.reference ≡ reference_by it item.extendee x.extendee = c.in_ok-link_reference.ensures in
    on-ok c.link_type.result
    (λ is. extension-ends it c.args.next.now _ x item c.link_type.new.field got refl (is ∙ (λ j. typed_by it item.kind (record x { extendee = extendee j })))) c.link_type.ensures

pub returns-in_default : goal.returns-in_default
returns-in_default c =
    extension-missing (lists_of c.args.self) c.args.next.now c.args.extension.now c.in_default.ensures.lookup.3
