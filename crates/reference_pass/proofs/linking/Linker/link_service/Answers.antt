use Rattle.std.proofs.Common.{length, OnOk, refl, subst}
use Rattle.std.proofs.lemmas.Option.{slice_get_read}
use Rattle.record_walk.proofs.Listings.{on-ok}
use Rattle.reference_pass.specs.Linking.{LinksMethods, lists_of}
use Rattle.reference_pass.proofs.ByItems.{service-ends, service-missing}
use Rattle.reference_pass.proofs.linking.Linker.link_service.Goals as goal

-- its methods are linked by its item, which is the next one
pub returns : goal.returns
returns c =
    let it = lists_of c.args.self in
    let item = c.in-Some.item.now in
    let got = slice_get_read c.args.self.services.now (length c.args.self.services.now) c.args.next.now.services item refl c.in-Some.ensures.lookup.3.0 c.in-Some.ensures.lookup.1 in
    let methods = subst (λ ms. OnOk c.link_methods.result (LinksMethods it item.methods ms c.link_methods.new.methods)) c.as_mut_slice.ensures.items
    (subst (λ items. OnOk c.link_methods.result (LinksMethods it items c.as_mut_slice.result.now c.link_methods.new.methods)) c.as_slice.ensures c.link_methods.ensures) in
    on-ok c.link_methods.result (service-ends it c.args.next.now _ c.args.service.now item c.link_methods.new.methods got refl) methods

pub returns-in_default : goal.returns-in_default
returns-in_default c =
    service-missing (lists_of c.args.self) c.args.next.now c.args.service.now c.in_default.ensures.lookup.3
