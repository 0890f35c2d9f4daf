use Rattle.std.proofs.Common.{OnOk, subst}
use Rattle.record_walk.proofs.Listings.{on-ok}
use Rattle.reference_pass.specs.Linking.{lists_of}
use Rattle.reference_pass.proofs.ByItems.{LinksExtensions, LinksMessages, LinksServices, file-ends}
use Rattle.reference_pass.proofs.linking.Linker.link_file.Goals as goal

-- its messages, its services and its extensions are linked one after another
pub returns : goal.returns
returns c =
    let it = lists_of c.args.self in
    let first = c.link_messages.new.next in
    let second = c.link_services.new.next in
    let last = c.link_extensions.new.next in
    let messages = subst (λ ms. LinksMessages it c.args.next.now first ms c.link_messages.new.messages) c.as_mut_slice.ensures.items c.in_ok-link_messages.ensures in
    let services = subst (λ vs. LinksServices it first second vs c.link_services.new.services) c.as_mut_slice-2.ensures.items c.in_ok-link_services.ensures in
    let extensions = subst (λ xs. OnOk c.link_extensions.result (LinksExtensions it second last xs c.link_extensions.new.extensions)) c.as_mut_slice-3.ensures.items c.link_extensions.ensures in
    on-ok c.link_extensions.result
    (file-ends it c.args.next.now first second last c.args.file.now c.link_messages.new.messages c.link_services.new.services c.link_extensions.new.extensions messages services) extensions
