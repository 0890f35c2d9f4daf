use Rattle.std.proofs.Common.{◌≡◌, true, List, Some, length, slice_get, refl, ap, sym, ◌∙◌}
use Rattle.std.proofs.lemmas.Option.{slice_get_read}
use Rattle.std.specs.Str.{bytes_eq}
use Rattle.pool_types.specs.declared.contents.message.MessageDescriptorInner.{MessageDescriptorInner}
use Rattle.pool_changes.proofs.Looking.{message_meant_at}
use Rattle.pool_changes.proofs.named.message_at.Goals as goal

-- the name is that of the message with the index
pub returns-then-eq : goal.returns-then-eq
returns-then-eq c =
    let p = c.args.pool.now in
    let ms = c.messages.result.now in
    let m = c.in_ok-message.message.now in
    let at : slice_get ms c.args.index ≡ Some m = slice_get_read ms (length ms) c.args.index m refl c.in_ok-message.ensures.lookup.3.0 c.in_ok-message.ensures.lookup.1 in
    let there : slice_get p.messages c.args.index ≡ Some m = sym (ap (λ (xs : List MessageDescriptorInner). slice_get xs c.args.index) c.messages.ensures.items) ∙ at in
    let named : bytes_eq m.id.full_name c.args.name.now ≡ true = cc in
    message_meant_at p c.made.ensures c.args.index m c.args.name.now there named
