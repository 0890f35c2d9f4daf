use Rattle.std.proofs.Common.{◌≡◌, ◌++◌, length, ap, subst, sym, ◌∙◌, arith}
use Rattle.std.proofs.lemmas.List.Elements.{All-append}
use Rattle.std.specs.List.{All}
use Rattle.pool_types.specs.Contents.{Contents}
use Rattle.field_rules.specs.NamesBegin.{EnumNamesBegin}
use Rattle.reference_pass.specs.NamesBegin.{AllNamesBegin, ExtensionNameBegins, MessageNamesBegin, ServiceNamesBegin}
use Rattle.record_walk.specs.declared.counts.Counts.{Counts}
use Rattle.record_walk.specs.Counts.{counted}
use Rattle.record_walk.specs.Declarations.{declarations}
use Rattle.record_walk.proofs.Room.{room-fits}
use Rattle.pool_contents.specs.Extended.{NumbersLieBefore, with_extended}
use Rattle.pool_contents.specs.Growing.{before_items, first_extension, new_records}
use Rattle.descriptor_pool.specs.Against.{setting_against}
use Rattle.descriptor_pool.specs.Build.{with_items}
use Rattle.descriptor_pool.proofs.Declared.{counts-with}
use Rattle.std.proofs.lemmas.List.{length-take-le}
use Rattle.record_walk.specs.Protos.{as_message}
use Rattle.record_walk.specs.Shown.{of_kind}
use Rattle.reference_pass.specs.Items.{message_items}
use Rattle.pool_contents.proofs.Numbered.{lead-before}
use Rattle.descriptor_pool.proofs.Extendees.{numbers-append, numbers-new}
use Rattle.descriptor_pool.proofs.Listed.{names-extended}
use Rattle.descriptor_pool.proofs.MadeItems.{made-is}
use Rattle.descriptor_pool.proofs.build.make_items.Goals as goal

-- there are no more extensions than fit
pub extend_messages-requires : goal.extend_messages-requires
extend_messages-requires c =
    let p = c.args.pool.now in
    let ds = declarations p.base (new_records p) in
    let is = made-is p c.put_items.new.pool c.link_files.new.pool c.in_ok-items.items c.in_ok-items.ensures.items c.in_ok-put_items.ensures.ok c.in_ok-put_items.ensures.kept
    c.requires.imports c.requires.items c.in_ok-link_files.ensures.ok in
    let before = ap (λ (n : Counts). counted n ds) (sym c.requires.before) in
    let room = (room-fits p.base (new_records p) c.requires.counts).within.extensions in
    let many = ap (λ (n : Counts). n.extensions) (counts-with (before_items p) (setting_against p.inner) ds ∙ before) in
    let extensions = ap (λ (x : Contents). length x.extensions) is in
    let first = ap (λ (x : Contents). length x.extensions) (c.in_ok-link_files.ensures.kept ∙ c.in_ok-put_items.ensures.kept)
    ∙ length-take-le p.base.extensions p.inner.extensions.items p.extensions_within in
    let many_before : p.base.extensions ≡ length p.inner.extensions.items = ap (λ (n : Counts). n.extensions) c.requires.before in
    let lie = subst (λ n. NumbersLieBefore n p.inner.messages.items) (sym many_before) (lead-before p.inner.extensions.items p.inner.messages.items c.requires.numbers) in
    let numbers = numbers-append p.base.extensions p.inner.messages.items (message_items (setting_against p.inner) ds) lie
    (numbers-new p.base.extensions (setting_against p.inner) (of_kind as_message ds)) in
    record {
      few = omega (arith, extensions, many, room);
      numbers = subst (λ n. NumbersLieBefore n c.link_files.new.pool.inner.messages.items) (sym first)
          (subst (λ (x : Contents). NumbersLieBefore p.base.extensions x.messages) (sym is) numbers);
    }

pub returns-clause-made : goal.returns-clause-made
returns-clause-made c =
    let p = c.args.pool.now in
    let is = made-is p c.put_items.new.pool c.link_files.new.pool c.in_ok-items.items c.in_ok-items.ensures.items c.in_ok-put_items.ensures.ok c.in_ok-put_items.ensures.kept
    c.requires.imports c.requires.items c.in_ok-link_files.ensures.ok in
    let first = ap (λ (x : Contents). length x.extensions) (c.in_ok-link_files.ensures.kept ∙ c.in_ok-put_items.ensures.kept) in
    c.in_ok-extend_messages.ensures.ok ∙ (λ i. with_extended (first i) (is i))

-- the names of old items begin where a character begins, and so do those of new ones
pub returns-clause-names : goal.returns-clause-names
returns-clause-names c =
    let p = c.args.pool.now in
    let items = c.in_ok-items.items in
    let is = made-is p c.put_items.new.pool c.link_files.new.pool items c.in_ok-items.ensures.items c.in_ok-put_items.ensures.ok c.in_ok-put_items.ensures.kept
    c.requires.imports c.requires.items c.in_ok-link_files.ensures.ok in
    let first = ap (λ (x : Contents). length x.extensions) (c.in_ok-link_files.ensures.kept ∙ c.in_ok-put_items.ensures.kept) in
    let made = c.in_ok-extend_messages.ensures.ok ∙ (λ i. with_extended (first i) (is i)) in
    let has = c.in_ok-items.ensures.items in
    let came = c.in_ok-items.ensures.names in
    let old = c.requires.names in
    let all = with_items (before_items p) (setting_against p.inner) (declarations p.base (new_records p)) in
    let begin : AllNamesBegin all = record {
      messages = subst (λ ms. All MessageNamesBegin (p.inner.messages.items ++ ms)) has.messages
          (All-append MessageNamesBegin p.inner.messages.items items.messages.items old.messages came.messages);
      enums = subst (λ es. All EnumNamesBegin (p.inner.enums.items ++ es)) has.enums
          (All-append EnumNamesBegin p.inner.enums.items items.enums.items old.enums came.enums);
      services = subst (λ vs. All ServiceNamesBegin (p.inner.services.items ++ vs)) has.services
          (All-append ServiceNamesBegin p.inner.services.items items.services.items old.services came.services);
      extensions = subst (λ xs. All ExtensionNameBegins (p.inner.extensions.items ++ xs)) has.extensions
          (All-append ExtensionNameBegins p.inner.extensions.items items.extensions.items old.extensions came.extensions);
    } in
    subst AllNamesBegin (sym made) (names-extended (first_extension p) all begin)
