-- The linked files of a pool, linked at once from nothing: they break nothing, and make the pool.
use Rattle.std.proofs.Common.{◌≡◌, ◌≤◌, ◌<◌, ◌+◌, ℕ, not, cond, is_some, IsOk, Option, None, Some, List, [], ◌∷◌, ◌++◌, length, map, drop, refl, ap, subst, sym, ◌∙◌, arith}
use Rattle.std.proofs.lemmas.Grind.{flat_map-append}
use Rattle.std.proofs.lemmas.List.{length-map, map-append}
use Rattle.std.specs.Cmp.Lexicographic.{slice_cmp}
use Rattle.std.specs.FinMap as finite
use Rattle.std.specs.FinMap.{get-empty}
use Rattle.std.specs.List.{AllByRecursion, flat_map}
use Rattle.std.specs.Option.{option_or}
use Rattle.std.specs.Ordering.{nat_cmp}
use Rattle.proto_types.specs.declared.file.FileDescriptorProto.{FileDescriptorProto}
use Rattle.proto_types.specs.declared.message.DescriptorProto.{DescriptorProto}
use Rattle.plain_data.specs.Lists.{after_each}
use Rattle.proto_types.specs.Readers.{text_of}
use Rattle.pool_types.specs.Contents.{ByText, Contents, files_of, no_contents}
use Rattle.pool_types.specs.declared.contents.message.MessageDescriptorInner.{MessageDescriptorInner}
use Rattle.name_tables.specs.Entries.{first_of, names}
use Rattle.name_tables.proofs.Names.{get-lookup}
use Rattle.record_walk.specs.Changed.{changed, changed_files}
use Rattle.record_walk.specs.Counts.{counts_in, no_counts}
use Rattle.record_walk.specs.Declarations.{declarations}
use Rattle.record_walk.specs.Fits.{counts_with}
use Rattle.record_walk.specs.Protos.{Proto, as_enum, as_extension, as_message, as_service}
use Rattle.record_walk.specs.Shown.{Shown, of_kind}
use Rattle.record_walk.proofs.Changed.{declare-changed}
use Rattle.pool_types.specs.Syntaxes.{syntax_at}
use Rattle.field_rules.specs.EnumItems.{enum_item}
use Rattle.plain_data.specs.Each.{map_enumerated}
use Rattle.reference_pass.specs.SecondPass.{owner_faults, second_pass}
use Rattle.reference_pass.specs.Items.{extension_item, file_item, message_item, service_item, made_of, message_items, enum_items, service_items, extension_items}
use Rattle.reference_pass.specs.Linked.{linking}
use Rattle.reference_pass.specs.Setting.{Setting}
use Rattle.reference_pass.proofs.Owners.{owners-tell}
use Rattle.reference_pass.proofs.Steps.{made-append}
use Rattle.reference_pass.proofs.Unbroken.{AllNew, owners-apart, owners-behind}
use Rattle.pool_laws.proofs.Settings.{Rereads}
use Rattle.pool_laws.proofs.AsLinked.{linked-carried}
use Rattle.pool_laws.proofs.Carries.{Carries}
use Rattle.pool_contents.specs.Extended.{extended_by, with_extended}
use Rattle.pool_contents.proofs.Each.{each-all, each-append, each-map, each-same}
use Rattle.name_pass.specs.FirstPass.{first_faults, first_pass, holder}
use Rattle.descriptor_pool.specs.Build.{declared_with, with_batch, name_faults, reference_faults, setting_with, with_items, with_names}
use Rattle.descriptor_pool.specs.Extensions.{ListsAreWhole, bare}
use Rattle.descriptor_pool.specs.Pool.{Made, empty, linked_to, new_files}
use Rattle.descriptor_pool.proofs.Declared.{declared-linked, each-changed, items-of-files, known_file_names, known_names, linking-keeps}
use Rattle.descriptor_pool.proofs.Extendees.{each-made, made-whole}
use Rattle.descriptor_pool.proofs.Files.{lie-between}
use Rattle.descriptor_pool.proofs.Sound.{Known, link-known, made-sound}
use Rattle.pool_laws.specs.Laws.{Relinks}
use Rattle.pool_laws.proofs.MadeFits.{made_fits}
use Rattle.pool_laws.proofs.Relinks.{files-are, long-with, new-again, old-again, reread, seen_in, sees-is, setting-again}
use Rattle.pool_laws.proofs.Items.{SameItem, all-fine, files-again, kind-again, same-enum, same-extension, same-message, same-service}
use Rattle.pool_laws.proofs.Passes.{after-both, pass-again, unbroken-again}
use Rattle.pool_laws.proofs.AllOf.{all-of, all-weaker}

-- what the files of a pool declare
abbrev declared : Contents → List Shown
declared p = declarations no_counts (files_of p)

-- the files of a pool break nothing once more, and its items are what they make
pub record Relinked (p : Contents) : Type 0 where
  pub first : first_pass (files_of p) no_contents (declared p) ≡ []
  pub second : flat_map (owner_faults (reread p) []) (declared p) ≡ []
  pub files : p.files ≡ map_enumerated (file_item (reread p)) 0 (files_of p)
  pub messages : map bare p.messages ≡ message_items (reread p) (declared p)
  pub enums : p.enums ≡ enum_items (declared p)
  pub services : p.services ≡ service_items (reread p) (declared p)
  pub extensions : p.extensions ≡ extension_items (reread p) (declared p)

nothing-relinked : Relinked no_contents
nothing-relinked = record { first = refl; second = refl; files = refl; messages = refl; enums = refl; services = refl; extensions = refl }

pub syntaxes-of : (many : ℕ) (fs gs : List FileDescriptorProto) → ((n : ℕ) → n < many → syntax_at gs n ≡ syntax_at fs n)
    → (ds : List Shown) → AllByRecursion (λ d. d.file < many) ds → AllByRecursion (λ d. syntax_at gs d.file ≡ syntax_at fs d.file) ds
syntaxes-of many fs gs same = all-weaker (λ d. d.file < many) (λ d. syntax_at gs d.file ≡ syntax_at fs d.file) (λ d. same d.file)

bare-made : (s : Setting) (es : List (Shown × DescriptorProto)) → map bare (map (λ e. message_item s e.0 e.1) es) ≡ map (λ e. message_item s e.0 e.1) es
bare-made s [] = refl
bare-made s (e ∷ es) = ap (λ ms. message_item s e.0 e.1 ∷ ms) (bare-made s es)

pub or-nothing : {X : Type 0} (found : Option X) → found ≡ option_or found None
or-nothing None = refl
or-nothing (Some x) = refl

-- what each file of a pool sees is kept with it
pub seen-kept : (q : Contents) → Relinked q → map (λ f. f.transitive_dependencies) q.files ≡ (reread q).seen
seen-kept q was =
    ap (map (λ f. f.transitive_dependencies)) was.files
    ∙ each-map (λ f. f.transitive_dependencies) (file_item (reread q)) 0 (files_of q)
    ∙ each-same (λ n f. (file_item (reread q) n f).transitive_dependencies) (λ n _. seen_in q n) 0 (files_of q) (λ n f _ to. sees-is q n (omega (arith, to)))

-- a pool that is relinked, and new files that break nothing behind it
module _ (q : Contents) (new : List FileDescriptorProto) (before : Known q) (was : Relinked q) (after : Known (with_batch q new))
    (first : name_faults q new ≡ []) (second : reference_faults q new ≡ []) where
  abbrev p : Contents
  p = with_batch q new

  abbrev s : Setting
  s = setting_with q new

  abbrev alone : Setting
  alone = reread q

  abbrev t : Setting
  t = reread p

  abbrev ds : List Shown
  ds = declared_with q new

  abbrev linked_ds : List Shown
  linked_ds = map (changed (linking s)) ds

  abbrev came : List FileDescriptorProto
  came = changed_files (linking s) (length q.files) new

  -- the files of the pool stay as they are
  old-still : changed_files (linking alone) 0 (files_of q) ≡ files_of q
  old-still = sym (ap (map (λ f. f.raw)) was.files ∙ each-map (λ f. f.raw) (file_item alone) 0 (files_of q) ∙ each-changed (linking alone) 0 (files_of q))

  declared-still : map (changed (linking alone)) (declared q) ≡ declared q
  declared-still = sym (declare-changed (linking alone) (linking-keeps alone) no_counts (files_of q)) ∙ ap (declarations no_counts) old-still

  declared-are : declared p ≡ declared q ++ linked_ds
  declared-are = declared-linked (with_names q ds) new before.counts_are s

  again-old : Rereads alone t
  again-old = old-again q new before after was.second

  again-new : Rereads s t
  again-new = new-again q new before after was.second (seen-kept q was)

  carried-old : Carries alone t (linking alone) (length (files_of q))
  carried-old = linked-carried alone t again-old

  carried-new : Carries s t (linking s) (length (files_of q ++ new))
  carried-new = linked-carried s t again-new

  many-files : length q.files + length new ≡ length (files_of q ++ new)
  many-files = sym (long-with q new)

  lie-old : AllByRecursion (λ d. d.file < length (files_of q)) (declared q)
  lie-old = let start : 0 + length (files_of q) ≡ length (files_of q) = omega arith in
      subst (λ n. AllByRecursion (λ d. d.file < n) (declared q)) start (lie-between no_counts (files_of q)).1

  lie-new : AllByRecursion (λ d. d.file < length (files_of q ++ new)) ds
  lie-new = subst (λ n. AllByRecursion (λ d. d.file < n) ds) many-files (lie-between (counts_in q) new).1

  unbroken : flat_map (owner_faults s []) ds ≡ []
  unbroken = (owners-apart s q.extensions ds (sym (owners-tell s q.extensions (counts_in q) new) ∙ second)).0

  -- neither pass finds a fault
  second-again : flat_map (owner_faults t []) (declared p) ≡ []
  second-again =
      let old = ap (flat_map (owner_faults t [])) (sym declared-still) ∙ unbroken-again alone t again-old (declared q) lie-old was.second in
      ap (flat_map (owner_faults t [])) declared-are ∙ flat_map-append (owner_faults t []) (declared q) linked_ds
      ∙ (λ i. old i ++ unbroken-again s t again-new ds lie-new unbroken i)

  held : {X : Type 0} (known : ByText X) (es : List (List ℕ × X)) → known ≡ names es → (name : List ℕ) → holder finite.empty es name ≡ holder known [] name
  held known es is name =
      ap (λ found. option_or found (first_of es name)) (get-empty (slice_cmp nat_cmp) name)
      ∙ sym (get-lookup es name) ∙ ap (λ found. finite.get found name) (sym is) ∙ or-nothing (finite.get known name)

  first-again : first_pass (files_of p) no_contents (declared p) ≡ []
  first-again =
      let faults = first_faults (files_of p) no_contents in
      let old = ap (after_each faults []) (sym declared-still)
      ∙ pass-again (linking alone) (linking-keeps alone) (files_of q) (files_of p) no_contents no_contents [] [] (declared q) (record { names = λ _. refl; files = λ _. refl })
      (syntaxes-of (length (files_of q)) (files_of q) (files_of p) again-old.syntaxes (declared q) lie-old) was.first in
      let made = pass-again (linking s) (linking-keeps s) (files_of q ++ new) (files_of p) q no_contents [] (declared q) ds
      (record { names = held q.names (known_names q) before.names_are; files = held q.file_names (known_file_names q) before.file_names_are })
      (syntaxes-of (length (files_of q ++ new)) (files_of q ++ new) (files_of p) again-new.syntaxes ds lie-new) first in
      ap (after_each faults []) declared-are ∙ after-both faults [] (declared q) linked_ds old made

  -- the items of files
  files-made : p.files ≡ map_enumerated (file_item t) 0 (files_of p)
  files-made =
      let start : 0 + length (files_of q) ≡ length q.files = let old = length-map q.files (λ f. f.raw) in omega (arith, old) in
      let whole : 0 + length (files_of q) ≤ length (files_of q) = omega arith in
      let room : length q.files + length new ≤ length (files_of q ++ new) = let many = many-files in omega (arith, many) in
      let old = ap (map_enumerated (file_item t) 0) (sym old-still) ∙ files-again carried-old no_counts (files_of q) whole (all-of (λ f. all-of again-old.file_names f.dependency) (files_of q)) was.second ∙ sym was.files in
      let made = ap (λ n. map_enumerated (file_item t) n came) start ∙ files-again carried-new (counts_in q) new room (all-of (λ f. all-of again-new.file_names f.dependency) new) unbroken in
      ap (λ fs. q.files ++ fs) (items-of-files (file_item s) (counts_in q) new)
      ∙ (λ i. sym old i ++ sym made i)
      ∙ sym (each-append (file_item t) 0 (files_of q) came) ∙ ap (map_enumerated (file_item t) 0) (sym (files-are q new before after))

  -- the items of another kind
  kind-made : {X Y : Type 0} (pick : Proto → Option X) (old_item item now : Shown → X → Y) → SameItem carried-old pick old_item now → SameItem carried-new pick item now
      → (had : List Y) → had ≡ made_of pick old_item (declared q) → had ++ made_of pick item ds ≡ made_of pick now (declared p)
  kind-made pick old_item item now same_old same had is =
      let old = is ∙ sym (kind-again carried-old pick old_item now same_old (declared q) (all-fine alone (length (files_of q)) (declared q) lie-old was.second))
      ∙ ap (made_of pick now) declared-still in
      let made = sym (kind-again carried-new pick item now same ds (all-fine s (length (files_of q ++ new)) ds lie-new unbroken)) in
      (λ i. old i ++ made i)
      ∙ sym (made-append pick now (declared q) linked_ds) ∙ ap (made_of pick now) (sym declared-are)

  messages-made : map bare p.messages ≡ message_items t (declared p)
  messages-made =
      let came = message_items s ds in
      let more = extended_by (length q.extensions) (drop (length q.extensions) (q.extensions ++ extension_items s ds)) in
      each-map bare more 0 (q.messages ++ came) ∙ each-all bare 0 (q.messages ++ came) ∙ map-append bare q.messages came
      ∙ ap (λ ms. map bare q.messages ++ ms) (bare-made s (of_kind as_message ds))
      ∙ kind-made as_message (message_item alone) (message_item s) (message_item t) (same-message carried-old) (same-message carried-new) (map bare q.messages) was.messages

  linked-relinked : Relinked p
  linked-relinked = record {
    first = first-again;
    second = second-again;
    files = files-made;
    messages = messages-made;
    enums = kind-made as_enum enum_item enum_item enum_item (same-enum carried-old) (same-enum carried-new) q.enums was.enums;
    services = kind-made as_service (service_item alone) (service_item s) (service_item t) (same-service carried-old) (same-service carried-new) q.services was.services;
    extensions = kind-made as_extension (extension_item alone) (extension_item s) (extension_item t) (same-extension carried-old) (same-extension carried-new)
        q.extensions was.extensions;
  }

pub made-relinked : (p : Contents) → Made p → Relinked p
made-relinked p (empty is) = subst Relinked (sym is) nothing-relinked
made-relinked p (linked_to {q = q} batch made accepts fits is) =
    let before = (made-sound q made).known in
    subst Relinked (sym is) (linked-relinked q (new_files q batch) before (made-relinked q made) (link-known q (new_files q batch) before) accepts.0 accepts.1)

-- all files are new to nothing
all-new : (fs : List FileDescriptorProto) → new_files no_contents fs ≡ fs
all-new [] = refl
all-new (f ∷ fs) =
    ap (λ found. cond (not (is_some found)) (f ∷ new_files no_contents fs) (new_files no_contents fs)) (get-empty (slice_cmp nat_cmp) (text_of f.name))
    ∙ ap (λ gs. f ∷ gs) (all-new fs)

-- what linking makes of the files of a pool behind nothing is the pool
linked-again : (p : Contents) → Known p → ListsAreWhole p → Relinked p → with_batch no_contents (files_of p) ≡ p
linked-again p known lists again =
    let ds = declared p in
    let setting = setting-again p known in
    let t = reread p in
    let whole : List MessageDescriptorInner → List MessageDescriptorInner = λ ms. map_enumerated (extended_by 0 p.extensions) 0 ms in
    let messages = ap whole (sym again.messages) ∙ each-made (extended_by 0 p.extensions) bare 0 p.messages ∙ sym lists in
    ap (λ against. with_extended 0 (with_items (with_names no_contents ds) against ds)) setting
    ∙ (λ i. record {
      files = (items-of-files (file_item t) no_counts (files_of p) ∙ sym again.files) i;
      messages = ((λ j. map_enumerated (extended_by 0 (sym again.extensions j)) 0 (message_items t ds)) ∙ messages) i;
      enums = sym again.enums i;
      services = sym again.services i;
      extensions = sym again.extensions i;
      names = (setting i).names;
      file_names = (setting i).file_names;
    })

-- the law, of all contents that are made
pub relinked : (p : Contents) → Made p → Relinks p
relinked p made =
    let fs = files_of p in
    let known = (made-sound p made).known in
    let again = made-relinked p made in
    let whole = made-whole p made in
    let new = subst (AllNew []) again.extensions whole.numbers in
    let second = ap (λ s. second_pass s [] (declared p)) (setting-again p known) ∙ owners-tell (reread p) [] no_counts fs ∙ owners-behind (reread p) [] (declared p) again.second new in (
      (ap (name_faults no_contents) (all-new fs) ∙ again.first, ap (reference_faults no_contents) (all-new fs) ∙ second),
      subst (λ new. IsOk (counts_with no_counts new)) (sym (all-new fs)) (made_fits p made),
      ap (with_batch no_contents) (all-new fs) ∙ linked-again p known whole.lists again,
    )
