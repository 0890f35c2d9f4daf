-- New files that are linked in two parts make the pool that they make at once.
use Rattle.std.proofs.Common.{◌≡◌, ◌<◌, ◌+◌, Option, List, [], ◌++◌, length, drop, append_assoc, ap, subst, sym, ◌∙◌, arith}
use Rattle.std.proofs.lemmas.List.Elements.{recursion_from_All}
use Rattle.std.specs.FinMap as finite
use Rattle.std.specs.List.{AllByRecursion}
use Rattle.proto_types.specs.declared.file.FileDescriptorProto.{FileDescriptorProto}
use Rattle.pool_types.specs.Contents.{Contents, files_of}
use Rattle.pool_types.specs.declared.contents.extension.ExtensionDescriptorInner.{ExtensionDescriptorInner}
use Rattle.pool_types.specs.declared.contents.message.MessageDescriptorInner.{MessageDescriptorInner}
use Rattle.record_walk.specs.Counts.{counted, counts_in, no_counts}
use Rattle.record_walk.specs.Protos.{Proto, as_enum, as_extension, as_message, as_service}
use Rattle.record_walk.specs.Shown.{Shown}
use Rattle.field_rules.specs.EnumItems.{enum_item}
use Rattle.plain_data.specs.Each.{map_enumerated}
use Rattle.reference_pass.specs.Items.{extension_item, file_item, message_item, service_item, made_of, file_items, message_items, enum_items, service_items, extension_items}
use Rattle.reference_pass.specs.Setting.{Setting}
use Rattle.reference_pass.proofs.Steps.{made-append}
use Rattle.pool_laws.proofs.Settings.{unchanged}
use Rattle.pool_laws.proofs.AsGiven.{given-carried}
use Rattle.pool_laws.proofs.Carries.{Carries}
use Rattle.pool_laws.proofs.Unchanged.{declarations-unchanged, files-unchanged}
use Rattle.pool_contents.specs.Extended.{extended_by}
use Rattle.pool_contents.proofs.Each.{each-append, length-each}
use Rattle.descriptor_pool.specs.Build.{declared_with, with_batch, reference_faults, with_names}
use Rattle.descriptor_pool.proofs.Declared.{items-of-files}
use Rattle.descriptor_pool.proofs.Extendees.{Whole, drop-front, link-whole}
use Rattle.descriptor_pool.proofs.Files.{counted-files}
use Rattle.descriptor_pool.proofs.Sound.{Known}
use Rattle.pool_laws.specs.Laws.{ArePlain}
use Rattle.pool_laws.proofs.Front.{all-names-stay, front-stands, lie, references-fine}
use Rattle.pool_laws.proofs.Items.{SameItem, all-fine, files-again, kind-again, same-enum, same-extension, same-message, same-service}
use Rattle.pool_laws.proofs.Lists.{in-two-steps}
use Rattle.pool_laws.proofs.Parts.{AllKnown, declared-both, earlier, later, part, unbroken-both}
use Rattle.pool_laws.proofs.Relinked.{Relinked}
use Rattle.pool_laws.proofs.Rest.{at_once, behind, declared-second, file-names-same, grown, lie-second, many, names-same, rest-stands, same-file-names, start}
use Rattle.pool_laws.proofs.AllOf.{all-of, all-rest}

module _ (p : Contents) (entered : Known p) (again : Relinked p) (front back : List FileDescriptorProto)
    (closed : AllKnown front (finite.get (with_names p (declared_with p front)).file_names)) (plain : ArePlain no_counts (files_of p ++ front))
    (none : reference_faults p (front ++ back) ≡ []) where
  abbrev pool : Contents
  pool = grown p entered again front back closed

  abbrev s : Setting
  s = at_once p entered again front back closed

  abbrev u : Setting
  u = part p entered again front back closed

  abbrev t : Setting
  t = behind p entered again front back closed

  abbrev first : List Shown
  first = earlier p entered again front back closed

  abbrev second : List Shown
  second = later p entered again front back closed

  abbrev joint : List Shown
  joint = declared_with p (front ++ back)

  abbrev after : List Shown
  after = declared_with pool back

  front-carried : Carries s u unchanged (length p.files + length front)
  front-carried = given-carried (front-stands p entered again front back closed plain)

  rest-carried : Carries s t unchanged (many p entered again front back closed)
  rest-carried = given-carried (rest-stands p entered again front back closed)

  -- the items of one kind
  kind-joined : {X Y : Type 0} (pick : Proto → Option X) (was alone now : Shown → X → Y) → SameItem front-carried pick was alone → SameItem rest-carried pick was now
      → made_of pick was joint ≡ made_of pick alone first ++ made_of pick now after
  kind-joined pick was alone now same_front same_rest =
      let unbroken = unbroken-both p entered again front back closed none in
      let one = sym (kind-again front-carried pick was alone same_front first (all-fine s (length p.files + length front) first (lie p entered again front back closed) unbroken.0))
      ∙ ap (made_of pick alone) (declarations-unchanged first) in
      let two = sym (kind-again rest-carried pick was now same_rest second (all-fine s (many p entered again front back closed) second (lie-second p entered again front back closed) unbroken.1))
      ∙ ap (made_of pick now) (declarations-unchanged second ∙ sym (declared-second p entered again front back closed)) in
      ap (made_of pick was) (declared-both p entered again front back closed) ∙ made-append pick was first second ∙ (λ i. one i ++ two i)

  -- those of files
  files-joined : file_items s joint ≡ file_items u first ++ file_items t after
  files-joined =
      let base = counted (counts_in p) first in
      let unbroken = unbroken-both p entered again front back closed none in
      let many_files = counted-files (counts_in p) front in
      let stay = all-of (λ f. all-of (same-file-names p entered again front back closed) f.dependency) back in
      let one = ap (map_enumerated (file_item u) (length p.files)) (sym (files-unchanged (length p.files) front))
      ∙ files-again front-carried (counts_in p) front (omega arith) (all-names-stay p entered again front back closed front closed) unbroken.0 in
      let two = ap (map_enumerated (file_item t) base.files) (sym (files-unchanged base.files back)) ∙ files-again rest-carried base back (omega arith) stay unbroken.1 in
      items-of-files (file_item s) (counts_in p) (front ++ back) ∙ each-append (file_item s) (length p.files) front back
      ∙ (λ i. sym one i ++ (ap (λ n. map_enumerated (file_item s) n back) (sym many_files) ∙ sym two ∙ ap (λ n. map_enumerated (file_item t) n back) (many_files ∙ sym (start p entered again front back closed))) i)
      ∙ (λ i. sym (items-of-files (file_item u) (counts_in p) front) i ++ sym (items-of-files (file_item t) (counts_in pool) back) i)

  abbrev messages_first : List MessageDescriptorInner
  messages_first = message_items u first

  abbrev messages_after : List MessageDescriptorInner
  messages_after = message_items t after

  abbrev extensions_first : List ExtensionDescriptorInner
  extensions_first = extension_items u first

  abbrev extensions_after : List ExtensionDescriptorInner
  extensions_after = extension_items t after

  extensions-joined : extension_items s joint ≡ extensions_first ++ extensions_after
  extensions-joined = kind-joined as_extension (extension_item s) (extension_item u) (extension_item t) (same-extension front-carried) (same-extension rest-carried)

  messages-joined : message_items s joint ≡ messages_first ++ messages_after
  messages-joined = kind-joined as_message (message_item s) (message_item u) (message_item t) (same-message front-carried) (same-message rest-carried)

  -- the extensions of the first part extend messages before those of the second
  extend-before : Whole p → AllByRecursion (λ x. x.extendee < length (p.messages ++ messages_first)) extensions_first
  extend-before lists =
      let grown_lists = link-whole p front entered lists (references-fine p entered again front back closed plain none) in
      let many_messages = length-each (extended_by (length p.extensions) (drop (length p.extensions) pool.extensions)) 0 (p.messages ++ messages_first) in
      all-rest (λ x. x.extendee < length (p.messages ++ messages_first)) p.extensions extensions_first
      (subst (λ n. AllByRecursion (λ x. x.extendee < n) pool.extensions) many_messages
      (recursion_from_All (λ x. x.extendee < length pool.messages) pool.extensions grown_lists.extendees))

  lists-joined : Whole p → (with_batch pool back).messages ≡ (with_batch p (front ++ back)).messages
  lists-joined lists =
      let old = p.extensions in
      let before = p.messages ++ messages_first in
      let all = extension_items s joint in
      let filled : List ExtensionDescriptorInner → List MessageDescriptorInner → List MessageDescriptorInner = λ xs ms. map_enumerated (extended_by (length old) xs) 0 ms in
      (λ i. map_enumerated (extended_by (length pool.extensions) (drop-front pool.extensions extensions_after i)) 0 (filled (drop-front old extensions_first i) before ++ messages_after))
      ∙ in-two-steps old extensions_first extensions_after before messages_after (extend-before lists)
      ∙ (λ i. filled ((sym extensions-joined ∙ sym (drop-front old all)) i) ((append_assoc p.messages messages_first messages_after ∙ ap (λ ms. p.messages ++ ms) (sym messages-joined)) i))

  -- the pool
  pub linked-joined : Whole p → with_batch pool back ≡ with_batch p (front ++ back)
  linked-joined lists =
      let files = append_assoc p.files (file_items u first) (file_items t after) ∙ ap (λ xs. p.files ++ xs) (sym files-joined) in
      let messages = lists-joined lists in
      let enums = append_assoc p.enums (enum_items first) (enum_items after)
      ∙ ap (λ xs. p.enums ++ xs) (sym (kind-joined as_enum enum_item enum_item enum_item (same-enum front-carried) (same-enum rest-carried))) in
      let services = append_assoc p.services (service_items u first) (service_items t after)
      ∙ ap (λ xs. p.services ++ xs) (sym (kind-joined as_service (service_item s) (service_item u) (service_item t) (same-service front-carried) (same-service rest-carried))) in
      let extensions = append_assoc p.extensions extensions_first extensions_after ∙ ap (λ xs. p.extensions ++ xs) (sym extensions-joined) in
      λ i. record {
        files = files i;
        messages = messages i;
        enums = enums i;
        services = services i;
        extensions = extensions i;
        names = names-same p entered again front back closed i;
        file_names = file-names-same p entered again front back closed i;
      }
