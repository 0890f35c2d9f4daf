-- The items of declarations that broke nothing, and are carried to another setting: they are what they were.
use Rattle.std.proofs.Common.{◌≡◌, ◌≤◌, ◌<◌, ◌+◌, ℕ, ℤ, Option, None, Some, List, [], ◌∷◌, length, map, refl, ap, subst, sym, ◌∙◌, arith}
use Rattle.std.specs.List.{AllByRecursion, cons_option, flat_map}
use Rattle.std.specs.Option.{option_map}
use Rattle.proto_types.specs.declared.file.FileDescriptorProto.{FileDescriptorProto}
use Rattle.record_walk.specs.declared.counts.Counts.{Counts}
use Rattle.record_walk.specs.Changed.{Changes, changed, changed_files}
use Rattle.record_walk.specs.Counts.{counted}
use Rattle.record_walk.specs.Declarations.{declarations, file_walk}
use Rattle.record_walk.specs.Protos.{Proto, of_message, of_service, of_enum, of_extension, as_enum, as_extension, as_message, as_service}
use Rattle.record_walk.specs.Shown.{Shown, of_kind}
use Rattle.record_walk.proofs.Paths.{one-file}
use Rattle.field_rules.specs.EnumItems.{enum_item}
use Rattle.plain_data.specs.Each.{map_enumerated}
use Rattle.reference_pass.specs.SecondPass.{owner_faults}
use Rattle.reference_pass.specs.Items.{extension_item, file_item, message_item, service_item, made_of}
use Rattle.reference_pass.specs.Setting.{Setting}
use Rattle.pool_laws.proofs.Settings.{NamesStay}
use Rattle.pool_laws.proofs.Carries.{Carries}
use Rattle.pool_laws.proofs.Extensions.{extension-carried}
use Rattle.pool_laws.proofs.Files.{file-carried}
use Rattle.pool_laws.proofs.Messages.{message-carried}
use Rattle.reference_pass.proofs.Unbroken.{both-empty}
use Rattle.pool_laws.proofs.Services.{service-carried}
use Rattle.pool_laws.proofs.Relinks.{first-of-files}

-- of a list of declarations, the first by itself
kind-first : {X Y : Type 0} (item : Shown → X → Y) (d : Shown) (o : Option X) (rest : List (Shown × X))
    → map (λ e. item e.0 e.1) (cons_option (option_map (λ x. (d, x)) o) rest) ≡ cons_option (option_map (item d) o) (map (λ e. item e.0 e.1) rest)
kind-first item d None rest = refl
kind-first item d (Some x) rest = refl

-- it lies in the first files, and breaks nothing
abbrev Fine : Setting → ℕ → Shown → Type 0
Fine s many d = (d.file < many) × (owner_faults s [] d ≡ [])

pub all-fine : (s : Setting) (many : ℕ) (ds : List Shown) → AllByRecursion (λ d. d.file < many) ds → flat_map (owner_faults s []) ds ≡ [] → AllByRecursion (Fine s many) ds
all-fine s many [] lie none = tt
all-fine s many (d ∷ ds) lie none =
    let parts = both-empty (owner_faults s [] d) (flat_map (owner_faults s []) ds) none in
    ((lie.0, parts.0), all-fine s many ds lie.1 parts.1)

module _ {s t : Setting} {c : Changes} {many : ℕ} (carries : Carries s t c many) where
  -- the items of one kind, where that of each declaration is what it was
  abbrev pub SameItem : {X Y : Type 0} → (Proto → Option X) → (Shown → X → Y) → (Shown → X → Y) → Type 0
  SameItem pick item now =
      (d : Shown) → Fine s many d → option_map (now (changed c d)) (pick (changed c d).proto) ≡ option_map (item d) (pick d.proto)

  pub kind-again : {X Y : Type 0} (pick : Proto → Option X) (item now : Shown → X → Y) → SameItem pick item now → (ds : List Shown) → AllByRecursion (Fine s many) ds
      → made_of pick now (map (changed c) ds) ≡ made_of pick item ds
  kind-again pick item now same [] fine = refl
  kind-again pick item now same (d ∷ ds) fine =
      let e = changed c d in
      kind-first now e (pick e.proto) (of_kind pick (map (changed c) ds))
      ∙ (λ i. cons_option (same d fine.0 i) (kind-again pick item now same ds fine.1 i))
      ∙ sym (kind-first item d (pick d.proto) (of_kind pick ds))

  module _ (file : ℕ) (parent : Option ℕ) (index : ℕ) (path : List ℤ) (full_name : List ℕ) where
    abbrev at : Proto → Shown
    at p = record { file = file; parent = parent; index = index; path = path; full_name = full_name; proto = p }

    message-by : (p : Proto) → Fine s many (at p)
        → option_map (message_item t (changed c (at p))) (as_message (changed c (at p)).proto) ≡ option_map (message_item s (at p)) (as_message p)
    message-by (of_message m) fine = ap Some (message-carried carries (at (of_message m)) fine.0 m fine.1).item_is
    message-by _ fine = refl

    enum-by : (p : Proto) → Fine s many (at p)
        → option_map (enum_item (changed c (at p))) (as_enum (changed c (at p)).proto) ≡ option_map (enum_item (at p)) (as_enum p)
    enum-by (of_enum e) fine = refl
    enum-by _ fine = refl

    service-by : (p : Proto) → Fine s many (at p)
        → option_map (service_item t (changed c (at p))) (as_service (changed c (at p)).proto) ≡ option_map (service_item s (at p)) (as_service p)
    service-by (of_service v) fine = ap Some (service-carried carries.methods (at (of_service v)) fine.0 v fine.1).item_is
    service-by _ fine = refl

    extension-by : (p : Proto) → Fine s many (at p)
        → option_map (extension_item t (changed c (at p))) (as_extension (changed c (at p)).proto) ≡ option_map (extension_item s (at p)) (as_extension p)
    extension-by (of_extension x) fine = ap Some (extension-carried carries (at (of_extension x)) fine.0 x [] fine.1).item_is
    extension-by _ fine = refl

  pub same-message : SameItem as_message (message_item s) (message_item t)
  same-message d = message-by d.file d.parent d.index d.path d.full_name d.proto

  pub same-enum : SameItem as_enum enum_item enum_item
  same-enum d = enum-by d.file d.parent d.index d.path d.full_name d.proto

  pub same-service : SameItem as_service (service_item s) (service_item t)
  same-service d = service-by d.file d.parent d.index d.path d.full_name d.proto

  pub same-extension : SameItem as_extension (extension_item s) (extension_item t)
  same-extension d = extension-by d.file d.parent d.index d.path d.full_name d.proto

  -- and the items of files
  pub files-again : (base : Counts) (fs : List FileDescriptorProto) → base.files + length fs ≤ many → AllByRecursion (λ f. NamesStay s t f.dependency) fs
      → flat_map (owner_faults s []) (declarations base fs) ≡ [] → map_enumerated (file_item t) base.files (changed_files c base.files fs) ≡ map_enumerated (file_item s) base.files fs
  files-again base [] room stay none = refl
  files-again base (f ∷ fs) room stay none =
      let next = counted base (file_walk base f) in
      let parts = first-of-files s base f fs none in
      let one = one-file base f in
      let first = (file-carried carries base f (omega (arith, room)) stay.0 parts.0).item_is in
      let rest = subst (λ n. map_enumerated (file_item t) n (changed_files c n fs) ≡ map_enumerated (file_item s) n fs) one (files-again next fs (omega (arith, room, one)) stay.1 parts.1) in
      λ i. first i ∷ rest i
