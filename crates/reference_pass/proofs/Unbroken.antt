-- What declarations break is nothing where each breaks nothing behind no others, and no extension has the message and the number of an earlier one.
use Rattle.std.proofs.Common.{◌≡◌, ℕ, ℤ, Option, Some, None, List, [], ◌∷◌, ◌++◌, refl, ap, subst, sym, append-nil, append_assoc}
use Rattle.std.specs.List.{find, flat_map}
use Rattle.std.specs.Option.{option_map}
use Rattle.proto_types.specs.declared.records.field.FieldDescriptorProto.{FieldDescriptorProto}
use Rattle.proto_types.specs.declared.tag.field.TheConstants as field
use Rattle.proto_types.specs.Readers.{number_of, text_of}
use Rattle.plain_data.specs.Lists.{listed}
use Rattle.pool_faults.specs.declared.fault.DescriptorErrorKind.{DescriptorErrorKind}
use Rattle.pool_types.specs.declared.contents.extension.ExtensionDescriptorInner.{ExtensionDescriptorInner}
use Rattle.record_walk.specs.Protos.{Proto, of_file, of_message, of_field, of_oneof, of_service, of_method, of_enum, of_value, of_extension, as_extension}
use Rattle.record_walk.specs.Shown.{Shown}
use Rattle.field_rules.specs.Maps.{item_number}
use Rattle.name_resolution.specs.References.{reference_fault}
use Rattle.name_resolution.specs.Resolution.{Resolution, found, invalid_type, not_imported, shadowed, not_found}
use Rattle.pool_types.specs.Extension.{has_number}
use Rattle.reference_pass.specs.Defaults.{field_default_faults}
use Rattle.reference_pass.specs.Extension.{extendee_faults, number_faults, duplicate_extension_fault, duplicate_extension_faults}
use Rattle.reference_pass.specs.Types.{type_faults}
use Rattle.reference_pass.specs.Items.{extension_item, extension_items}
use Rattle.reference_pass.specs.References.{index_or_max, message_found, resolve_message}
use Rattle.reference_pass.specs.SecondPass.{extension_faults, owner_faults, owners_faults}
use Rattle.reference_pass.specs.Setting.{Setting}
use Rattle.reference_pass.proofs.Steps.{made-append}

-- no earlier extension has the message and the number of this one
abbrev pub IsNew : List ExtensionDescriptorInner → ExtensionDescriptorInner → Type 0
IsNew earlier x = find (has_number x.extendee x.number) earlier ≡ None

-- so it is with each of these, behind those before it
abbrev pub AllNew : List ExtensionDescriptorInner → List ExtensionDescriptorInner → Type 0
AllNew earlier [] = Unit {0}
AllNew earlier (x ∷ xs) = IsNew earlier x × AllNew (earlier ++ x ∷ []) xs

pub all-new-append : (earlier xs ys : List ExtensionDescriptorInner) → AllNew earlier xs → AllNew (earlier ++ xs) ys → AllNew earlier (xs ++ ys)
all-new-append earlier [] ys first second = subst (λ es. AllNew es ys) (append-nil earlier) second
all-new-append earlier (x ∷ xs) ys first second =
    (first.0, all-new-append (earlier ++ x ∷ []) xs ys first.1 (subst (λ es. AllNew es ys) (sym (append_assoc earlier (x ∷ []) xs)) second))

pub all-new-parts : (earlier xs ys : List ExtensionDescriptorInner) → AllNew earlier (xs ++ ys) → AllNew earlier xs × AllNew (earlier ++ xs) ys
all-new-parts earlier [] ys all = (tt, subst (λ es. AllNew es ys) (sym (append-nil earlier)) all)
all-new-parts earlier (x ∷ xs) ys all =
    let rest = all-new-parts (earlier ++ x ∷ []) xs ys all.1 in
    ((all.0, rest.0), subst (λ es. AllNew es ys) (append_assoc earlier (x ∷ []) xs) rest.1)

pub both-empty : {X : Type 0} (xs ys : List X) → xs ++ ys ≡ [] → (xs ≡ []) × (ys ≡ [])
both-empty [] ys none = (refl, none)
both-empty (x ∷ xs) ys none = absurd (cc)

none-listed : {X Y : Type 0} (f : X → Y) (o : Option X) → listed (option_map f o) ≡ [] → o ≡ None
none-listed f None none = refl
none-listed f (Some x) none = absurd (cc)

-- an extension breaks nothing: its extendee, its number by that and by earlier extensions, its type and its default value
pub record BreaksNothing (s : Setting) (d : Shown) (x : FieldDescriptorProto) (told : List DescriptorErrorKind) : Type 0 where
  pub extendee : extendee_faults s d x ≡ []
  pub number : number_faults s d x (resolve_message s d x.extendee) ≡ []
  pub taken : told ≡ []
  pub type_ : type_faults s d x ≡ []
  pub default : field_default_faults s d x ≡ []

abbrev pub Unbroken : Setting → Shown → FieldDescriptorProto → List ExtensionDescriptorInner → Type 0
Unbroken s d x earlier = BreaksNothing s d x (duplicate_extension_faults s earlier d x (resolve_message s d x.extendee))

pub extension-parts : (s : Setting) (d : Shown) (x : FieldDescriptorProto) (earlier : List ExtensionDescriptorInner) → extension_faults s earlier d x ≡ [] → Unbroken s d x earlier
extension-parts s d x earlier none =
    let extendee = extendee_faults s d x in
    let number = number_faults s d x (resolve_message s d x.extendee) in
    let told = duplicate_extension_faults s earlier d x (resolve_message s d x.extendee) in
    let type = type_faults s d x in
    let four = both-empty (((extendee ++ number) ++ told) ++ type) (field_default_faults s d x) none in
    let three = both-empty ((extendee ++ number) ++ told) type four.0 in
    let two = both-empty (extendee ++ number) told three.0 in
    let one = both-empty extendee number two.0 in
    record { extendee = one.0; number = one.1; taken = two.1; type_ = three.1; default = four.1 }

pub all-parts : (s : Setting) (d : Shown) (x : FieldDescriptorProto) (earlier : List ExtensionDescriptorInner) → Unbroken s d x earlier → extension_faults s earlier d x ≡ []
all-parts s d x earlier parts = λ i. parts.extendee i ++ parts.number i ++ parts.taken i ++ parts.type_ i ++ parts.default i

module _ (s : Setting) (d : Shown) (x : FieldDescriptorProto) where
  -- behind no extensions none has the number
  none-taken : (r : Resolution) → duplicate_extension_faults s [] d x r ≡ []
  none-taken (found name def) = refl
  none-taken (invalid_type name def filter) = refl
  none-taken (not_imported name other) = refl
  none-taken (shadowed name other) = refl
  none-taken not_found = refl

  -- one whose extendee was found has a new number if none is told
  new-number : (earlier : List ExtensionDescriptorInner) (r : Resolution) → listed (reference_fault s.files (text_of x.extendee) d.file (d.path ++ field.EXTENDEE ∷ []) r) ≡ []
      → duplicate_extension_faults s earlier d x r ≡ [] → find (has_number (index_or_max (message_found r)) (item_number (number_of x.number))) earlier ≡ None
  new-number earlier (found name def) fine none = none-listed (duplicate_extension_fault s d (number_of x.number) name) (find (has_number (index_or_max (message_found (found name def))) (item_number (number_of x.number))) earlier) none
  new-number earlier (invalid_type name def filter) fine none = absurd (cc)
  new-number earlier (not_imported name other) fine none = absurd (cc)
  new-number earlier (shadowed name other) fine none = absurd (cc)
  new-number earlier not_found fine none = absurd (cc)

  -- and none is told if it has
  pub untaken : (earlier : List ExtensionDescriptorInner) (r : Resolution) → find (has_number (index_or_max (message_found r)) (item_number (number_of x.number))) earlier ≡ None
      → duplicate_extension_faults s earlier d x r ≡ []
  untaken earlier (found name def) new = ap (λ first. listed (option_map (duplicate_extension_fault s d (number_of x.number) name) first)) new
  untaken earlier (invalid_type name def filter) new = refl
  untaken earlier (not_imported name other) new = refl
  untaken earlier (shadowed name other) new = refl
  untaken earlier not_found new = refl

  abbrev extendee : Resolution
  extendee = resolve_message s d x.extendee

  -- an extension that breaks nothing behind others breaks nothing behind none, and is new
  pub extension-apart : (earlier : List ExtensionDescriptorInner) → extension_faults s earlier d x ≡ [] → (extension_faults s [] d x ≡ []) × IsNew earlier (extension_item s d x)
  extension-apart earlier none =
      let parts = extension-parts s d x earlier none in
      (all-parts s d x [] (record { extendee = parts.extendee; number = parts.number; taken = none-taken extendee; type_ = parts.type_; default = parts.default }), new-number earlier extendee parts.extendee parts.taken)

  -- and the other way round
  pub extension-behind : (earlier : List ExtensionDescriptorInner) → extension_faults s [] d x ≡ [] → IsNew earlier (extension_item s d x) → extension_faults s earlier d x ≡ []
  extension-behind earlier none new =
      let parts = extension-parts s d x [] none in
      all-parts s d x earlier (record { extendee = parts.extendee; number = parts.number; taken = untaken earlier extendee new; type_ = parts.type_; default = parts.default })

module _ (s : Setting) where
  -- so it is with each declaration
  owner-apart : (earlier : List ExtensionDescriptorInner) (file : ℕ) (parent : Option ℕ) (index : ℕ) (path : List ℤ) (full_name : List ℕ) (p : Proto)
      → let d : Shown = record { file = file; parent = parent; index = index; path = path; full_name = full_name; proto = p } in
      owner_faults s earlier d ≡ [] → (owner_faults s [] d ≡ []) × AllNew earlier (extension_items s (d ∷ []))
  owner-apart earlier file parent index path full_name (of_file f) none = (none, tt)
  owner-apart earlier file parent index path full_name (of_message m) none = (none, tt)
  owner-apart earlier file parent index path full_name (of_field f) none = (none, tt)
  owner-apart earlier file parent index path full_name (of_oneof o) none = (none, tt)
  owner-apart earlier file parent index path full_name (of_service v) none = (none, tt)
  owner-apart earlier file parent index path full_name (of_method m) none = (none, tt)
  owner-apart earlier file parent index path full_name (of_enum e) none = (none, tt)
  owner-apart earlier file parent index path full_name (of_value v) none = (none, tt)
  owner-apart earlier file parent index path full_name (of_extension x) none =
      let d : Shown = record { file = file; parent = parent; index = index; path = path; full_name = full_name; proto = of_extension x } in
      let parts = extension-apart s d x earlier none in
      (parts.0, (parts.1, tt))

  owner-behind : (earlier : List ExtensionDescriptorInner) (file : ℕ) (parent : Option ℕ) (index : ℕ) (path : List ℤ) (full_name : List ℕ) (p : Proto)
      → let d : Shown = record { file = file; parent = parent; index = index; path = path; full_name = full_name; proto = p } in
      owner_faults s [] d ≡ [] → AllNew earlier (extension_items s (d ∷ [])) → owner_faults s earlier d ≡ []
  owner-behind earlier file parent index path full_name (of_file f) none new = none
  owner-behind earlier file parent index path full_name (of_message m) none new = none
  owner-behind earlier file parent index path full_name (of_field f) none new = none
  owner-behind earlier file parent index path full_name (of_oneof o) none new = none
  owner-behind earlier file parent index path full_name (of_service v) none new = none
  owner-behind earlier file parent index path full_name (of_method m) none new = none
  owner-behind earlier file parent index path full_name (of_enum e) none new = none
  owner-behind earlier file parent index path full_name (of_value v) none new = none
  owner-behind earlier file parent index path full_name (of_extension x) none new =
      let d : Shown = record { file = file; parent = parent; index = index; path = path; full_name = full_name; proto = of_extension x } in
      extension-behind s d x earlier none new.0

  -- and with all
  pub owners-apart : (earlier : List ExtensionDescriptorInner) (ds : List Shown) → owners_faults s earlier ds ≡ []
      → (flat_map (owner_faults s []) ds ≡ []) × AllNew earlier (extension_items s ds)
  owners-apart earlier [] none = (refl, tt)
  owners-apart earlier (d ∷ ds) none =
      let own = extension_items s (d ∷ []) in
      let parts = both-empty (owner_faults s earlier d) (owners_faults s (earlier ++ own) ds) none in
      let first = owner-apart earlier d.file d.parent d.index d.path d.full_name d.proto parts.0 in
      let rest = owners-apart (earlier ++ own) ds parts.1 in (
        (λ i. first.0 i ++ rest.0 i),
        subst (AllNew earlier) (sym (made-append as_extension (extension_item s) (d ∷ []) ds)) (all-new-append earlier own (extension_items s ds) first.1 rest.1),
      )

  pub owners-behind : (earlier : List ExtensionDescriptorInner) (ds : List Shown) → flat_map (owner_faults s []) ds ≡ [] → AllNew earlier (extension_items s ds)
      → owners_faults s earlier ds ≡ []
  owners-behind earlier [] none new = refl
  owners-behind earlier (d ∷ ds) none new =
      let own = extension_items s (d ∷ []) in
      let parts = both-empty (owner_faults s [] d) (flat_map (owner_faults s []) ds) none in
      let both = all-new-parts earlier own (extension_items s ds) (subst (AllNew earlier) (made-append as_extension (extension_item s) (d ∷ []) ds) new) in
      λ i. owner-behind earlier d.file d.parent d.index d.path d.full_name d.proto parts.0 both.0 i ++ owners-behind (earlier ++ own) ds parts.1 both.1 i
