-- The items of a pool have the names that mean them, and each new declaration has its item.
use Rattle.std.proofs.Common.{◌≡◌, ◌≤◌, ◌+◌, ℕ, ℤ, zero, suc, true, false, cond, IsOk, Option, None, Some, List, [], ◌∷◌, ◌++◌, length, length-append, map, refl, ap, subst, sym, ◌∙◌, append_assoc}
use Rattle.std.proofs.lemmas.List.{length-map}
use Rattle.std.proofs.lemmas.Slice.Eq.{bytes_eq-Decides}
use Rattle.std.specs.Cmp.Lexicographic.{slice_cmp}
use Rattle.std.specs.FinMap as finite
use Rattle.std.specs.FinMap.{get-empty}
use Rattle.std.specs.List.{AllByRecursion, cons_option, slice_get}
use Rattle.std.specs.Option.{IfSome, option_map, option_or}
use Rattle.std.specs.Ordering.{nat_cmp}
use Rattle.std.specs.Str.{bytes_eq}
use Rattle.proto_types.specs.Readers.{text_of}
use Rattle.proto_types.specs.declared.file.FileDescriptorProto.{FileDescriptorProto}
use Rattle.pool_types.specs.Contents.{Contents, no_contents}
use Rattle.pool_types.specs.declared.contents.definition.Definition.{Definition}
use Rattle.pool_types.specs.declared.contents.definition.DefinitionKind.{DefinitionKind}
use Rattle.pool_types.specs.declared.contents.definition.DefinitionKind.TheVariants as definition
use Rattle.pool_types.specs.declared.contents.enumeration.EnumDescriptorInner.{EnumDescriptorInner}
use Rattle.pool_types.specs.declared.contents.message.MessageDescriptorInner.{MessageDescriptorInner}
use Rattle.pool_types.specs.declared.contents.service.ServiceDescriptorInner.{ServiceDescriptorInner}
use Rattle.name_tables.specs.Entries.{first_of, names_with}
use Rattle.name_tables.proofs.Entries.{get-with}
use Rattle.plain_data.specs.Each.{map_enumerated}
use Rattle.record_walk.specs.declared.counts.Counts.{Counts}
use Rattle.record_walk.specs.Counts.{count_limit, counted, counts_in}
use Rattle.record_walk.specs.Declarations.{declarations}
use Rattle.record_walk.specs.Fits.{counts_with}
use Rattle.record_walk.specs.Indexes.{HasIndex}
use Rattle.record_walk.specs.Protos.{Proto, of_file, of_message, of_field, of_oneof, of_service, of_method, of_enum, of_value, of_extension, as_message, as_enum, as_service, as_extension}
use Rattle.record_walk.specs.Shown.{Shown, of_kind}
use Rattle.record_walk.proofs.Indexes.{indexes-count-on}
use Rattle.record_walk.proofs.Room.{room-fits}
use Rattle.field_rules.specs.EnumItems.{enum_item}
use Rattle.reference_pass.specs.Items.{extension_item, message_item, service_item, made_of, message_items, enum_items, service_items, extension_items}
use Rattle.reference_pass.specs.Setting.{Setting}
use Rattle.reference_pass.proofs.Steps.{made-append}
use Rattle.name_pass.specs.Names.{definition_kind, entries, entries_of, package_entry, packages}
use Rattle.pool_contents.specs.Extended.{extended_by, with_extended}
use Rattle.reference_pass.specs.Linking.{HasItem, IsNamedBy, ItemLists, ItemsAre, lists_in, message_name}
use Rattle.descriptor_pool.specs.Build.{declared_with, with_batch, setting_with, with_items, with_names}
use Rattle.descriptor_pool.specs.Pool.{Made, empty, linked_to, new_files}
use Rattle.descriptor_pool.proofs.Declared.{counted-many, counts-with}
use Rattle.descriptor_pool.proofs.Resolved.{all-append}

-- an item behind others
get-behind : {X : Type 0} (xs : List X) (y : X) (ys : List X) → slice_get (xs ++ y ∷ ys) (length xs) ≡ Some y
get-behind [] y ys = refl
get-behind (x ∷ xs) y ys = get-behind xs y ys

-- an item before others
pub get-before : {X Y : Type 0} (f : X → Y) (xs ys : List X) (n : ℕ) (y : Y) → option_map f (slice_get xs n) ≡ Some y → option_map f (slice_get (xs ++ ys) n) ≡ Some y
get-before f [] ys n y got = absurd (cc)
get-before f (x ∷ xs) ys zero y got = got
get-before f (x ∷ xs) ys (suc n) y got = get-before f xs ys n y got

-- an item that was made of another, and has what it had
pub get-each : {X Y : Type 0} (f : X → Y) (make : ℕ → X → X) → ((n : ℕ) (x : X) → f (make n x) ≡ f x) → (from : ℕ) (xs : List X) (n : ℕ)
    → option_map f (slice_get (map_enumerated make from xs) n) ≡ option_map f (slice_get xs n)
get-each f make same from [] n = refl
get-each f make same from (x ∷ xs) zero = ap Some (same from x)
get-each f make same from (x ∷ xs) (suc n) = get-each f make same (suc from) xs n

length-each : {X Y : Type 0} (make : ℕ → X → Y) (from : ℕ) (xs : List X) → length (map_enumerated make from xs) ≡ length xs
length-each make from [] = refl
length-each make from (x ∷ xs) = ap suc (length-each make (suc from) xs)

-- the item of a declaration, behind those of a pool
module _ {Y Z : Type 0} (pick : Proto → Option Y) (make : Shown → Y → Z) (old : List Z) (front : List Shown) (d : Shown) (rest : List Shown) (y : Y) (picked : pick d.proto ≡ Some y) where
  item-is : slice_get (old ++ made_of pick make (front ++ d ∷ rest)) (length old + length (of_kind pick front)) ≡ Some (make d y)
  item-is =
      let before = made_of pick make front in
      let after = made_of pick make rest in
      let whole : old ++ made_of pick make (front ++ d ∷ rest) ≡ (old ++ before) ++ make d y ∷ after =
      ap (λ zs. old ++ zs) (made-append pick make front (d ∷ rest)
      ∙ ap (λ (got : Option Y). before ++ map (λ e. make e.0 e.1) (cons_option (option_map (λ x. (d, x)) got) (of_kind pick rest))) picked)
      ∙ sym (append_assoc old before (make d y ∷ after)) in
      let many : length old + length (of_kind pick front) ≡ length (old ++ before) =
      ap (λ n. length old + n) (sym (length-map (of_kind pick front) (λ e. make e.0 e.1))) ∙ sym (length-append old before) in
      (λ j. slice_get (whole j) (many j)) ∙ get-behind (old ++ before) (make d y) after

module _ (p : Contents) (s : Setting) (new : List FileDescriptorProto) where
  abbrev base : Counts
  base = counts_in p

  abbrev ds : List Shown
  ds = declarations base new

  abbrev it : ItemLists
  it = lists_in (with_items p s ds)

  -- a declaration has its item, which has its name
  abbrev HasOwn : Shown → Type 0
  HasOwn d = HasItem s it d × IsNamedBy it d.full_name (definition_kind d)

  own-item : (front rest : List Shown) (file : ℕ) (parent : Option ℕ) (index : ℕ) (path : List ℤ) (full_name : List ℕ) (proto : Proto)
      → let d : Shown = record { file = file; parent = parent; index = index; path = path; full_name = full_name; proto = proto } in
      ds ≡ front ++ d ∷ rest → HasIndex (counted base front) d proto → HasOwn d
  own-item front rest file parent index path full_name (of_message m) parted has =
      let d : Shown = record { file = file; parent = parent; index = index; path = path; full_name = full_name; proto = of_message m } in
      let here : slice_get it.messages index ≡ Some (message_item s d m) =
      (λ j. slice_get (p.messages ++ message_items s (parted j)) ((has ∙ ap (λ (c : Counts). c.messages) (counted-many base front)) j))
      ∙ item-is as_message (message_item s) p.messages front d rest m refl in
      (ap (option_map (λ (item : MessageDescriptorInner). item.fields)) here, ap (option_map (λ (item : MessageDescriptorInner). item.id.full_name)) here)
  own-item front rest file parent index path full_name (of_enum e) parted has =
      let d : Shown = record { file = file; parent = parent; index = index; path = path; full_name = full_name; proto = of_enum e } in
      let here : slice_get it.enums index ≡ Some (enum_item d e) =
      (λ j. slice_get (p.enums ++ enum_items (parted j)) ((has ∙ ap (λ (c : Counts). c.enums) (counted-many base front)) j))
      ∙ item-is as_enum enum_item p.enums front d rest e refl in
      (tt, ap (option_map (λ (item : EnumDescriptorInner). item.id.full_name)) here)
  own-item front rest file parent index path full_name (of_service v) parted has =
      let d : Shown = record { file = file; parent = parent; index = index; path = path; full_name = full_name; proto = of_service v } in
      let here : slice_get it.services index ≡ Some (service_item s d v) =
      (λ j. slice_get (p.services ++ service_items s (parted j)) ((has ∙ ap (λ (c : Counts). c.services) (counted-many base front)) j))
      ∙ item-is as_service (service_item s) p.services front d rest v refl in
      (ap (option_map (λ (item : ServiceDescriptorInner). item.methods)) here, tt)
  own-item front rest file parent index path full_name (of_extension x) parted has =
      let d : Shown = record { file = file; parent = parent; index = index; path = path; full_name = full_name; proto = of_extension x } in
      let here : slice_get it.extensions index ≡ Some (extension_item s d x) =
      (λ j. slice_get (p.extensions ++ extension_items s (parted j)) ((has ∙ ap (λ (c : Counts). c.extensions) (counted-many base front)) j))
      ∙ item-is as_extension (extension_item s) p.extensions front d rest x refl in
      (here, tt)
  own-item front rest file parent index path full_name (of_file f) parted has = (tt, tt)
  own-item front rest file parent index path full_name (of_field f) parted has = (tt, tt)
  own-item front rest file parent index path full_name (of_oneof o) parted has = (tt, tt)
  own-item front rest file parent index path full_name (of_method m) parted has = (tt, tt)
  own-item front rest file parent index path full_name (of_value v) parted has = (tt, tt)

  own-from : (front rest : List Shown) → ds ≡ front ++ rest → AllByRecursion HasOwn rest
  own-from front [] parted = tt
  own-from front (d ∷ rest) parted = (
    own-item front rest d.file d.parent d.index d.path d.full_name d.proto parted (indexes-count-on base new front d rest parted),
    own-from (front ++ d ∷ []) rest (parted ∙ sym (append_assoc front (d ∷ []) rest)),
  )

  all-own : AllByRecursion HasOwn ds
  all-own = own-from [] ds refl

  -- what declarations enter means items with these names
  abbrev IsOwn : List ℕ → Definition → Type 0
  IsOwn name def = IsNamedBy it name def.kind

  packages-own : (file : ℕ) (texts : List (List ℕ)) → AllByRecursion (λ e. IsOwn e.0 e.1) (map (package_entry file) texts)
  packages-own file [] = tt
  packages-own file (text ∷ texts) = (tt, packages-own file texts)

  entries-own-of : (file : ℕ) (parent : Option ℕ) (index : ℕ) (path : List ℤ) (full_name : List ℕ) (proto : Proto)
      → let d : Shown = record { file = file; parent = parent; index = index; path = path; full_name = full_name; proto = proto } in
      IsNamedBy it full_name (definition_kind d) → AllByRecursion (λ e. IsOwn e.0 e.1) (entries_of d)
  entries-own-of file parent index path full_name (of_file f) own = packages-own file (packages (text_of f.«package»))
  entries-own-of file parent index path full_name (of_message m) own = (own, tt)
  entries-own-of file parent index path full_name (of_field f) own = (own, tt)
  entries-own-of file parent index path full_name (of_oneof o) own = (own, tt)
  entries-own-of file parent index path full_name (of_service v) own = (own, tt)
  entries-own-of file parent index path full_name (of_method m) own = (own, tt)
  entries-own-of file parent index path full_name (of_enum e) own = (own, tt)
  entries-own-of file parent index path full_name (of_value v) own = (own, tt)
  entries-own-of file parent index path full_name (of_extension x) own = (own, tt)

  entries-own : (es : List Shown) → AllByRecursion HasOwn es → AllByRecursion (λ e. IsOwn e.0 e.1) (entries es)
  entries-own [] own = tt
  entries-own (d ∷ es) own =
      all-append (λ e. IsOwn e.0 e.1) (entries_of d) (entries es)
      (entries-own-of d.file d.parent d.index d.path d.full_name d.proto own.0.1) (entries-own es own.1)

  -- an item keeps its name behind the pool
  kept-name : (name : List ℕ) (kind : DefinitionKind) → IsNamedBy (lists_in p) name kind → IsNamedBy it name kind
  kept-name name (definition.Message n) named = get-before (λ (m : MessageDescriptorInner). m.id.full_name) p.messages _ n name named
  kept-name name (definition.Enum n) named = get-before (λ (e : EnumDescriptorInner). e.id.full_name) p.enums _ n name named
  kept-name name definition.Package named = tt
  kept-name name (definition.Field n) named = tt
  kept-name name (definition.Oneof n) named = tt
  kept-name name (definition.Service n) named = tt
  kept-name name (definition.Method n) named = tt
  kept-name name (definition.EnumValue n) named = tt
  kept-name name (definition.Extension n) named = tt

-- what the first entry of a name says has what holds of each entry with its name
first-named : {X : Type 0} (P : List ℕ → X → Type 0) (es : List (List ℕ × X)) (name : List ℕ) → AllByRecursion (λ e. P e.0 e.1) es → IfSome (first_of es name) (P name)
first-named P [] name all = tt
first-named P (e ∷ es) name all =
    elim (bytes_eq name e.0) as (λ b. bytes_eq name e.0 ≡ b → IfSome (cond b (Some e.1) (first_of es name)) (P name))
    [ true ↦ λ same. subst (λ text. P text e.1) (sym ((bytes_eq-Decides name e.0).0 same)) all.0 | false ↦ λ other. first-named P es name all.1 ] refl

-- names mean items that have these names
abbrev MeanNamed : Contents → Type 0
MeanNamed p = (name : List ℕ) → IfSome (finite.get p.names name) (λ def. IsNamedBy (lists_in p) name def.kind)

module _ (p : Contents) (s : Setting) (new : List FileDescriptorProto) (mean : MeanNamed p) where
  either : (name : List ℕ) (known more : Option Definition) → IfSome known (λ def. IsNamedBy (lists_in p) name def.kind)
      → IfSome more (λ def. IsNamedBy (it p s new) name def.kind) → IfSome (option_or known more) (λ def. IsNamedBy (it p s new) name def.kind)
  either name None more first second = second
  either name (Some def) more first second = kept-name p s new name def.kind first

  mean-behind : (name : List ℕ) → IfSome (finite.get (names_with p.names (entries (ds p s new))) name) (λ def. IsNamedBy (it p s new) name def.kind)
  mean-behind name =
      let es = entries (ds p s new) in
      subst (λ got. IfSome got (λ def. IsNamedBy (it p s new) name def.kind)) (sym (get-with p.names es name))
      (either name (finite.get p.names name) (first_of es name) (mean name) (first-named (IsOwn p s new) es name (entries-own p s new (ds p s new) (all-own p s new))))

-- messages that list more extensions keep their names, and their fields
module _ (first : ℕ) (p : Contents) where
  grown-message : (n : ℕ) → message_name (lists_in (with_extended first p)) n ≡ message_name (lists_in p) n
  grown-message n = get-each (λ (m : MessageDescriptorInner). m.id.full_name) (extended_by first _) (λ n m. refl) 0 p.messages n

  grown-name : (name : List ℕ) (kind : DefinitionKind) → IsNamedBy (lists_in p) name kind → IsNamedBy (lists_in (with_extended first p)) name kind
  grown-name name (definition.Message n) named = grown-message n ∙ named
  grown-name name (definition.Enum n) named = named
  grown-name name definition.Package named = tt
  grown-name name (definition.Field n) named = tt
  grown-name name (definition.Oneof n) named = tt
  grown-name name (definition.Service n) named = tt
  grown-name name (definition.Method n) named = tt
  grown-name name (definition.EnumValue n) named = tt
  grown-name name (definition.Extension n) named = tt

  grown-names : (name : List ℕ) (got : Option Definition) → IfSome got (λ def. IsNamedBy (lists_in p) name def.kind) → IfSome got (λ def. IsNamedBy (lists_in (with_extended first p)) name def.kind)
  grown-names name None named = tt
  grown-names name (Some def) named = grown-name name def.kind named

  grown-item : (s : Setting) (file : ℕ) (parent : Option ℕ) (index : ℕ) (path : List ℤ) (full_name : List ℕ) (proto : Proto)
      → let d : Shown = record { file = file; parent = parent; index = index; path = path; full_name = full_name; proto = proto } in
      HasItem s (lists_in p) d → HasItem s (lists_in (with_extended first p)) d
  grown-item s file parent index path full_name (of_message m) has =
      get-each (λ (m : MessageDescriptorInner). m.fields) (extended_by first _) (λ n m. refl) 0 p.messages index ∙ has
  grown-item s file parent index path full_name (of_file f) has = tt
  grown-item s file parent index path full_name (of_field f) has = tt
  grown-item s file parent index path full_name (of_oneof o) has = tt
  grown-item s file parent index path full_name (of_service v) has = has
  grown-item s file parent index path full_name (of_method m) has = tt
  grown-item s file parent index path full_name (of_enum e) has = tt
  grown-item s file parent index path full_name (of_value v) has = tt
  grown-item s file parent index path full_name (of_extension x) has = has

  grown-items : (s : Setting) (ds : List Shown) → AllByRecursion (HasItem s (lists_in p)) ds → AllByRecursion (HasItem s (lists_in (with_extended first p))) ds
  grown-items s [] has = tt
  grown-items s (d ∷ ds) has = (grown-item s d.file d.parent d.index d.path d.full_name d.proto has.0, grown-items s ds has.1)

  -- so the items are those of the same declarations
  pub items-grown : (s : Setting) (ds : List Shown) → ItemsAre s (lists_in p) ds → ItemsAre s (lists_in (with_extended first p)) ds
  items-grown s ds are = record {
    names = record {
      named = λ name. grown-names name (finite.get s.names name) (are.names.named name);
      messages = subst (λ n. n ≤ count_limit) (sym (length-each (extended_by first _) 0 p.messages)) are.names.messages;
      services = are.names.services;
      extensions = are.names.extensions;
    };
    items = grown-items s ds are.items;
  }

nothing-means : MeanNamed no_contents
nothing-means name =
    subst (λ (got : Option Definition). IfSome got (λ def. IsNamedBy (lists_in no_contents) name def.kind)) (sym (get-empty (slice_cmp nat_cmp) name)) tt

-- the names of each pool mean items that have these names
pub made-mean : (p : Contents) → Made p → MeanNamed p
made-mean p (empty is) = subst MeanNamed (sym is) nothing-means
made-mean p (linked_to {q = q} batch made accepts fits is) = subst MeanNamed (sym is) (λ name.
    let new = new_files q batch in
    let s = setting_with q new in
    let ds = declared_with q new in
    grown-names (length q.extensions) (with_items (with_names q ds) s ds) name (finite.get (with_batch q new).names name) (mean-behind q s new (made-mean q made) name))

-- the items of a pool and of new files that fit are those of what is read against both
pub items-are : (p : Contents) → Made p → (new : List FileDescriptorProto) → IsOk (counts_with (counts_in p) new)
    → let s = setting_with p new in
    let ds = declared_with p new in
    ItemsAre s (lists_in (with_items (with_names p ds) s ds)) ds
items-are p made new fits =
    let s = setting_with p new in
    let ds = declared_with p new in
    let within = (room-fits (counts_in p) new fits).within in
    let counts = counts-with p s ds in
    record {
      names = record {
        named = mean-behind p s new (made-mean p made);
        messages = subst (λ n. n ≤ count_limit) (sym (ap (λ (c : Counts). c.messages) counts)) within.messages;
        services = subst (λ n. n ≤ count_limit) (sym (ap (λ (c : Counts). c.services) counts)) within.services;
        extensions = subst (λ n. n ≤ count_limit) (sym (ap (λ (c : Counts). c.extensions) counts)) within.extensions;
      };
      items = firsts ds (all-own p s new);
    }
  where
    firsts : (es : List Shown) → AllByRecursion (HasOwn p (setting_with p new) new) es
        → AllByRecursion (HasItem (setting_with p new) (lists_in (with_items (with_names p (declared_with p new)) (setting_with p new) (declared_with p new)))) es
    firsts [] own = tt
    firsts (d ∷ es) own = (own.0.0, firsts es own.1)

-- and so are those of the pool with the new files
pub linked-items-are : (p : Contents) → Made p → (new : List FileDescriptorProto) → IsOk (counts_with (counts_in p) new)
    → ItemsAre (setting_with p new) (lists_in (with_batch p new)) (declared_with p new)
linked-items-are p made new fits =
    let s = setting_with p new in
    let ds = declared_with p new in
    items-grown (length p.extensions) (with_items (with_names p ds) s ds) s ds (items-are p made new fits)
