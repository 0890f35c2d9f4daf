-- The maps of a message that breaks nothing lead to the fields that have a number, a name or a given JSON name, and its oneofs list the fields in them.
use Rattle.std.proofs.Common.{◌≡◌, ◌<◌, ◌+◌, ◌-◌, ◌==◌, ℕ, ℤ, zero, suc, pos, negsuc, Bool, true, false, not, true≢false, if◌then◌else◌, is_some, unwrap_or, Option, Some, None, List, [], ◌∷◌, ◌++◌, length, length-append, drop, take, refl, ap, subst, sym, ◌∙◌, append_assoc, arith}
use Rattle.std.proofs.lemmas.Bool.{false_from_ne_true}
use Rattle.std.proofs.lemmas.Bool.Decides.{Decides-int_eq, nat_tests}
use Rattle.std.proofs.lemmas.Cmp.{nat_cmp_total, nat_list_cmp_total}
use Rattle.std.proofs.lemmas.Slice.Eq.{bytes_eq-Decides}
use Rattle.std.specs.Bool.{Decides}
use Rattle.std.specs.Cmp.Lexicographic.{slice_cmp, texts_ties}
use Rattle.std.specs.FinMap as finite
use Rattle.std.specs.List.{AllByRecursion, cons_option, enumerate_from, filter_map, flat_map}
use Rattle.std.specs.Option.{IfSome, option_and_then, option_map, option_map_or}
use Rattle.std.specs.Ordering.{eq_by_cmp, int_eq, nat_cmp}
use Rattle.std.specs.Prelude.{slice_get}
use Rattle.std.specs.Str.{bytes_eq}
use Rattle.proto_types.specs.Names.{join}
use Rattle.proto_types.specs.Paths.{entry_path}
use Rattle.proto_types.specs.Readers.{number_of, text_of}
use Rattle.proto_types.specs.declared.tag.message.TheConstants as message
use Rattle.proto_types.specs.declared.message.DescriptorProto.{DescriptorProto, out-DescriptorProto}
use Rattle.proto_types.specs.declared.message.OneofDescriptorProto.{OneofDescriptorProto}
use Rattle.proto_types.specs.declared.records.field.FieldDescriptorProto.{FieldDescriptorProto}
use Rattle.plain_data.specs.Each.{map_enumerated}
use Rattle.plain_data.specs.Lists.{at, listed, only_if}
use Rattle.pool_faults.specs.declared.fault.DescriptorErrorKind.{DescriptorErrorKind}
use Rattle.pool_faults.specs.declared.fault.DescriptorErrorKind.TheVariants.{InvalidFieldNumber}
use Rattle.pool_types.specs.Contents.{ByText}
use Rattle.pool_types.specs.LookUps.{declared_name}
use Rattle.pool_types.specs.declared.contents.definition.Definition.{Definition}
use Rattle.pool_types.specs.declared.contents.field.FieldDescriptorInner.{FieldDescriptorInner}
use Rattle.pool_types.specs.declared.contents.oneof.OneofDescriptorInner.{OneofDescriptorInner}
use Rattle.record_walk.specs.FullNames.{EndsWith}
use Rattle.record_walk.specs.Place.{field_at, part_inside}
use Rattle.record_walk.specs.Protos.{of_field, of_oneof}
use Rattle.record_walk.specs.Shown.{Shown, inside, parts}
use Rattle.record_walk.proofs.FullNames.{join-ends}
use Rattle.field_rules.specs.Duplicates.{json_name_duplicate, latest, number_duplicate, same_json_name, same_number}
use Rattle.field_rules.specs.FieldNumber.{is_valid_number}
use Rattle.field_rules.specs.Maps.{item_number}
use Rattle.field_rules.specs.Numbers.{extension_range_faults, field_number_faults, invalid_faults, number_label, out_of_range_faults, reserved_faults}
use Rattle.field_rules.specs.Oneofs.{members, oneof_faults}
use Rattle.reference_pass.specs.Defaults.{field_default_faults}
use Rattle.reference_pass.specs.Items.{field_item, field_items, message_item, oneof_item}
use Rattle.reference_pass.specs.SecondPass.{Owner, field_faults, field_record_faults, message_faults}
use Rattle.reference_pass.specs.Setting.{Setting}
use Rattle.reference_pass.specs.Types.{type_faults}
use Rattle.reference_pass.proofs.Unbroken.{both-empty}
use Rattle.descriptor_pool.specs.Maps.{MapsLead, fields_in}
use Rattle.descriptor_pool.proofs.Extendees.{drop-front, past-end}
use Rattle.descriptor_pool.proofs.Keyed.{KeysDiffer, differ-behind, leads-made, none-last, none-listed, taken-at, with-key}
use Rattle.descriptor_pool.proofs.Meant.{IsMeant}
use Rattle.descriptor_pool.proofs.Owned.{part-at}

-- what ends a text
pub ending : (text name : List ℕ) → EndsWith text name → drop (length text - length name) text ≡ name
ending text name ends =
    let long : length text - length name ≡ length ends.0 = omega (arith, ap length ends.1, length-append ends.0 name) in
    (λ i. drop (long i) (ends.1 i)) ∙ drop-front ends.0 name

-- numbers and texts that are tied are one
pub number-ties : (p q : ℕ) → Decides (eq_by_cmp nat_cmp p q) (p ≡ q)
number-ties p q = grind (arith, nat_tests)

pub text-ties : (p q : List ℕ) → Decides (eq_by_cmp (slice_cmp nat_cmp) p q) (p ≡ q)
text-ties p q = subst (λ b. Decides b (p ≡ q)) (texts_ties p q) (bytes_eq-Decides p q)

-- two places in one list are one where their names have one path
pub one-place : (path : List ℤ) (tag : ℤ) (i j : ℕ) (name : ℤ) → entry_path path tag i ++ name ∷ [] ≡ entry_path path tag j ++ name ∷ [] → i ≡ j
one-place path tag i j name same =
    let part : (n : ℕ) → drop (length path) (entry_path path tag n ++ name ∷ []) ≡ tag ∷ pos n ∷ name ∷ [] =
    λ n. ap (drop (length path)) (append_assoc path (tag ∷ pos n ∷ []) (name ∷ [])) ∙ drop-front path (tag ∷ pos n ∷ name ∷ []) in
    let both : tag ∷ pos i ∷ name ∷ [] ≡ tag ∷ pos j ∷ name ∷ [] = sym (part i) ∙ ap (drop (length path)) same ∙ part j in
    cc both

-- what each entry of a list breaks
pub each-empty : {X Y : Type 0} (make : ℕ → X → List Y) (n : ℕ) (xs : List X) → flat_map (λ ys. ys) (map_enumerated make n xs) ≡ []
    → (at : ℕ) (x : X) → slice_get xs at ≡ Some x → (i : ℕ) × (i ≡ n + at) × (make i x ≡ [])
each-empty make n [] none at x there = absurd (cc)
each-empty make n (y ∷ ys) none zero x there =
    let same : y ≡ x = cc in
    let both = both-empty (make n y) (flat_map (λ zs. zs) (map_enumerated make (suc n) ys)) none in
    (n, omega arith, ap (make n) (sym same) ∙ both.0)
each-empty make n (y ∷ ys) none (suc at) x there =
    let both = both-empty (make n y) (flat_map (λ zs. zs) (map_enumerated make (suc n) ys)) none in
    let rest = each-empty make (suc n) ys both.1 at x there in
    (rest.0, omega (arith, rest.1), rest.2)

-- a number that a field may have is positive
is-positive : (n : ℤ) (x : DescriptorErrorKind) → only_if (not (is_valid_number n)) x ≡ [] → n ≡ pos (item_number n)
is-positive (pos n) x none = refl
is-positive (negsuc n) x none = absurd (cc)

-- two values that are there
pub some-same : {X : Type 0} {x y : X} → Some x ≡ Some y → x ≡ y
some-same {x = x} same = ap (λ got. unwrap_or got x) same

-- the element at a position of a list that is made of another
pub made-at : {X Y : Type 0} (P : Y → Type 0) (make : ℕ → X → Y) (first : ℕ) (xs : List X) (at : ℕ)
    → (at < length xs → (i : ℕ) → i ≡ first + at → (x : X) → P (make i x)) → IfSome (slice_get (map_enumerated make first xs) at) P
made-at P make first [] at has = tt
made-at P make first (x ∷ xs) zero has = has (omega arith) first (omega arith) x
made-at P make first (x ∷ xs) (suc at) has = made-at P make (suc first) xs at (λ below i is y. has (omega (arith, below)) i (omega (arith, is)) y)

-- the positions of those that pass, and of what is made of them
picked : {X Y : Type 0} (test : X → Bool) (own : Y → Bool) (make : ℕ → X → Y) → ((i : ℕ) (x : X) → own (make i x) ≡ test x) → (n first : ℕ) (xs : List X)
    → filter_map (λ e. if own e.1 then Some e.0 else None) (enumerate_from n (map_enumerated make first xs)) ≡ filter_map (λ e. if test e.1 then Some e.0 else None) (enumerate_from n xs)
picked test own make same n first [] = refl
picked test own make same n first (x ∷ xs) =
    λ j. cons_option (if same first x j then Some n else None) (picked test own make same (n + 1) (suc first) xs j)

other-number : (x y : ℤ) → (x ≡ y → ⊥) → int_eq x y ≡ false
other-number x y other = false_from_ne_true (int_eq x y) (λ told. other ((Decides-int_eq x y).0 told))

-- whether an index names the oneof with a position, read by number and by position
index-test : (oneofs : List OneofDescriptorProto) (n : ℕ) → n < length oneofs → (index : Option ℤ)
    → option_map_or (λ o. o == n) (option_and_then (λ z. option_map (λ _. item_number z) (at oneofs z)) index) false ≡ option_map_or (int_eq (pos n)) index false
index-test oneofs n below None = refl
index-test oneofs n below (Some (negsuc k)) = sym (other-number (pos n) (negsuc k) (λ same. absurd (cc same)))
index-test oneofs n below (Some (pos k)) = by (slice_get oneofs k) refl
  where
    named : (b : Bool) → (k == n) ≡ b → (k == n) ≡ int_eq (pos n) (pos k)
    named true same = let one : n ≡ k = grind (arith, nat_tests, same) in same ∙ sym ((Decides-int_eq (pos n) (pos k)).1 (ap pos one))
    named false other = other ∙ sym (other-number (pos n) (pos k) (λ same. let one : n ≡ k = cc same in absurd (grind (arith, nat_tests, other, one))))

    by : (got : Option OneofDescriptorProto) → slice_get oneofs k ≡ got → option_map_or (λ o. o == n) (option_map (λ _. k) got) false ≡ int_eq (pos n) (pos k)
    by None past =
        let end = past-end oneofs k past in
        sym (other-number (pos n) (pos k) (λ same. let one : n ≡ k = cc same in absurd (omega (arith, below, end, one))))
    by (Some o) there = named (k == n) refl

module _ (s : Setting) (d : Shown) (m : DescriptorProto) where
  abbrev fields : List FieldDescriptorProto
  fields = (out-DescriptorProto m).field

  abbrev oneofs : List OneofDescriptorProto
  oneofs = (out-DescriptorProto m).oneof_decl

  abbrev owner : Owner
  owner = (d, m)

  -- what a field that breaks nothing shows
  record Fine (at : ℕ) (f : FieldDescriptorProto) : Type 0 where
    valid : number_of f.number ≡ pos (item_number (number_of f.number))
    number : number_duplicate s.files d.file d.path (take at fields) at f ≡ []
    json_name : json_name_duplicate s.files d.file d.path (take at fields) at f ≡ []

  valid-by : (e : Shown) (f : FieldDescriptorProto) → field_number_faults s.files d m e f ≡ [] → number_of f.number ≡ pos (item_number (number_of f.number))
  valid-by e f none =
      let n = number_of f.number in
      let invalid = invalid_faults s.files e.file e.path n in
      let held = reserved_faults s.files e.file e.path n (inside d) (out-DescriptorProto m).reserved_range in
      let ranges = (out-DescriptorProto m).extension_range in
      let rest = if is_some f.extendee then out_of_range_faults s.files e.file e.path n (inside d) ranges else extension_range_faults s.files e.file e.path n (inside d) ranges in
      let first = both-empty (invalid ++ held) rest none in
      let own = both-empty invalid held first.0 in
      is-positive n (InvalidFieldNumber n (number_label s.files e.file e.path n)) own.0

  fine-by : (at : ℕ) (f : FieldDescriptorProto) → field_faults s owner (field_at (inside d) at f) f ≡ [] → Fine at f
  fine-by at f none =
      let e = field_at (inside d) at f in
      let number = number_duplicate s.files d.file d.path (take at fields) at f in
      let json_name = json_name_duplicate s.files d.file d.path (take at fields) at f in
      let whole = both-empty (field_record_faults s owner e f) (number ++ json_name) none in
      let again = both-empty number json_name whole.1 in
      let numbers = field_number_faults s.files d m e f in
      let four = both-empty ((numbers ++ type_faults s e f) ++ field_default_faults s e f) (oneof_faults oneofs f) whole.0 in
      let three = both-empty (numbers ++ type_faults s e f) (field_default_faults s e f) four.0 in
      let two = both-empty numbers (type_faults s e f) three.0 in
      record { valid = valid-by e f two.0; number = again.0; json_name = again.1 }

  module _ (none : message_faults s d m ≡ []) where
    fine-at : (at : ℕ) (f : FieldDescriptorProto) → slice_get fields at ≡ Some f → Fine at f
    fine-at at f there =
        let one = each-empty (λ i g. field_faults s owner (field_at (inside d) i g) g) 0 fields none at f there in
        let same : one.0 ≡ at = omega (arith, one.1) in
        subst (λ n. Fine n f) same (fine-by one.0 f one.2)

    -- no two fields have one number
    numbers-differ : KeysDiffer (λ (f : FieldDescriptorProto). Some (item_number (number_of f.number))) fields
    numbers-differ = differ-behind (λ (f : FieldDescriptorProto). Some (item_number (number_of f.number))) fields (λ i j x y k before at-i at-j own-x own-y.
        let first = fine-at i x at-i in
        let second = fine-at j y at-j in
        let numbers : item_number (number_of x.number) ≡ item_number (number_of y.number) = some-same (own-x ∙ sym own-y) in
        let same = first.valid ∙ ap pos numbers ∙ sym second.valid in
        let test : FieldDescriptorProto → Bool = λ g. int_eq (number_of g.number) (number_of y.number) in
        let missing = none-listed (λ (e : ℕ × FieldDescriptorProto). same_number s.files d.file d.path (number_of y.number) e.0 j) (latest test (take j fields)) second.number in
        let fails = none-last test 0 (take j fields) missing i x (taken-at fields i j before ∙ at-i) in
        let passes = (Decides-int_eq (number_of x.number) (number_of y.number)).1 same in
        absurd (true≢false (sym passes ∙ fails)))

    -- nor one JSON name
    json-names-differ : KeysDiffer (λ (f : FieldDescriptorProto). f.json_name) fields
    json-names-differ = differ-behind (λ (f : FieldDescriptorProto). f.json_name) fields (λ i j x y k before at-i at-j own-x own-y.
        let second = fine-at j y at-j in
        let test : List ℕ → FieldDescriptorProto → Bool = λ name g. option_map_or (bytes_eq name) g.json_name false in
        let told : List ℕ → List DescriptorErrorKind = λ name. listed (option_map (λ (e : ℕ × FieldDescriptorProto). same_json_name s.files d.file d.path name e.0 j) (latest (test name) (take j fields))) in
        let none_told : told k ≡ [] = sym (ap (λ given. option_map_or told given []) own-y) ∙ second.json_name in
        let missing = none-listed (λ (e : ℕ × FieldDescriptorProto). same_json_name s.files d.file d.path k e.0 j) (latest (test k) (take j fields)) none_told in
        let fails = none-last (test k) 0 (take j fields) missing i x (taken-at fields i j before ∙ at-i) in
        let passes : test k x ≡ true = ap (λ given. option_map_or (bytes_eq k) given false) own-x ∙ (bytes_eq-Decides k k).1 refl in
        absurd (true≢false (sym passes ∙ fails)))

  -- nor one name, where their full names mean them
  module _ (names : ByText Definition) (meant : AllByRecursion (IsMeant names) (parts of_field (inside d) message.FIELD fields)) where
    names-differ : KeysDiffer (λ (f : FieldDescriptorProto). Some (text_of f.name)) fields
    names-differ i j k at-i at-j =
        let x = with-key (λ (f : FieldDescriptorProto). Some (text_of f.name)) (slice_get fields i) k at-i in
        let y = with-key (λ (f : FieldDescriptorProto). Some (text_of f.name)) (slice_get fields j) k at-j in
        let texts : text_of x.0.name ≡ text_of y.0.name = some-same (x.2 ∙ sym y.2) in
        let first = part-at (IsMeant names) of_field (inside d) message.FIELD 0 fields meant i x.0 x.1 in
        let second = part-at (IsMeant names) of_field (inside d) message.FIELD 0 fields meant j y.0 y.1 in
        let defs = sym first.2 ∙ ap (λ text. finite.get names (join d.full_name text)) texts ∙ second.2 in
        let paths = ap (option_map (λ (def : Definition). def.path)) defs in
        let same : entry_path d.path message.FIELD first.0 ++ message.NAME ∷ [] ≡ entry_path d.path message.FIELD second.0 ++ message.NAME ∷ [] = some-same paths in
        omega (arith, first.1, second.1, one-place d.path message.FIELD first.0 second.0 message.NAME same)

    -- the item of a message leads to its fields
    pub item-leads : message_faults s d m ≡ [] → MapsLead (message_item s d m)
    item-leads none =
        let make = λ (i : ℕ) (f : FieldDescriptorProto). field_item s oneofs (field_at (inside d) i f) f in
        record {
          numbers = leads-made nat_cmp_total number-ties (λ (f : FieldDescriptorProto). Some (item_number (number_of f.number))) (λ (f : FieldDescriptorInner). Some f.number) make
              (λ _ _. refl) fields (numbers-differ none);
          names = leads-made nat_list_cmp_total text-ties (λ (f : FieldDescriptorProto). Some (text_of f.name)) (λ (f : FieldDescriptorInner). Some (declared_name f.id)) make
              (λ i f. ap Some (ending (join d.full_name (text_of f.name)) (text_of f.name) (join-ends d.full_name (text_of f.name)))) fields names-differ;
          json_names = leads-made nat_list_cmp_total text-ties (λ (f : FieldDescriptorProto). f.json_name) (λ (f : FieldDescriptorInner). f.json_name) make
              (λ _ _. refl) fields (json-names-differ none);
          oneofs = λ n. made-at (λ (o : OneofDescriptorInner). o.fields ≡ fields_in (field_items s oneofs (inside d) fields) n)
              (λ i o. oneof_item fields (part_inside (inside d) message.ONEOF_DECL i (of_oneof o))) 0 oneofs n (λ below i is o.
              let same : i ≡ n = omega (arith, is) in
              ap (members fields) same
              ∙ sym (picked (λ (f : FieldDescriptorProto). option_map_or (int_eq (pos n)) f.oneof_index false) (λ (f : FieldDescriptorInner). option_map_or (λ o. o == n) f.oneof false) make
              (λ _ f. index-test oneofs n below f.oneof_index) 0 0 fields));
        }
