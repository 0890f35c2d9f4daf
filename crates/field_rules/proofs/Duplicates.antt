-- What the maps of fields tell of the next field, and what they are behind it.
use Rattle.std.proofs.Common.{◌≡◌, ℕ, suc, ◌+◌, ◌<◌, ◌≤◌, ◌^◌, ℤ, pos, negsuc, Bool, true, false, cond, List, [], ◌∷◌, ◌++◌, length, take, get_or, reverse, find, None, Some, Option, IfSome, MatchOption, refl, ap, sym, ◌∙◌, subst, arith, FitsSigned}
use Rattle.std.specs.Bool.{Decides}
use Rattle.std.specs.Cmp.{IsTotalOrder}
use Rattle.std.specs.FinMap as map
use Rattle.std.specs.Int.{w32, cast_unsigned, cast_signed}
use Rattle.std.specs.List.{All, enumerate_from}
use Rattle.std.specs.Option.{option_map, option_map_or, option_or}
use Rattle.std.specs.Ordering.{eq_by_cmp, nat_cmp, int_eq}
use Rattle.std.specs.Str.{bytes_eq}
use Rattle.std.specs.declared.cmp.Ordering.{Ordering}
use Rattle.std.proofs.lemmas.Bool.Decides.{nat_tests, Decides-int_eq, same_from_decides}
use Rattle.std.proofs.lemmas.Cmp.{nat_cmp_total, nat_list_cmp_total}
use Rattle.std.proofs.lemmas.Int.{to_z-of_z}
use Rattle.std.proofs.lemmas.List.{reverse-append, length-take-le, take_more}
use Rattle.std.proofs.lemmas.List.Elements.{All-push}
use Rattle.std.proofs.lemmas.List.Folds.{find-append}
use Rattle.std.proofs.lemmas.Map.Text.{is_eq-slice_cmp}
use Rattle.proto_types.specs.declared.records.field.FieldDescriptorProto.{FieldDescriptorProto}
use Rattle.plain_data.specs.Lists.{listed}
use Rattle.proto_types.specs.Readers.{number_of}
use Rattle.proto_types.specs.declared.file.FileDescriptorProto.{FileDescriptorProto}
use Rattle.record_walk.specs.Counts.{fits_list}
use Rattle.plain_data.specs.Maps.{ByNumber, ByText, inserted}
use Rattle.field_rules.specs.declared.maps.FieldMaps.{FieldMaps}
use Rattle.field_rules.specs.Duplicates.{latest, number_duplicate, json_name_duplicate, same_number, same_json_name}
use Rattle.field_rules.specs.Maps.{keyed, by_number, by_json_name, item_number}
use Rattle.field_rules.specs.MapsOf.{AreMapsOf, JsonNamesDiffer}
use Rattle.field_rules.proofs.Latest.{get-keyed, keyed-next, same-latest}
use Rattle.field_rules.proofs.Differing.{key-missing}

-- numbers of 32 bits that an item holds alike are one
item_number-bits : (x : ℤ) → item_number x ≡ cast_unsigned w32 x
item_number-bits (pos n) = refl
item_number-bits (negsuc n) = refl

one-number : (x y : ℤ) → FitsSigned w32 x → FitsSigned w32 y → item_number x ≡ item_number y → x ≡ y
one-number x y fits also same =
    sym (to_z-of_z w32 x fits) ∙ ap (cast_signed w32) (sym (item_number-bits x) ∙ same ∙ item_number-bits y) ∙ to_z-of_z w32 y also

same-key : (m n : ℕ) → Decides (eq_by_cmp nat_cmp m n) (m ≡ n)
same-key m n = grind (arith, nat_tests)

number-test : (x y : ℤ) → FitsSigned w32 x → FitsSigned w32 y → eq_by_cmp nat_cmp (item_number y) (item_number x) ≡ int_eq x y
number-test x y fits also =
    let keys = same-key (item_number y) (item_number x) in
    let numbers = Decides-int_eq x y in
    same_from_decides (eq_by_cmp nat_cmp (item_number y) (item_number x)) (int_eq x y)
    (λ told. one-number x y fits also (sym (keys.0 told)), λ same. keys.1 (ap item_number (sym same))) numbers

mapped : {X Y : Type 0} (f : ℕ → Y) (found : Option (ℕ × X)) → option_map f (option_map (λ e. e.0) found) ≡ option_map (λ e. f e.0) found
mapped f None = refl
mapped f (Some e) = refl

-- the map of numbers has the latest field with a number
latest-number : (number : ℤ) → FitsSigned w32 number → (fields : List FieldDescriptorProto) → All (λ f. FitsSigned w32 (number_of f.number)) fields
    → map.get (by_number fields) (item_number number) ≡ option_map (λ e. e.0) (latest (λ g. int_eq (number_of g.number) number) fields)
latest-number number fits fields fit =
    get-keyed nat_cmp_total (λ f. Some (item_number (number_of f.number))) (item_number number) fields
    ∙ ap (option_map (λ e. e.0)) (same-latest (λ (g : FieldDescriptorProto). eq_by_cmp nat_cmp (item_number number) (item_number (number_of g.number))) (λ (g : FieldDescriptorProto). int_eq (number_of g.number) number) 0 fields
    (λ k d below. number-test (number_of (get_or fields k d).number) number (fit k d below) fits))

-- the map of JSON names has the latest field with a name
latest-json_name : (name : List ℕ) (fields : List FieldDescriptorProto)
    → map.get (by_json_name fields) name ≡ option_map (λ e. e.0) (latest (λ g. option_map_or (bytes_eq name) g.json_name false) fields)
latest-json_name name fields =
    get-keyed nat_list_cmp_total (λ f. f.json_name) name fields
    ∙ (λ i. option_map (λ e. e.0) (latest (λ g. option_map_or (λ own. is_eq-slice_cmp name own i) g.json_name false) fields))

module _ (files : List FileDescriptorProto) (file : ℕ) (path : List ℤ) (position : ℕ) (f : FieldDescriptorProto) (earlier : List FieldDescriptorProto) where
  -- what is told of a number by a map is what earlier fields tell
  pub number-told : (numbers : ByNumber ℕ) → numbers ≡ by_number earlier → All (λ g. FitsSigned w32 (number_of g.number)) earlier
      → (number : ℤ) → number ≡ number_of f.number → FitsSigned w32 number
      → listed (option_map (λ first. same_number files file path number first position) (map.get numbers (item_number number))) ≡ number_duplicate files file path earlier position f
  number-told numbers are fit number is fits =
      ap (λ found. listed (option_map (λ first. same_number files file path number first position) found))
      (ap (λ m. map.get m (item_number number)) are ∙ latest-number number fits earlier fit)
      ∙ ap listed (mapped (λ first. same_number files file path number first position) (latest (λ g. int_eq (number_of g.number) number) earlier))
      ∙ ap (λ n. listed (option_map (λ e. same_number files file path n e.0 position) (latest (λ g. int_eq (number_of g.number) n) earlier))) is

  name-told : (names : ByText ℕ) → names ≡ by_json_name earlier → (name : List ℕ)
      → listed (option_map (λ first. same_json_name files file path name first position) (map.get names name))
      ≡ listed (option_map (λ e. same_json_name files file path name e.0 position) (latest (λ g. option_map_or (bytes_eq name) g.json_name false) earlier))
  name-told names are name =
      ap (λ found. listed (option_map (λ first. same_json_name files file path name first position) found))
      (ap (λ m. map.get m name) are ∙ latest-json_name name earlier)
      ∙ ap listed (mapped (λ first. same_json_name files file path name first position) (latest (λ g. option_map_or (bytes_eq name) g.json_name false) earlier))

  -- the same of a JSON name
  pub json_name-told : (names : ByText ℕ) → names ≡ by_json_name earlier
      → option_map_or (λ name. listed (option_map (λ first. same_json_name files file path name first position) (map.get names name))) f.json_name []
      ≡ json_name_duplicate files file path earlier position f
  json_name-told names are = λ i. option_map_or (λ name. name-told names are name i) f.json_name []

-- where no two fields have one JSON name, none is told
pub no-json_name : (files : List FileDescriptorProto) (file : ℕ) (path : List ℤ) (fields : List FieldDescriptorProto) (i : ℕ) (f : FieldDescriptorProto) → i < length fields → f ≡ get_or fields i f
    → JsonNamesDiffer fields → json_name_duplicate files file path (take i fields) i f ≡ []
no-json_name files file path fields i f below is differ =
    sym (json_name-told files file path i f (take i fields) (by_json_name (take i fields)) refl) ∙ next f.json_name refl
  where
    next : (name : Option (List ℕ)) → f.json_name ≡ name → option_map_or (λ k. listed (option_map (λ first. same_json_name files file path k first i) (map.get (by_json_name (take i fields)) k))) name [] ≡ []
    next None given = refl
    next (Some name) given =
        ap (λ found. listed (option_map (λ first. same_json_name files file path name first i) found))
        (key-missing nat_list_cmp_total (λ g. g.json_name) fields i f name below is given differ)

-- the maps behind the next field
pub next-maps : (maps : FieldMaps) (fields : List FieldDescriptorProto) (i : ℕ) (f : FieldDescriptorProto) (number : ℤ) → i < length fields → f ≡ get_or fields i f
    → number ≡ number_of f.number → FitsSigned w32 number → AreMapsOf maps fields i
    → (new : FieldMaps) → new.numbers ≡ map.insert maps.numbers (item_number number) i → new.names ≡ maps.names → new.json_names ≡ maps.json_names
    → MatchOption new.earlier (JsonNamesDiffer fields) (λ earlier. earlier ≡ by_json_name (take (i + 1) fields)) → AreMapsOf new fields (i + 1)
next-maps maps fields i f number below is number_is fits are new numbers names json_names earlier = record {
  numbers = numbers ∙ (λ j. map.insert (are.numbers j) (item_number (number_is j)) i) ∙ sym (keyed-next (λ g. Some (item_number (number_of g.number))) fields i f below is);
  names = names ∙ are.names;
  json_names = json_names ∙ are.json_names;
  earlier = earlier;
  numbers_fit =
      let Fits : FieldDescriptorProto → Type 0 = λ g. FitsSigned w32 (number_of g.number) in
      subst (All Fits) (sym (take_more fields i f below ∙ ap (λ g. take i fields ++ g ∷ []) (sym is)))
      (All-push Fits (take i fields) f are.numbers_fit (subst (FitsSigned w32) number_is fits));
}

-- where no field was read
pub none-read : (names : Option (ByText ℕ)) (given : ℕ) (json_names : ByText ℕ) (fields : List FieldDescriptorProto) → MatchOption names (given ≤ map.len json_names) (λ found. found ≡ map.empty)
    → given ≡ length (keyed (λ f. f.json_name) fields) → json_names ≡ by_json_name fields → MatchOption names (JsonNamesDiffer fields) (λ earlier. earlier ≡ by_json_name [])
none-read None given json_names fields fits is made = let many = ap map.len made in omega (arith, fits, is, many)
none-read (Some found) given json_names fields empty is made = empty

-- the JSON names of the fields before the next one, and its own
pub next-earlier : (fields : List FieldDescriptorProto) (i : ℕ) (f : FieldDescriptorProto) → i < length fields → f ≡ get_or fields i f
    → (earlier new : ByText ℕ) → earlier ≡ by_json_name (take i fields) → new ≡ option_map_or (λ k. map.insert earlier k i) f.json_name earlier
    → new ≡ by_json_name (take (i + 1) fields)
next-earlier fields i f below is earlier new are made =
    made ∙ (λ j. option_map_or (λ k. map.insert (are j) k i) f.json_name (are j)) ∙ sym (keyed-next (λ g. g.json_name) fields i f below is)

below-test : {X : Type 0} (b : Bool) (n : ℕ) (x : X) (rest : ℕ) (later : Option (ℕ × X)) → IfSome later (λ e. e.0 < n + 1 + rest)
    → IfSome (option_or later (cond b (Some (n, x)) None)) (λ e. e.0 < n + suc rest)
below-test b n x rest (Some e) stands = omega (arith, stands)
below-test true n x rest None stands = omega arith
below-test false n x rest None stands = tt

found-below : {X : Type 0} (p : ℕ × X → Bool) (n : ℕ) (xs : List X) → IfSome (find p (reverse (enumerate_from n xs))) (λ e. e.0 < n + length xs)
found-below p n [] = tt
found-below {X} p n (x ∷ xs) =
    let es = enumerate_from (n + 1) xs in
    let e : ℕ × X = (n, x) in
    let Below : Option (ℕ × X) → Type 0 = λ found. IfSome found (λ e. e.0 < n + suc (length xs)) in
    subst Below (sym (ap (find p) (reverse-append (e ∷ []) es) ∙ find-append p (reverse es) (e ∷ [])))
    (below-test (p e) n x (length xs) (find p (reverse es)) (found-below p (n + 1) xs))

short-positions : {X : Type 0} (n : ℕ) (found : Option (ℕ × X)) → n < 2 ^ 31 → IfSome found (λ e. e.0 < 0 + n) → IfSome (option_map (λ e. e.0) found) (λ i. i < 2 ^ 31)
short-positions n None small below = tt
short-positions n (Some e) small below = omega (arith, below)

short-front : {X : Type 0} (xs : List X) (i : ℕ) → fits_list xs ≡ true → i < length xs → length (take i xs) < 2 ^ 31
short-front xs i short below = let front = length-take-le i xs (omega arith) in grind (arith, nat_tests)

-- positions in maps of fields are short enough
pub short-held : {K : Type 0} {R : K → K → Ordering} (total : IsTotalOrder R) (key : FieldDescriptorProto → Option K) (fields : List FieldDescriptorProto) (i : ℕ) → fits_list fields ≡ true → i < length fields
    → (m : map.FinMap R ℕ) → m ≡ inserted (keyed key (take i fields)) → (q : K) → IfSome (map.get m q) (λ first. first < 2 ^ 31)
short-held {R = R} total key fields i short below m is q =
    let test : ℕ × FieldDescriptorProto → Bool = λ e. option_map_or (eq_by_cmp R q) (key e.1) false in
    subst (λ found. IfSome found (λ first. first < 2 ^ 31)) (sym (ap (λ m. map.get m q) is ∙ get-keyed total key q (take i fields)))
    (short-positions (length (take i fields)) (find test (reverse (enumerate_from 0 (take i fields)))) (short-front fields i short below) (found-below test 0 (take i fields)))

pub short-numbers : (maps : FieldMaps) (fields : List FieldDescriptorProto) (i : ℕ) → fits_list fields ≡ true → i < length fields → AreMapsOf maps fields i
    → (key : ℕ) → IfSome (map.get maps.numbers key) (λ first. first < 2 ^ 31)
short-numbers maps fields i short below are = short-held nat_cmp_total (λ f. Some (item_number (number_of f.number))) fields i short below maps.numbers are.numbers

pub short-json_names : (names : ByText ℕ) (fields : List FieldDescriptorProto) (i : ℕ) → fits_list fields ≡ true → i < length fields → names ≡ by_json_name (take i fields)
    → (key : List ℕ) → IfSome (map.get names key) (λ first. first < 2 ^ 31)
short-json_names names fields i short below are = short-held nat_list_cmp_total (λ f. f.json_name) fields i short below names are
