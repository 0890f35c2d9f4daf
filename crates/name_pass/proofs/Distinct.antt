-- Fields whose keys have digests that differ: no two of them have one key.
use Rattle.std.proofs.Common.{◌≡◌, ℕ, ℤ, ◌+◌, ◌<◌, cond, false, nat_eq, List, [], ◌∷◌, ◌++◌, length, map, find, None, Some, refl, ap, sym, subst, ◌∙◌, arith, append_assoc}
use Rattle.std.proofs.lemmas.List.{map-append}
use Rattle.std.specs.List.{AllByRecursion, IsDistinct, enumerate_from}
use Rattle.std.specs.Option.{option_map}
use Rattle.std.specs.Str.{bytes_eq}
use Rattle.proto_types.specs.Readers.{text_of}
use Rattle.proto_types.specs.declared.file.FileDescriptorProto.{FileDescriptorProto}
use Rattle.proto_types.specs.declared.records.field.FieldDescriptorProto.{FieldDescriptorProto}
use Rattle.plain_data.specs.Lists.{after_each, listed}
use Rattle.plain_data.proofs.Distinct.{apart-before, distinct-keys}
use Rattle.name_pass.specs.CamelCase.{Placed, camel_case_fault, camel_case_faults, camel_case_key, key_at, shared_key_faults}
use Rattle.name_pass.specs.KeyDigests.{digest_at, digest_of}

-- the keys of fields
abbrev keys : List FieldDescriptorProto → List (List ℕ)
keys fields = map (λ f. camel_case_key (text_of f.name)) fields

keys-placed : (i : ℕ) (fields : List FieldDescriptorProto) → map key_at (enumerate_from i fields) ≡ keys fields
keys-placed i [] = refl
keys-placed i (f ∷ fields) = ap (λ ks. camel_case_key (text_of f.name) ∷ ks) (keys-placed (i + 1) fields)

digests-of : (fields : List FieldDescriptorProto) → map digest_at fields ≡ map digest_of (keys fields)
digests-of [] = refl
digests-of (f ∷ fields) = ap (λ ds. digest_at f ∷ ds) (digests-of fields)

-- a field has no key of others that have other keys
none-held : (f : Placed) (es : List Placed) → AllByRecursion (λ k. bytes_eq (key_at f) k ≡ false) (map key_at es) → find (λ e. bytes_eq (key_at f) (key_at e)) es ≡ None
none-held f [] apart = refl
none-held f (e ∷ es) apart = ap (λ b. cond b (Some e) (find (λ e. bytes_eq (key_at f) (key_at e)) es)) apart.0 ∙ none-held f es apart.1

module _ (files : List FileDescriptorProto) (file : ℕ) (path : List ℤ) where
  none-told : (before es : List Placed) → IsDistinct bytes_eq (map key_at (before ++ es)) → after_each (shared_key_faults files file path) before es ≡ []
  none-told before [] apart = refl
  none-told before (e ∷ es) apart =
      let none = none-held e before (apart-before (map key_at before) (map key_at es) (key_at e) (subst (IsDistinct bytes_eq) (map-append key_at before (e ∷ es)) apart)) in
      let later = subst (λ fs. IsDistinct bytes_eq (map key_at fs)) (sym (append_assoc before (e ∷ []) es)) apart in
      (λ j. listed (option_map (λ first. camel_case_fault files file path first e) (none j)) ++ none-told (before ++ e ∷ []) es later j)

-- so fields whose digests differ have no fault
pub distinct : (fields : List FieldDescriptorProto) → IsDistinct nat_eq (map digest_at fields) → (files : List FileDescriptorProto) (file : ℕ) (path : List ℤ)
    → camel_case_faults files file path fields ≡ []
distinct fields apart files file path =
    let differ = distinct-keys digest_of (keys fields) (subst (IsDistinct nat_eq) (digests-of fields) apart) in
    none-told files file path [] (enumerate_from 0 fields) (subst (IsDistinct bytes_eq) (sym (keys-placed 0 fields)) differ)

-- nor have fewer than two
pub few : (fields : List FieldDescriptorProto) → length fields < 2 → (files : List FileDescriptorProto) (file : ℕ) (path : List ℤ) → camel_case_faults files file path fields ≡ []
few [] less files file path = refl
few (f ∷ []) less files file path = refl
few (f ∷ g ∷ fields) less files file path = absurd (omega arith)
