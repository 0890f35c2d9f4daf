-- Where a map has as many entries as were put in, no two of these have one key.
use Rattle.std.proofs.Common.{◌≡◌, ℕ, suc, ◌+◌, ◌<◌, ◌≤◌, Bool, true, false, cond, List, [], ◌∷◌, ◌++◌, length, take, drop, get_or, None, Some, Option, is_some, refl, ap, sym, ◌∙◌, subst, arith}
use Rattle.std.specs.Cmp.{IsTotalOrder}
use Rattle.std.specs.FinMap as map
use Rattle.std.specs.FinMap.{FinMap, len-empty, len-insert}
use Rattle.std.specs.List.{cons_option, filter_map, fold, enumerate_from}
use Rattle.std.specs.Option.{option_map}
use Rattle.std.specs.declared.cmp.Ordering.{Ordering}
use Rattle.std.proofs.lemmas.List.{drop_more, length-append, take-append-drop}
use Rattle.std.proofs.lemmas.List.Elements.{filter_map-append}
use Rattle.std.proofs.lemmas.List.Sums.{fold-append}
use Rattle.proto_types.specs.declared.records.field.FieldDescriptorProto.{FieldDescriptorProto}
use Rattle.plain_data.specs.Maps.{inserted}
use Rattle.field_rules.specs.Maps.{keyed}

one-more : (found : Bool) (n : ℕ) → cond found n (n + 1) ≤ n + 1
one-more true n = omega arith
one-more false n = omega arith

module _ {K X : Type 0} {R : K → K → Ordering} (total : IsTotalOrder R) where
  abbrev put : FinMap R X → K × X → FinMap R X
  put m e = map.insert m e.0 e.1

  -- entries put in are no more than there are
  len-put : (m : FinMap R X) (es : List (K × X)) → map.len (fold put m es) ≤ map.len m + length es
  len-put m [] = omega arith
  len-put m (e ∷ es) =
      let rest = len-put (map.insert m e.0 e.1) es in
      let own = len-insert total m e.0 e.1 in
      let up = one-more (is_some (map.get m e.0)) (map.len m) in
      omega (arith, rest, own, up)

  -- an entry whose key stood there before leaves a map that lacks one
  key-apart : (pre post : List (K × X)) (e : K × X) → length (pre ++ e ∷ post) ≤ map.len (inserted {R = R} (pre ++ e ∷ post)) → map.get (inserted {R = R} pre) e.0 ≡ None
  key-apart pre post e many = next (map.get (inserted {R = R} pre) e.0) refl
    where
      next : (found : Option X) → map.get (inserted {R = R} pre) e.0 ≡ found → found ≡ None
      next None is = refl
      next (Some x) is =
          let before = len-put map.empty pre in
          let none = len-empty R X in
          let after = len-put (map.insert (inserted {R = R} pre) e.0 e.1) post in
          let own = len-insert total (inserted {R = R} pre) e.0 e.1 ∙ ap (λ found. cond (is_some found) (map.len (inserted {R = R} pre)) (map.len (inserted {R = R} pre) + 1)) is in
          let whole = ap map.len (fold-append put map.empty pre (e ∷ post)) in
          let long = length-append pre (e ∷ post) in
          absurd (omega (arith, many, before, none, after, own, whole, long))

enumerate-append : {X : Type 0} (n : ℕ) (xs ys : List X) → enumerate_from n (xs ++ ys) ≡ enumerate_from n xs ++ enumerate_from (n + length xs) ys
enumerate-append n [] ys = let here : n ≡ n + 0 = omega arith in ap (λ k. enumerate_from k ys) here
enumerate-append n (x ∷ xs) ys =
    let there : n + 1 + length xs ≡ n + suc (length xs) = omega arith in
    ap (λ zs. (n, x) ∷ zs) (enumerate-append (n + 1) xs ys ∙ ap (λ k. enumerate_from (n + 1) xs ++ enumerate_from k ys) there)

-- of fields with as many keys as have one, those before a field lack its key
pub key-missing : {K : Type 0} {R : K → K → Ordering} (total : IsTotalOrder R) (key : FieldDescriptorProto → Option K) (fields : List FieldDescriptorProto) (i : ℕ) (f : FieldDescriptorProto) (k : K)
    → i < length fields → f ≡ get_or fields i f → key f ≡ Some k → length (keyed key fields) ≤ map.len (inserted {R = R} (keyed key fields))
    → map.get (inserted {R = R} (keyed key (take i fields))) k ≡ None
key-missing {K} {R} total key fields i f k below is own many =
    let entry : ℕ × FieldDescriptorProto → Option (K × ℕ) = λ e. option_map (λ q. (q, e.0)) (key e.1) in
    let n = length (take i fields) in
    let post = filter_map entry (enumerate_from (0 + n + 1) (drop (i + 1) fields)) in
    let split : keyed key fields ≡ keyed key (take i fields) ++ (k, 0 + n) ∷ post =
    ap (keyed key) (sym (take-append-drop i fields) ∙ ap (λ rest. take i fields ++ rest) (drop_more fields i f below ∙ ap (λ g. g ∷ drop (i + 1) fields) (sym is)))
    ∙ ap (filter_map entry) (enumerate-append 0 (take i fields) (f ∷ drop (i + 1) fields))
    ∙ filter_map-append entry (enumerate_from 0 (take i fields)) ((0 + n, f) ∷ enumerate_from (0 + n + 1) (drop (i + 1) fields))
    ∙ ap (λ q. keyed key (take i fields) ++ cons_option (option_map (λ q. (q, 0 + n)) q) post) own in
    key-apart total (keyed key (take i fields)) post (k, 0 + n)
    (subst (λ es. length es ≤ map.len (inserted {R = R} es)) split many)
