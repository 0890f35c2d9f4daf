-- Files that import alike see alike.
use Rattle.std.proofs.Common.{◌≡◌, ◌==◌, ◌||◌, ℕ, zero, suc, Option, List, length, refl}
use Rattle.std.specs.List.{filter, filter_map, list_any, range_with_len}
use Rattle.proto_types.specs.declared.file.FileDescriptorProto.{FileDescriptorProto}
use Rattle.plain_data.specs.Lists.{at}
use Rattle.name_resolution.specs.Visibility.{imports_of, public_imports_of, leads_publicly, seen_from}
use Rattle.proto_types.specs.File.{file_at}

-- a file has the imports of another, and the same of them are public
pub record SameImports (f g : FileDescriptorProto) : Type 0 where
  pub imports : g.dependency ≡ f.dependency
  pub publics : g.public_dependency ≡ f.public_dependency

module _ (fs gs : List FileDescriptorProto) (many : length gs ≡ length fs) (alike : (n : ℕ) → SameImports (file_at fs n) (file_at gs n)) (naming : List ℕ → Option ℕ) where
  same-imports : (n : ℕ) → imports_of naming (file_at gs n) ≡ imports_of naming (file_at fs n)
  same-imports n = λ i. filter_map naming ((alike n).imports i)

  same-publics : (n : ℕ) → public_imports_of naming (file_at gs n) ≡ public_imports_of naming (file_at fs n)
  same-publics n = λ i. filter_map naming (filter_map (at ((alike n).imports i)) ((alike n).publics i))

  same-chains : (more a b : ℕ) → leads_publicly gs naming more a b ≡ leads_publicly fs naming more a b
  same-chains zero a b = refl
  same-chains (suc more) a b = λ i. a == b || list_any (λ c. same-chains more c b i) (same-publics a i)

  pub sees-alike : (a : ℕ) → seen_from gs naming a ≡ seen_from fs naming a
  sees-alike a = λ i. filter (λ b. a == b || list_any (λ c. one b c i) (same-imports a i)) (range_with_len 0 (many i))
    where
      one : (b c : ℕ) → leads_publicly gs naming (length gs) c b ≡ leads_publicly fs naming (length fs) c b
      one b c = λ i. same-chains (many i) c b i
