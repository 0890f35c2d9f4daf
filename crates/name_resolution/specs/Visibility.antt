-- Which files a file sees: itself, its imports, and what these import publicly, through any chain
-- (the protobuf language's rule on public imports).
use Rattle.std.specs.Prelude.{◌≡◌, ◌↔◌, ◌<◌, ◌==◌, ◌||◌, ◌⊎◌, ℕ, zero, suc, Bool, IsTrue, List, []}
use Rattle.std.specs.Prelude.{◌∷◌, length, filter}
use Rattle.std.specs.List.{list_any, filter_map, range_with_len, Contains}
use Rattle.std.specs.declared.option.Option.{Option}
use Rattle.std.specs.declared.option.Option.TheVariants.{Some}
use Rattle.proto_types.specs.File.{file_at}
use Rattle.proto_types.specs.declared.file.FileDescriptorProto.{FileDescriptorProto}
use Rattle.plain_data.specs.Lists.{at}

-- the indexes of a file's imports, under a naming of files; a weak import is an import like any
-- other, and one whose name no file has gives no index
abbrev pub imports_of : (List ℕ → Option ℕ) → FileDescriptorProto → List ℕ
imports_of numbers f = filter_map numbers f.dependency

-- the indexes of those imports of a file whose places `public_dependency` holds; a place where no
-- import stands gives no index
abbrev pub public_imports_of : (List ℕ → Option ℕ) → FileDescriptorProto → List ℕ
public_imports_of numbers f = filter_map numbers (filter_map (at f.dependency) f.public_dependency)

-- files, and the naming by which an import means one of them
module _ (files : List FileDescriptorProto) (numbers : List ℕ → Option ℕ) where
  -- the file a imports the file b
  abbrev pub Imports : ℕ → ℕ → Type 0
  Imports a b = Contains (imports_of numbers (file_at files a)) b

  -- the file a imports the file b publicly
  abbrev pub ImportsPublicly : ℕ → ℕ → Type 0
  ImportsPublicly a b = Contains (public_imports_of numbers (file_at files a)) b

  -- from the file a through the files of a list, in order, to the last of them, b, each imports the
  -- next publicly; where the list is empty, b is a
  abbrev pub PublicChain : ℕ → List ℕ → ℕ → Type 0
  PublicChain a [] b = a ≡ b
  PublicChain a (c ∷ cs) b = ImportsPublicly a c × PublicChain c cs b

  -- the file a sees the file b: b is a itself, or a chain of public imports, of any length, leads
  -- to it from an import of a, which need not be public
  abbrev pub Sees : ℕ → ℕ → Type 0
  Sees a b = (b ≡ a) ⊎ ((first : ℕ) × (rest : List ℕ) × Imports a first × PublicChain first rest b)

  -- whether a chain of at most so many public imports leads from the file a to the file b
  abbrev pub leads_publicly : ℕ → ℕ → ℕ → Bool
  leads_publicly zero a b = a == b
  leads_publicly (suc more) a b =
      a == b || list_any (λ c. leads_publicly more c b)
      (public_imports_of numbers (file_at files a))

  -- whether the file a sees the file b, as a test, by chains of at most as many public imports as
  -- there are files
  abbrev pub sees : ℕ → ℕ → Bool
  sees a b = a == b || list_any (λ c. leads_publicly (length files) c b)
      (imports_of numbers (file_at files a))

  -- the indexes of the files that the file a sees, ascending
  abbrev pub seen_from : ℕ → List ℕ
  seen_from a = filter (sees a) (range_with_len 0 (length files))

-- law: the test `sees` is the relation `Sees`, where each name means a file that is there
abbrev pub SeesIsTested : Type 0
SeesIsTested =
    (files : List FileDescriptorProto) (numbers : List ℕ → Option ℕ)
    → ((name : List ℕ) (n : ℕ) → numbers name ≡ Some n → n < length files)
    → (a b : ℕ) → a < length files → (IsTrue (sees files numbers a b) ↔ Sees files numbers a b)
