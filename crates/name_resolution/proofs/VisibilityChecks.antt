-- What files see, computed for some.
use Rattle.std.specs.Prelude.{◌≡◌, ℕ, ℤ, pos, negsuc, List, [], ◌∷◌, refl, map, codes}
use Rattle.std.specs.List.{position_from}
use Rattle.std.specs.Str.{bytes_eq}
use Rattle.std.specs.declared.option.Option.{Option}
use Rattle.std.specs.declared.option.Option.TheVariants.{Some}
use Rattle.proto_types.specs.File.{no_file}
use Rattle.proto_types.specs.declared.file.FileDescriptorProto.{FileDescriptorProto}
use Rattle.proto_types.specs.Readers.{text_of}
use Rattle.name_resolution.specs.Visibility.{seen_from}

-- a file with a name, imports, and the places of the public ones
abbrev file : List ℕ → List (List ℕ) → List ℤ → FileDescriptorProto
file name imports publics = record no_file { name = Some name; dependency = imports; public_dependency = publics }

-- the index of the first file with a name
abbrev number_named : List FileDescriptorProto → List ℕ → Option ℕ
number_named files name = position_from (λ f. bytes_eq (text_of f.name) name) 0 files

-- the indexes of the files that a file sees
abbrev seen : List FileDescriptorProto → ℕ → List ℕ
seen files a = seen_from files (number_named files) a

-- a imports b, which imports c as the places say, which imports d publicly; s imports itself publicly
abbrev chain : List ℤ → List FileDescriptorProto
chain publics =
    file (codes "a") (codes "b" ∷ []) []
    ∷ file (codes "b") (codes "c" ∷ []) publics
    ∷ file (codes "c") (codes "d" ∷ []) (pos 0 ∷ [])
    ∷ file (codes "d") [] []
    ∷ file (codes "s") (codes "s" ∷ []) (pos 0 ∷ [])
    ∷ []

pub along_a_chain : seen (chain (pos 0 ∷ [])) 0 ≡ 0 ∷ 1 ∷ 2 ∷ 3 ∷ []
along_a_chain = refl

pub itself_alone : seen (chain (pos 0 ∷ [])) 4 ≡ 4 ∷ []
itself_alone = refl

pub not_past_an_import_that_is_not_public : seen (chain []) 0 ≡ 0 ∷ 1 ∷ []
not_past_an_import_that_is_not_public = refl

pub not_past_a_place_where_no_import_stands : seen (chain (pos 1 ∷ negsuc 0 ∷ [])) 0 ≡ 0 ∷ 1 ∷ []
not_past_a_place_where_no_import_stands = refl

-- the importing file sees its imports, public or not, and of theirs the public ones
pub from_the_middle_of_a_chain : seen (chain []) 1 ≡ 1 ∷ 2 ∷ 3 ∷ []
from_the_middle_of_a_chain = refl

abbrev cycle : List FileDescriptorProto
cycle =
    file (codes "a") (codes "b" ∷ []) (pos 0 ∷ [])
    ∷ file (codes "b") (codes "c" ∷ []) (pos 0 ∷ [])
    ∷ file (codes "c") (codes "a" ∷ []) (pos 0 ∷ [])
    ∷ []

pub round_a_cycle : map (seen cycle) (0 ∷ 1 ∷ 2 ∷ []) ≡ (0 ∷ 1 ∷ 2 ∷ []) ∷ (0 ∷ 1 ∷ 2 ∷ []) ∷ (0 ∷ 1 ∷ 2 ∷ []) ∷ []
round_a_cycle = refl

pub an_import_that_names_no_file : seen (file (codes "a") (codes "x" ∷ codes "b" ∷ []) [] ∷ file (codes "b") (codes "x" ∷ []) (pos 0 ∷ []) ∷ file (codes "c") [] [] ∷ []) 0 ≡ 0 ∷ 1 ∷ []
an_import_that_names_no_file = refl

pub an_import_that_stands_twice : seen (file (codes "a") (codes "b" ∷ codes "b" ∷ []) [] ∷ file (codes "b") (codes "c" ∷ codes "d" ∷ codes "c" ∷ []) (pos 2 ∷ []) ∷ file (codes "c") [] [] ∷ file (codes "d") [] [] ∷ []) 0 ≡ 0 ∷ 1 ∷ 2 ∷ []
an_import_that_stands_twice = refl
