-- The files of several sets as one batch: files of one name that are equal apart from their places
-- count once, and of others the first.
use Rattle.std.specs.Prelude.{◌≡◌, ℕ, Bool, List, [], ◌∷◌, ◌++◌, fold, is_some, map, refl}
use Rattle.std.specs.Prelude.{if◌then◌else◌}
use Rattle.std.specs.Coded.{Coded, code_by, coded_list, coded×}
use Rattle.std.specs.FinMap as finite
use Rattle.std.specs.List.{find, position_from}
use Rattle.std.specs.Option.{option_map_or}
use Rattle.std.specs.Str.{bytes_eq}
use Rattle.std.specs.declared.option.Option.{Option}
use Rattle.std.specs.declared.option.Option.TheVariants.{None, Some}
use Rattle.pool_types.specs.Contents.{ByText}
use Rattle.proto_types.specs.Readers.{text_of}
use Rattle.proto_types.specs.declared.file.FileDescriptorProto.{FileDescriptorProto}
use Rattle.joined_files.specs.Apart.{apart_from_places}
use Rattle.joined_files.specs.Differences.{difference}
use Rattle.joined_files.specs.Words.{part_path, part_words}
use Rattle.joined_files.specs.declared.differences.FilePart.{FilePart}
use Rattle.joined_files.specs.declared.joining.JoinedFiles.{JoinedFiles}
use Rattle.joined_files.specs.declared.unequal.SetFile.{SetFile}
use Rattle.joined_files.specs.declared.unequal.UnequalFile.{UnequalFile}

-- the name of a file
abbrev pub name_in : SetFile → List ℕ
name_in f = text_of f.file.name

-- whether a file has a name
abbrev pub is_named : List ℕ → SetFile → Bool
is_named name f = bytes_eq (name_in f) name

-- of two files that are equal apart from their places the one that has some; the first where both
-- have some
abbrev pub with_places : FileDescriptorProto → FileDescriptorProto → FileDescriptorProto
with_places f g = if is_some f.source_code_info then f else g

-- what is kept of the first file of a name and a further one, by what differs: of equal ones that
-- with places, and else the first
abbrev pub kept_by : Option FilePart → SetFile → SetFile → SetFile
kept_by None first f = record { set = first.set; file = with_places first.file f.file }
kept_by (Some _) first f = first

-- what is kept of the first file of a name and a further one
abbrev pub kept : SetFile → SetFile → SetFile
kept first f = kept_by (difference first.file f.file) first f

-- files, and one more: behind them, unless one of them has its name
abbrev pub join : List SetFile → SetFile → List SetFile
join [] f = f ∷ []
join (g ∷ gs) f = if is_named (name_in f) g then kept g f ∷ gs else g ∷ join gs f

-- a file that differs from the first of its name at a part: the sets that have both, and the part
abbrev pub unequal_file : SetFile → SetFile → FilePart → UnequalFile
unequal_file first f part = record {
  name = name_in f;
  first = first.set;
  further = f.set;
  path = part_path part;
  part = part_words first.file f.file part;
}

-- the same, if there is such a part
abbrev pub unequal_by : Option FilePart → SetFile → SetFile → List UnequalFile
unequal_by None first f = []
unequal_by (Some part) first f = unequal_file first f part ∷ []

-- what is told of a file, if something is
abbrev pub listed : Option UnequalFile → List UnequalFile
listed told = option_map_or (λ u. u ∷ []) told []

-- what is told of a further file, by the first of its name, if there is one
abbrev pub unequal_to : Option SetFile → SetFile → List UnequalFile
unequal_to first f = option_map_or (λ g. unequal_by (difference g.file f.file) g f) first []

-- files that were joined: the batch of them, and those that differ from the first of their name
pub record Joined : Type 0 where
  pub files : List SetFile
  pub unequal : List UnequalFile

-- the code of joined files, by those of files and of what is told
abbrev pub joined_code : Coded SetFile → Coded UnequalFile → Coded Joined
joined_code file told = code_by (List SetFile × List UnequalFile)
    (coded× (coded_list file) (coded_list told)) (λ j. (j.files, j.unequal))
    (λ p. record { files = p.0; unequal = p.1 }) (λ _. refl)

-- no files
abbrev pub none_joined : Joined
none_joined = record { files = []; unequal = [] }

-- files, and one more
abbrev pub joined : Joined → SetFile → Joined
joined j f = record {
  files = join j.files f;
  unequal = j.unequal ++ unequal_to (find (is_named (name_in f)) j.files) f;
}

-- the files of a set
abbrev pub files_of_set : List ℕ → List FileDescriptorProto → List SetFile
files_of_set set files = map (λ f. record { set = set; file = f }) files

-- files, and those of a further set
abbrev pub with_set : Joined → List ℕ → List FileDescriptorProto → Joined
with_set j set files = fold joined j (files_of_set set files)

-- files, in order, as one batch
abbrev pub joined_all : List SetFile → Joined
joined_all files = fold joined none_joined files

-- the batch, and what was left out of it
abbrev pub files_joined : Joined → JoinedFiles
files_joined j = record { files = map (λ f. f.file) j.files; unequal = j.unequal }

-- names have the positions of the first files that have them, and no others
abbrev pub HaveNames : ByText ℕ → List SetFile → Type 0
HaveNames names files =
    (name : List ℕ) → finite.get names name ≡ position_from (is_named name) 0 files

-- a file of a set apart from its places
abbrev pub apart_in_set : SetFile → SetFile
apart_in_set f = record { set = f.set; file = apart_from_places f.file }

-- joined files apart from their places
abbrev pub apart_joined : Joined → Joined
apart_joined j = record { files = map apart_in_set j.files; unequal = j.unequal }

-- law: which of some files have places changes nothing of their batch but its places, and nothing
-- of what is told of unequal ones
abbrev pub JoinedApartFromPlaces : Type 0
JoinedApartFromPlaces = (fs gs : List SetFile) → map apart_in_set fs ≡ map apart_in_set gs
    → apart_joined (joined_all fs) ≡ apart_joined (joined_all gs)
