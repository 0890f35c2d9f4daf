-- An older and a new version that are compared in a direction, and both sides of a change.
use Rattle.std.specs.Prelude.{ℕ, ℤ, Bool, true, false, ◌&&◌, List, [], ◌∷◌, ◌++◌, codes, slice_get}
use Rattle.std.specs.Prelude.{option_map, option_and_then, Option, Some, None, if◌then◌else◌}
use Rattle.std.specs.FinMap as finite
use Rattle.std.specs.Option.{option_or}
use Rattle.std.specs.Str.{bytes_eq}
use Rattle.pool_types.specs.Contents.{Contents}
use Rattle.pool_types.specs.declared.contents.definition.Identity.{Identity}
use Rattle.pool_types.specs.declared.contents.file.FileDescriptorInner.{FileDescriptorInner}
use Rattle.pool_types.specs.declared.contents.message.MessageDescriptorInner.{MessageDescriptorInner}
use Rattle.pool_faults.specs.Labels.{span_at}
use Rattle.proto_types.specs.Readers.{text_of}
use Rattle.proto_types.specs.declared.file.FileDescriptorProto.{FileDescriptorProto}
use Rattle.schema_changes.specs.Changes.{Compared}
use Rattle.schema_changes.specs.Parts.{parts_of}
use Rattle.verdict_texts.specs.Telling.{position_of}
use Rattle.verdict_texts.specs.declared.telling.ToldFault.{ToldFault}
use Rattle.verdict_texts.specs.declared.telling.ToldPlace.{ToldPlace}
use Rattle.verdict_texts.specs.declared.telling.ToldSecond.{ToldSecond}
use Rattle.pool_changes.specs.ChangeKinds.{element_code, element_note}
use Rattle.pool_changes.specs.declared.direction.Direction.{Direction}
use Rattle.pool_changes.specs.declared.direction.Direction.TheVariants.{Backward, Forward}
use Rattle.pool_changes.specs.declared.kinds.ElementChange.{ElementChange}
use Rattle.pool_changes.specs.declared.sides.Side as lent
use Rattle.pool_changes.specs.declared.sides.Telling as code

-- an older and a new version that are compared in a direction
pub record Versions : Type 0 where
  pub direction : Direction
  pub old : Contents
  pub new : Contents

-- the versions that are lent to the code
abbrev pub versions : code.Telling → Versions
versions c = record { direction = c.direction; old = c.old.now; new = c.new.now }

-- of two things that are the writer's and the reader's the older one, or of two that are the older
-- and the new one the writer's
abbrev pub first_by : {X : Type 0} → Direction → X → X → X
first_by Backward x y = x
first_by Forward x y = y

-- the version that writes
abbrev pub writer : Versions → Contents
writer v = first_by v.direction v.old v.new

-- the version that reads
abbrev pub reader : Versions → Contents
reader v = first_by v.direction v.new v.old

-- the file of a reader that has the name of a writer's file
unfoldable pub file_like : Contents → Contents → ℕ → Option ℕ
file_like w r file =
    option_and_then (λ f. finite.get r.file_names (text_of f.raw.name)) (slice_get w.files file)

-- a message of the writer and one of the reader
abbrev pub both_of : Versions → MessageDescriptorInner → MessageDescriptorInner → Compared
both_of v x y =
    record { old = parts_of (writer v); before = x; new = parts_of (reader v); after = y }

-- one side of a change: the file and the path of an element, or of what is around it where there is
-- none; its name; whether it is there; and what is told of it
pub record Side : Type 0 where
  pub file : Option ℕ
  pub path : List ℤ
  pub shown : List ℕ
  pub is_there : Bool
  pub word : List ℕ
  pub name : List ℕ

-- the side that is lent to the code
abbrev pub side : lent.Side → Side
side s = record {
  file = s.file;
  path = s.path.now;
  shown = s.shown.now;
  is_there = s.is_there;
  word = s.word.now;
  name = s.name.now;
}

-- the side of an element that is there: what is told of it is a word and a name
abbrev pub there : Identity → List ℕ → List ℕ → Side
there id word name = record {
  file = Some id.file;
  path = id.path;
  shown = id.full_name;
  is_there = true;
  word = word;
  name = name;
}

-- the side that lacks an element, with the word for it: what is around it is there
abbrev pub around : Identity → List ℕ → Side
around id word = record {
  file = Some id.file;
  path = id.path;
  shown = id.full_name;
  is_there = false;
  word = word;
  name = [];
}

-- the side that lacks an element of a file
abbrev pub in_file : Option ℕ → List ℕ → Side
in_file file word = record {
  file = file;
  path = [];
  shown = [];
  is_there = false;
  word = word;
  name = [];
}

-- a file as a side: its index, its name, and what is told of it
abbrev pub file_side : Option ℕ → List ℕ → List ℕ → List ℕ → Side
file_side file shown word name = record {
  file = file;
  path = [];
  shown = shown;
  is_there = true;
  word = word;
  name = name;
}

-- a file of a pool as a side, with what is told of it
abbrev pub file_told : Contents → FileDescriptorInner → List ℕ → List ℕ → Side
file_told p f word name =
    file_side (finite.get p.file_names (text_of f.raw.name)) (text_of f.raw.name) word name

-- what is told of a side
abbrev pub side_text : Side → List ℕ
side_text s = if s.is_there then s.word ++ s.name else codes "no " ++ s.word

-- the name that a place shows: none where it is that of a file
abbrev pub element_shown : List ℤ → List ℕ → Option (List ℕ)
element_shown [] name = None
element_shown (n ∷ path) name = Some name

-- where a side stands in a file
abbrev pub place_within : Side → FileDescriptorProto → ToldPlace
place_within s f = record {
  file = text_of f.name;
  position = option_map position_of (span_at f s.path);
  path = s.path;
  element = element_shown s.path s.shown;
}

-- where a side stands, if its version has a file for it
abbrev pub side_place : Contents → Side → Option ToldPlace
side_place p s =
    option_map (λ f. place_within s f.raw) (option_and_then (slice_get p.files) s.file)

-- the words before the place in the old version
abbrev pub second_words : Bool → List ℕ
second_words true = codes "it was declared at "
second_words false = codes "what is around it was declared at "

-- the place in the old version
abbrev pub side_second : Contents → Side → Option ToldSecond
side_second p s =
    option_map (λ place. record { words = second_words s.is_there; place = place }) (side_place p s)

-- the name of the new side, or else of the old one
abbrev pub name_shown : Side → Side → List ℕ
name_shown a b = if b.is_there then b.shown else a.shown

-- the text of a change: the name of the element, and both sides
abbrev pub sides_text : Side → Side → List ℕ
sides_text a b = codes "'" ++ (name_shown a b ++ (codes "': " ++ (side_text a
    ++ (codes " became " ++ side_text b))))

-- where a change is shown: at its new side, or at its old one where the new version has no file for it
abbrev pub place_shown : Contents → Contents → Side → Side → Option ToldPlace
place_shown old new a b = option_or (side_place new b) (side_place old a)

-- a change of an old and a new version as it is told, by both sides
abbrev pub told_of : Contents → Contents → ElementChange → Side → Side → ToldFault
told_of old new k a b = record {
  code = element_code k;
  message = sides_text a b;
  place = place_shown old new a b;
  second = side_second old a;
  note = element_note k;
}

-- a change as it is told, by the side of the writer and that of the reader
abbrev pub told_between : Versions → ElementChange → Side → Side → ToldFault
told_between v k written read =
    told_of v.old v.new k (first_by v.direction written read) (first_by v.direction read written)

-- whether the same is told of both sides
abbrev pub are_alike : Side → Side → Bool
are_alike a b = bytes_eq a.word b.word && bytes_eq a.name b.name

-- a change, if both sides are not told alike
abbrev pub differing : Versions → ElementChange → Side → Side → List ToldFault
differing v k a b = if are_alike a b then [] else told_between v k a b ∷ []

-- what is told of a message, an enum or a service that the reader lacks, with the word for it
abbrev pub removed : Versions → ElementChange → Identity → List ℕ → List ToldFault
removed v k id word = told_between v k (there id word [])
    (in_file (file_like (writer v) (reader v) id.file) word) ∷ []
