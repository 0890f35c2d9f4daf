-- What a part of a file is called, and where it stands.
use Rattle.std.specs.Prelude.{ℕ, ℤ, pos, ◌+◌, List, [], ◌∷◌, ◌++◌, codes, slice_get}
use Rattle.std.specs.Fmt.{decimal}
use Rattle.std.specs.Option.{option_map_or, option_or}
use Rattle.std.specs.declared.option.Option.{Option}
use Rattle.std.specs.declared.option.Option.TheVariants.{None, Some}
use Rattle.proto_types.specs.Readers.{text_of}
use Rattle.proto_types.specs.declared.file.FileDescriptorProto.{FileDescriptorProto}
use Rattle.proto_types.specs.declared.message.DescriptorProto.{out-DescriptorProto}
use Rattle.proto_types.specs.declared.tag.file.TheConstants as file
use Rattle.joined_files.specs.declared.differences.FilePart.{FilePart}
use Rattle.joined_files.specs.declared.differences.FilePart.TheVariants as part

-- the number of a part's field in descriptor.proto
abbrev pub tag_of : FilePart → ℤ
tag_of part.Name = file.NAME
tag_of part.Package = file.PACKAGE
tag_of (part.Import _) = file.DEPENDENCY
tag_of (part.Message _) = file.MESSAGE_TYPE
tag_of (part.Enum _) = file.ENUM_TYPE
tag_of (part.Service _) = file.SERVICE
tag_of (part.Extension _) = file.EXTENSION
tag_of part.Options = file.OPTIONS
tag_of (part.PublicImport _) = file.PUBLIC_DEPENDENCY
tag_of (part.WeakImport _) = file.WEAK_DEPENDENCY
tag_of part.Syntax = file.SYNTAX

-- the position of a part in its list, if it stands in one
abbrev pub position_of : FilePart → Option ℕ
position_of part.Name = None
position_of part.Package = None
position_of (part.Import at) = Some at
position_of (part.Message at) = Some at
position_of (part.Enum at) = Some at
position_of (part.Service at) = Some at
position_of (part.Extension at) = Some at
position_of part.Options = None
position_of (part.PublicImport at) = Some at
position_of (part.WeakImport at) = Some at
position_of part.Syntax = None

-- the word for a part
abbrev pub word_of : FilePart → List ℕ
word_of part.Name = codes "name"
word_of part.Package = codes "package"
word_of (part.Import _) = codes "import"
word_of (part.Message _) = codes "message"
word_of (part.Enum _) = codes "enum"
word_of (part.Service _) = codes "service"
word_of (part.Extension _) = codes "extension"
word_of part.Options = codes "options"
word_of (part.PublicImport _) = codes "public import"
word_of (part.WeakImport _) = codes "weak import"
word_of part.Syntax = codes "syntax"

-- the entry with a position of a list, or else of another
abbrev pub at_either : {X : Type 0} → List X → List X → ℕ → Option X
at_either first further at = option_or (slice_get first at) (slice_get further at)

-- the name of a part of two files, if it has one: that of the first, or else of the further
abbrev pub name_of : FileDescriptorProto → FileDescriptorProto → FilePart → List ℕ
name_of f g part.Name = []
name_of f g part.Package = []
name_of f g (part.Import at) = option_map_or (λ n. n) (at_either f.dependency g.dependency at) []
name_of f g (part.Message at) = option_map_or (λ m. text_of (out-DescriptorProto m).name)
    (at_either f.message_type g.message_type at) []
name_of f g (part.Enum at) =
    option_map_or (λ e. text_of e.name) (at_either f.enum_type g.enum_type at) []
name_of f g (part.Service at) =
    option_map_or (λ s. text_of s.name) (at_either f.service g.service at) []
name_of f g (part.Extension at) =
    option_map_or (λ x. text_of x.name) (at_either f.extension g.extension at) []
name_of f g part.Options = []
name_of f g (part.PublicImport _) = []
name_of f g (part.WeakImport _) = []
name_of f g part.Syntax = []

-- a name between quotes behind a blank, if there is one
abbrev pub quoted : List ℕ → List ℕ
quoted [] = []
quoted (c ∷ cs) = codes " '" ++ ((c ∷ cs) ++ codes "'")

-- a part by its word, its position in a list, from 1, and its name
abbrev pub words_with : List ℕ → Option ℕ → List ℕ → List ℕ
words_with word None name = word
words_with word (Some at) name = word ++ (codes " " ++ (decimal (at + 1) ++ quoted name))

-- a part of two files, for people
abbrev pub part_words : FileDescriptorProto → FileDescriptorProto → FilePart → List ℕ
part_words f g p = words_with (word_of p) (position_of p) (name_of f g p)

-- a path from a file to a field, and to an entry of it
abbrev pub path_with : ℤ → Option ℕ → List ℤ
path_with tag None = tag ∷ []
path_with tag (Some at) = tag ∷ pos at ∷ []

-- the path of a part, from its file on
abbrev pub part_path : FilePart → List ℤ
part_path p = path_with (tag_of p) (position_of p)
