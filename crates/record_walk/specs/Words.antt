-- Words for what the records declare, as texts and reports have them.
use Rattle.std.specs.Prelude.{ℕ, List, [], ◌∷◌, codes}
use Rattle.record_walk.specs.declared.counts.CountKind.{CountKind}
use Rattle.record_walk.specs.declared.counts.CountKind.TheVariants as too_many
use Rattle.record_walk.specs.declared.declaration.DeclarationKind.{DeclarationKind}
use Rattle.record_walk.specs.declared.declaration.DeclarationKind.TheVariants as declared

-- a name as a word: two quotes where it is empty
abbrev pub alone : List ℕ → List ℕ
alone [] = codes "''"
alone (c ∷ cs) = c ∷ cs

-- the word for what there is too much of, in the plural
abbrev pub count_word : CountKind → List ℕ
count_word too_many.ListTooLong = codes "lists"
count_word too_many.Files = codes "files"
count_word too_many.Messages = codes "messages"
count_word too_many.Enums = codes "enums"
count_word too_many.Services = codes "services"
count_word too_many.Extensions = codes "extensions"

-- the word for a kind of declaration
abbrev pub declared_word : DeclarationKind → List ℕ
declared_word declared.File = codes "file"
declared_word declared.Message = codes "message"
declared_word declared.Field = codes "field"
declared_word declared.Oneof = codes "oneof"
declared_word declared.Service = codes "service"
declared_word declared.Method = codes "method"
declared_word declared.Enum = codes "enum"
declared_word declared.EnumValue = codes "value"
declared_word declared.Extension = codes "extension"
