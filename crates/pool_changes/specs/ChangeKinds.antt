-- What changes of an element that both sides tell, and at which level.
use Rattle.std.specs.Prelude.{ℕ, List, [], ◌∷◌, ◌++◌, codes}
use Rattle.pool_changes.specs.declared.kinds.Level.{Level}
use Rattle.pool_changes.specs.declared.kinds.Level.TheVariants.{Wire, Json, Source}
use Rattle.pool_changes.specs.declared.kinds.ElementChange.{ElementChange}
use Rattle.pool_changes.specs.declared.kinds.ElementChange.TheVariants as element

-- the levels, each before those that contain it
abbrev pub levels : List Level
levels = Wire ∷ Json ∷ Source ∷ []

-- the word for a level
abbrev pub level_word : Level → List ℕ
level_word Wire = codes "wire"
level_word Json = codes "json"
level_word Source = codes "source"

-- the name of a kind of change
abbrev pub element_code : ElementChange → List ℕ
element_code element.ServiceRemoved = codes "service-removed"
element_code element.MethodRemoved = codes "method-removed"
element_code element.MethodInput = codes "method-input"
element_code element.MethodOutput = codes "method-output"
element_code element.MethodStreaming = codes "method-streaming"
element_code element.MessageSet = codes "message-set"
element_code element.FieldRemoved = codes "field-removed"
element_code element.FieldJsonName = codes "field-json-name"
element_code element.FieldJson = codes "field-json"
element_code element.FieldRepeated = codes "field-repeated"
element_code element.ValueRemoved = codes "value-removed"
element_code element.ValueName = codes "value-name"
element_code element.FileRemoved = codes "file-removed"
element_code element.MessageRemoved = codes "message-removed"
element_code element.FieldName = codes "field-name"
element_code element.FieldType = codes "field-type"
element_code element.FieldPresence = codes "field-presence"
element_code element.FieldOneof = codes "field-moved"
element_code element.FieldDefault = codes "field-default"
element_code element.OneofRemoved = codes "oneof-removed"
element_code element.EnumRemoved = codes "enum-removed"
element_code element.EnumOpen = codes "enum-open"
element_code element.FilePackage = codes "file-package"
element_code element.FileSyntax = codes "file-syntax"
element_code element.OptionChanged = codes "option-changed"

-- what to do about a call that one side lacks
abbrev pub call_note : List ℕ
call_note = codes "a server that lacks it refuses its calls: keep it, and mark it as deprecated"

-- what to do about a method that is another
abbrev pub method_note : List ℕ
method_note = codes "one side of a call expects another: leave the method, and add a new one"

-- what to do about a value's name that JSON lacks
abbrev pub value_note : List ℕ
value_note = codes "a parser of JSON refuses its name: keep it, if only as an alias"

-- what to do about a name that code lacks
abbrev pub code_note : List ℕ
code_note = codes "code names it: keep it, and mark it as deprecated"

-- what to do about a form in JSON that is another
abbrev pub form_note : List ℕ
form_note = codes "a parser of JSON refuses the other form: leave it, and add a new field"

-- what to do about what code reads where nothing was written
abbrev pub missing_note : List ℕ
missing_note = codes "code goes by what it reads where nothing was written: leave it"

-- what to do about a file of which other code is made
abbrev pub file_note : List ℕ
file_note = codes "code that is made of the file is another: leave it"

-- what to do about a change
abbrev pub element_note : ElementChange → List ℕ
element_note element.ServiceRemoved = call_note
element_note element.MethodRemoved = call_note
element_note element.MethodInput = method_note
element_note element.MethodOutput = method_note
element_note element.MethodStreaming = method_note
element_note element.MessageSet = codes "its extensions are encoded otherwise: take a new message"
element_note element.FieldRemoved =
    codes "a parser of JSON refuses its name: keep it, and mark it as deprecated"
element_note element.FieldJsonName =
    codes "a parser of JSON refuses the other name: give it the same by json_name"
element_note element.FieldJson = form_note
element_note element.FieldRepeated = form_note
element_note element.ValueRemoved = value_note
element_note element.ValueName = value_note
element_note element.FileRemoved =
    codes "sources import it: keep it, if only with public imports of other files"
element_note element.MessageRemoved =
    codes "a reader that asks for its name has none, and a field that held it is compared by "
    ++ codes "itself: keep it, and mark it as deprecated"
element_note element.OneofRemoved = code_note
element_note element.FieldName = codes "code names it: leave the name"
element_note element.FieldType = codes "code has values of the other type: leave it"
element_note element.FieldPresence = missing_note
element_note element.FieldOneof = missing_note
element_note element.FieldDefault = missing_note
element_note element.EnumRemoved = code_note
element_note element.EnumOpen = missing_note
element_note element.FilePackage = file_note
element_note element.FileSyntax = file_note
element_note element.OptionChanged = file_note
