-- The words behind a keyword, and what they say.
use Rattle.std.specs.Prelude.{ℕ, ℤ, pos, ◌+◌, ◌==◌, Bool, List, [], ◌∷◌, codes, if◌then◌else◌}
use Rattle.std.specs.List.{position_from, slice_split}
use Rattle.std.specs.Str.{bytes_eq}
use Rattle.std.specs.Option.{option_map, option_or, ok_or}
use Rattle.std.specs.declared.option.Option.{Option}
use Rattle.std.specs.declared.option.Option.TheVariants.{None, Some}
use Rattle.std.specs.declared.result.Result.{Result}
use Rattle.std.specs.declared.result.Result.TheVariants.{Ok, Err}
use Rattle.plain_data.specs.TruthValues.{truth_value}
use Rattle.plain_data.specs.WholeNumbers.{whole_signed}
use Rattle.proto_types.specs.Readers.{text_of}
use Rattle.proto_types.specs.Source.{no_location}
use Rattle.proto_types.specs.Service.{no_method}
use Rattle.proto_types.specs.Enumeration.{no_value}
use Rattle.proto_types.specs.Field.{no_field}
use Rattle.proto_types.specs.declared.records.field.FieldDescriptorProto.{FieldDescriptorProto}
use Rattle.link_script.specs.declared.script.statement.Keyword.{Keyword}
use Rattle.link_script.specs.declared.script.statement.Keyword.TheVariants as word
use Rattle.link_script.specs.declared.script.statement.Statement.{Statement}
use Rattle.link_script.specs.declared.script.statement.Statement.TheVariants as say
use Rattle.link_script.specs.declared.script.statement.ScriptFault.{ScriptFault}
use Rattle.link_script.specs.declared.script.statement.ScriptFault.TheVariants.{WrongCount}
use Rattle.link_script.specs.declared.script.statement.ScriptFault.TheVariants.{BadNumber, BadWord}

-- whether a word says that there is nothing: `~` does
abbrev pub is_absent : List ℕ → Bool
is_absent text = bytes_eq text (codes "~")

-- the text that a word gives: `~` gives none, and two quotes give the empty one
abbrev pub text_in : List ℕ → Option (List ℕ)
text_in text = if is_absent text then None
    else (if bytes_eq text (codes "''") then Some [] else Some text)

-- the names of labels, for the numbers from 1 on, as descriptor.proto has them
abbrev pub labels : List (List ℕ)
labels = codes "optional" ∷ codes "required" ∷ codes "repeated" ∷ []

-- the names of types, for the numbers from 1 on, as descriptor.proto has them
abbrev pub types : List (List ℕ)
types =
    codes "double" ∷ codes "float" ∷ codes "int64" ∷ codes "uint64" ∷ codes "int32"
    ∷ codes "fixed64" ∷ codes "fixed32" ∷ codes "bool" ∷ codes "string"
    ∷ codes "group" ∷ codes "message" ∷ codes "bytes" ∷ codes "uint32" ∷ codes "enum"
    ∷ codes "sfixed32" ∷ codes "sfixed64" ∷ codes "sint32" ∷ codes "sint64" ∷ []

-- the number that a word gives by a name of a list, or else as a number
abbrev pub named_in : List (List ℕ) → List ℕ → Option ℤ
named_in names text =
    option_or (option_map (λ n. pos (n + 1)) (position_from (bytes_eq text) 0 names))
    (whole_signed 32 text)

abbrev given_or : ScriptFault → Option ℤ → Result (Option ℤ) ScriptFault
given_or fault (Some n) = Ok (Some n)
given_or fault None = Err fault

-- the number that a word gives, or none for `~`
abbrev pub number_in : List ℕ → Result (Option ℤ) ScriptFault
number_in text = if is_absent text then Ok None else given_or BadNumber (whole_signed 32 text)

-- the number that a word gives for a label or a type, or none for `~`
abbrev pub named_or_bad : List (List ℕ) → List ℕ → Result (Option ℤ) ScriptFault
named_or_bad names text = if is_absent text then Ok None else given_or BadWord (named_in names text)

-- what follows from a value, where it has no fault
abbrev pub and_then : {X Y : Type 0} → Result X ScriptFault → (X → Result Y ScriptFault)
    → Result Y ScriptFault
and_then (Ok x) next = next x
and_then (Err fault) next = Err fault

-- the text that a word gives where it may not be absent
abbrev pub given_text_in : List ℕ → Result (List ℕ) ScriptFault
given_text_in text = if is_absent text then Err BadWord else Ok (text_of (text_in text))

-- a number that was read, or else the fault of a word that writes none
abbrev pub number_or_bad : Option ℤ → Result ℤ ScriptFault
number_or_bad (Some n) = Ok n
number_or_bad None = Err BadNumber

-- the number that a word gives where it may not be absent
abbrev pub given_number_in : List ℕ → Result ℤ ScriptFault
given_number_in text = number_or_bad (whole_signed 32 text)

-- the numbers that words give one after another, or the first fault
abbrev pub each_number : List (List ℕ) → Result (List ℤ) ScriptFault
each_number [] = Ok []
each_number (text ∷ texts) =
    and_then (given_number_in text) (λ n. and_then (each_number texts) (λ ns. Ok (n ∷ ns)))

-- the numbers that a word gives between its commas, or none in two quotes
abbrev pub numbers_in : List ℕ → Result (List ℤ) ScriptFault
numbers_in text = if bytes_eq text (codes "''") then Ok []
    else each_number (slice_split (λ c. c == 44) text)

-- the truth value that a word gives: `true` or `false`
abbrev pub truth_in : List ℕ → Result Bool ScriptFault
truth_in text = ok_or (truth_value text) BadWord

-- a field or an extension by five words: its name, number, label, type and type name; the leftmost
-- fault is told
abbrev pub typed_in : List ℕ → List ℕ → List ℕ → List ℕ → List ℕ
    → Result FieldDescriptorProto ScriptFault
typed_in name number label type type_name =
    and_then (number_in number)
    (λ number. and_then (named_or_bad labels label)
    (λ label. and_then (named_or_bad types type) (λ type.
    Ok (record no_field {
      name = text_in name;
      number = number;
      label = label;
      type_ = type;
      type_name = text_in type_name;
    }))))

-- the statement of a keyword with no word behind it
abbrev pub of_none : Keyword → Result Statement ScriptFault
of_none word.Alias = Ok say.Alias
of_none word.End = Ok say.End
of_none word.Link = Ok say.Link
of_none word.Walk = Ok say.Walk
of_none word.Relink = Ok say.Relink
of_none _ = Err WrongCount

-- the statement of a keyword with one word behind it
abbrev pub of_one : Keyword → List ℕ → Result Statement ScriptFault
of_one word.File name = Ok (say.File (text_in name))
of_one word.Package name = Ok (say.Package (text_in name))
of_one word.Syntax name = Ok (say.Syntax (text_in name))
of_one word.Import name = and_then (given_text_in name) (λ name. Ok (say.Import name))
of_one word.Public position =
    and_then (given_number_in position) (λ position. Ok (say.Public position))
of_one word.Weak position = and_then (given_number_in position) (λ position. Ok (say.Weak position))
of_one word.Service name = Ok (say.Service (text_in name))
of_one word.Message name = Ok (say.Message (text_in name))
of_one word.Enum name = Ok (say.Enum (text_in name))
of_one word.Oneof name = Ok (say.Oneof (text_in name))
of_one word.Json name = Ok (say.Json (text_in name))
of_one word.Packed packed = and_then (truth_in packed) (λ packed. Ok (say.Packed packed))
of_one word.Find name = Ok (say.Find (text_of (text_in name)))
of_one word.Refs name = Ok (say.Refs (text_of (text_in name)))
of_one _ _ = Err WrongCount

-- the statement of a keyword with two words behind it
abbrev pub of_two : Keyword → List ℕ → List ℕ → Result Statement ScriptFault
of_two word.At path span =
    and_then (numbers_in path)
    (λ path. and_then (numbers_in span)
    (λ span. Ok (say.At (record no_location { path = path; span = span }))))
of_two word.Reserved start «end» =
    and_then (number_in start)
    (λ start. and_then (number_in «end») (λ «end». Ok (say.Reserved start «end»)))
of_two word.Extensions start «end» =
    and_then (number_in start)
    (λ start. and_then (number_in «end») (λ «end». Ok (say.Extensions start «end»)))
of_two word.Value name number =
    and_then (number_in number)
    (λ number. Ok (say.Value (record no_value { name = text_in name; number = number })))
of_two word.Ext name number =
    and_then (given_number_in number)
    (λ number. Ok (say.Ext (text_of (text_in name)) number))
of_two _ _ _ = Err WrongCount

-- the statement of a keyword with three words behind it
abbrev pub of_three : Keyword → List ℕ → List ℕ → List ℕ → Result Statement ScriptFault
of_three word.Method name input output =
    Ok (say.Method (record no_method {
      name = text_in name;
      input_type = text_in input;
      output_type = text_in output;
    }))
of_three _ _ _ _ = Err WrongCount

-- the statement of a keyword with six words behind it: the last is a field's oneof index, or an
-- extension's extendee
abbrev pub of_six : Keyword → List ℕ → List ℕ → List ℕ → List ℕ → List ℕ → List ℕ
    → Result Statement ScriptFault
of_six word.Field name number label type type_name oneof =
    and_then (typed_in name number label type type_name)
    (λ f. and_then (number_in oneof)
    (λ oneof. Ok (say.Field (record f { oneof_index = oneof }))))
of_six word.Extend name number label type type_name extendee =
    and_then (typed_in name number label type type_name)
    (λ f. Ok (say.Extend (record f { extendee = text_in extendee })))
of_six _ _ _ _ _ _ _ = Err WrongCount

-- the statement that a keyword and the words behind it make, or the fault
abbrev pub statement_in : Keyword → List (List ℕ) → Result Statement ScriptFault
statement_in keyword [] = of_none keyword
statement_in keyword (a ∷ []) = of_one keyword a
statement_in keyword (a ∷ b ∷ []) = of_two keyword a b
statement_in keyword (a ∷ b ∷ c ∷ []) = of_three keyword a b c
statement_in keyword (a ∷ b ∷ c ∷ d ∷ e ∷ f ∷ []) = of_six keyword a b c d e f
statement_in keyword _ = Err WrongCount

-- what is left of a line without its leading spaces
abbrev pub behind_spaces : List ℕ → List ℕ
behind_spaces [] = []
behind_spaces (c ∷ cs) = if c == 32 then behind_spaces cs else c ∷ cs

-- what stands behind the first space of a text, if it has one
abbrev pub behind_first_space : List ℕ → Option (List ℕ)
behind_first_space [] = None
behind_first_space (c ∷ cs) = if c == 32 then Some cs else behind_first_space cs

abbrev rest_or_bad : Option (List ℕ) → Result (List ℕ) ScriptFault
rest_or_bad None = Err WrongCount
rest_or_bad (Some []) = Err WrongCount
rest_or_bad (Some (c ∷ cs)) = Ok (if bytes_eq (c ∷ cs) (codes "''") then [] else c ∷ cs)

-- the text that the rest of a line gives, behind its first word and one space: two quotes alone
-- give the empty text
abbrev pub rest_in : List ℕ → Result (List ℕ) ScriptFault
rest_in line = rest_or_bad (behind_first_space (behind_spaces line))

-- the statement of a keyword and its line: a default is the rest of the line, and any other is made
-- of the words
abbrev pub said_in : List ℕ → Keyword → List (List ℕ) → Result Statement ScriptFault
said_in line word.Default words = and_then (rest_in line) (λ text. Ok (say.Default text))
said_in line keyword words = statement_in keyword words
