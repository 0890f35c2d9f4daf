-- The texts of faults.
use Rattle.std.specs.Prelude.{ℕ, ℤ, pos, ◌+ℤ◌, ◌-ℤ◌, slice_get, slice_index_or, List, [], ◌∷◌, ◌++◌}
use Rattle.std.specs.Prelude.{codes, if◌then◌else◌}
use Rattle.std.specs.Fmt.{signed_decimal}
use Rattle.std.specs.List.{flat_map}
use Rattle.std.specs.Option.{option_map_or, option_and_then}
use Rattle.std.specs.Str.{bytes_eq}
use Rattle.std.specs.declared.option.Option.{Option}
use Rattle.std.specs.declared.option.Option.TheVariants.{None, Some}
use Rattle.pool_faults.specs.declared.label.Label.{Label}
use Rattle.pool_faults.specs.declared.fault.DescriptorErrorKind.{DescriptorErrorKind}
use Rattle.pool_faults.specs.declared.fault.DescriptorErrorKind.TheVariants as fault

-- a text between two others
abbrev pub between : List ℕ → List ℕ → List ℕ → List ℕ
between front text back = front ++ (text ++ back)

-- numbers, each behind a comma and a space
abbrev pub further_numbers : List ℤ → List ℕ
further_numbers [] = []
further_numbers (n ∷ ns) = 44 ∷ 32 ∷ (signed_decimal n ++ further_numbers ns)

-- numbers with a comma and a space between each two
abbrev pub numbers_text : List ℤ → List ℕ
numbers_text [] = []
numbers_text (n ∷ ns) = signed_decimal n ++ further_numbers ns

-- a path as it is printed: its numbers in square brackets, with a comma and a space between each
-- two
abbrev pub path_text : List ℤ → List ℕ
path_text path = between (codes "[") (numbers_text path) (codes "]")

-- the label that a fault shows: of a duplicate the second; of a duplicate file and of an index of
-- an import or a oneof none
abbrev pub shown_label : DescriptorErrorKind → Option Label
shown_label (fault.MissingRequiredField label) = Some label
shown_label (fault.UnknownSyntax _ found) = Some found
shown_label (fault.DuplicateFileName _) = None
shown_label (fault.FileNotFound _ found) = Some found
shown_label fault.InvalidImportIndex = None
shown_label fault.InvalidOneofIndex = None
shown_label (fault.DuplicateName _ _ second) = Some second
shown_label (fault.DuplicateFieldNumber _ _ second) = Some second
shown_label (fault.DuplicateFieldJsonName _ _ second) = Some second
shown_label (fault.DuplicateFieldCamelCaseName _ _ _ second) = Some second
shown_label (fault.InvalidFieldNumber _ found) = Some found
shown_label (fault.FieldNumberInReservedRange _ _ _ _ found) = Some found
shown_label (fault.FieldNumberInExtensionRange _ _ _ _ found) = Some found
shown_label (fault.ExtensionNumberOutOfRange _ _ found) = Some found
shown_label (fault.DuplicateExtensionNumber _ _ _ second) = Some second
shown_label (fault.NameNotFound _ found) = Some found
shown_label (fault.NameShadowed _ _ found) = Some found
shown_label (fault.InvalidType _ _ found _) = Some found
shown_label (fault.InvalidFieldDefault _ _ found) = Some found
shown_label (fault.EmptyEnum found) = Some found
shown_label (fault.InvalidProto3EnumDefault found) = Some found
shown_label (fault.DuplicateEnumNumber _ _ second) = Some second
shown_label (fault.EnumNumberInReservedRange _ _ _ _ found) = Some found

-- the text of a fault of a number that lies in a range, of which the first number and the last are
-- shown
abbrev pub range_text : List ℕ → ℤ → List ℕ → ℤ → ℤ → List ℕ
range_text what number range first last =
    between what (codes " number '") (between (signed_decimal number) (codes "' conflicts with ")
    (between range (codes " range '")
    (between (signed_decimal first) (codes " to ") (signed_decimal last ++ codes "'"))))

-- the text of a fault of a number that a message does not leave to extensions
abbrev pub out_of_range_text : List ℕ → ℤ → List ℕ
out_of_range_text message number =
    between (codes "message '") message
    (between (codes "' does not define '") (signed_decimal number)
    (codes "' as an extension number"))

-- the text of a fault of a number that an earlier extension of the message has
abbrev pub duplicate_extension_text : List ℕ → ℤ → List ℕ
duplicate_extension_text message number =
    between (codes "extension number '") (signed_decimal number)
    (between (codes "' of message '") message (codes "' is already used"))

-- the text of a fault of a number that a value of an enum may not have
abbrev pub value_fault_text : DescriptorErrorKind → List ℕ
value_fault_text (fault.DuplicateEnumNumber number _ _) =
    between (codes "enum number '") (signed_decimal number) (codes "' has already been used")
value_fault_text (fault.EnumNumberInReservedRange number start last _ _) =
    range_text (codes "enum") number (codes "reserved") start last
value_fault_text _ = []

-- the text of a fault of a number that a field or an extension may not have, or else of a value
abbrev pub number_fault_text : DescriptorErrorKind → List ℕ
number_fault_text (fault.DuplicateFieldNumber number _ _) =
    between (codes "field number '") (signed_decimal number) (codes "' is already used")
number_fault_text (fault.InvalidFieldNumber number _) =
    between (codes "invalid field number '") (signed_decimal number) (codes "'")
number_fault_text (fault.FieldNumberInReservedRange number start behind _ _) =
    range_text (codes "field") number (codes "reserved") start (behind -ℤ pos 1)
number_fault_text (fault.FieldNumberInExtensionRange number start behind _ _) =
    range_text (codes "field") number (codes "extension") start (behind -ℤ pos 1)
number_fault_text (fault.ExtensionNumberOutOfRange number message _) =
    out_of_range_text message number
number_fault_text (fault.DuplicateExtensionNumber number message _ _) =
    duplicate_extension_text message number
number_fault_text other = value_fault_text other

-- the text of a fault of a reference or a default that means nothing, or else of a number
abbrev pub reference_fault_text : DescriptorErrorKind → List ℕ
reference_fault_text (fault.NameNotFound name _) =
    between (codes "name '") name (codes "' is not defined")
reference_fault_text (fault.NameShadowed name shadowed _) =
    between (codes "'") name
    (between (codes "' resolves to '") shadowed (codes "', which is not defined"))
reference_fault_text (fault.InvalidType name expected _ _) =
    between (codes "'") name (codes "' is not " ++ expected)
reference_fault_text (fault.InvalidFieldDefault value kind _) =
    between (codes "invalid default value '") value
    (between (codes "' for type '") kind (codes "'"))
reference_fault_text other = number_fault_text other

-- the text of a fault of a duplicate name, or else of a reference; two labels of one file name give
-- `is defined twice`, and else the text names the file of the first holder
abbrev pub name_fault_text : DescriptorErrorKind → List ℕ
name_fault_text (fault.DuplicateName name first second) =
    if bytes_eq first.file second.file
    then between (codes "name '") name (codes "' is defined twice")
    else between (codes "name '") name
    (between (codes "' is already defined in file '") first.file (codes "'"))
name_fault_text (fault.DuplicateFieldJsonName name _ _) =
    between (codes "a field with JSON name '") name (codes "' is already defined")
name_fault_text (fault.DuplicateFieldCamelCaseName first second _ _) =
    between (codes "camel-case name of field '") first
    (between (codes "' conflicts with field '") second (codes "'"))
name_fault_text other = reference_fault_text other

-- the text of a fault: of files and their parts, or else of a name
abbrev pub fault_text : DescriptorErrorKind → List ℕ
fault_text (fault.MissingRequiredField label) =
    codes "missing required field at " ++ path_text label.path
fault_text (fault.UnknownSyntax syntax _) = between (codes "unknown syntax '") syntax (codes "'")
fault_text (fault.DuplicateFileName name) =
    between (codes "a different file named '") name (codes "' has already been added")
fault_text (fault.FileNotFound name _) =
    between (codes "imported file '") name (codes "' has not been added")
fault_text fault.InvalidImportIndex = codes "invalid import index"
fault_text fault.InvalidOneofIndex = codes "invalid oneof index"
fault_text (fault.EmptyEnum _) = codes "enums must have at least one value"
fault_text (fault.InvalidProto3EnumDefault _) = codes "the first value for proto3 enums must be 0"
fault_text other = name_fault_text other

-- a line and a column as they are printed, each before a colon
abbrev pub line_text : ℤ → ℤ → List ℕ
line_text line column =
    between (signed_decimal line) (codes ":") (signed_decimal column ++ codes ":")

-- the line and the column at which a span begins, which count from 1 here
abbrev pub span_text : List ℤ → List ℕ
span_text span = line_text (slice_index_or span 0 (pos 0) +ℤ pos 1)
    (slice_index_or span 1 (pos 0) +ℤ pos 1)

-- the file of a label, with the line and the column if they are known
abbrev pub place_text : Label → List ℕ
place_text label = between label.file (codes ":") (option_map_or span_text label.span [])

-- a fault behind the label that it shows: the file, the line and the column, if they are known,
-- each with a colon, a space, and the text; or the text alone where no label is shown
abbrev pub labelled_text : DescriptorErrorKind → List ℕ
labelled_text kind = option_map_or (λ label. place_text label ++ codes " ") (shown_label kind) []
    ++ fault_text kind

-- the first of some faults, if there is one
abbrev first_fault : List DescriptorErrorKind → Option DescriptorErrorKind
first_fault faults = slice_get faults 0

-- the label that the first of some faults shows
abbrev pub first_label : List DescriptorErrorKind → Option Label
first_label faults = option_and_then shown_label (first_fault faults)

-- the text of the first of some faults
abbrev pub first_text : List DescriptorErrorKind → List ℕ
first_text faults = option_map_or fault_text (first_fault faults) []

-- the text of the first of some faults behind the label that it shows
abbrev pub first_labelled_text : List DescriptorErrorKind → List ℕ
first_labelled_text faults = option_map_or labelled_text (first_fault faults) []

-- a fault behind the label that it shows, behind a line feed
abbrev pub further_line : DescriptorErrorKind → List ℕ
further_line kind = 10 ∷ labelled_text kind

-- faults behind the labels that they show, with a line feed between each two
abbrev pub all_labelled_text : List DescriptorErrorKind → List ℕ
all_labelled_text [] = []
all_labelled_text (kind ∷ kinds) = labelled_text kind ++ flat_map further_line kinds
