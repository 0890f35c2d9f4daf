-- What is told of each rule, a row for each.
use Rattle.std.specs.Prelude.{ℕ, List, codes}
use Rattle.protoc_rules.specs.declared.faults.StrictKind.{StrictKind}
use Rattle.protoc_rules.specs.declared.faults.StrictKind.TheVariants as kind
use Rattle.protoc_rules.specs.declared.rules.StrictRule as code

-- what is told of a broken rule: its name, what stands behind the name of what breaks it, what
-- stands before the second place, and what to do
pub record ToldRule : Type 0 where
  pub code : List ℕ
  pub text : List ℕ
  pub second : List ℕ
  pub remedy : List ℕ

-- the same, as code has it
abbrev pub told_rule : code.StrictRule → ToldRule
told_rule r = record {
  code = r.code.now;
  text = r.text.now;
  second = r.second.now;
  remedy = r.remedy.now;
}

-- a rule without a second place
abbrev pub alone : List ℕ → List ℕ → List ℕ → ToldRule
alone code text remedy = record { code = code; text = text; second = codes ""; remedy = remedy }

-- a rule with a second place, by the words before it
abbrev pub beside : List ℕ → List ℕ → List ℕ → List ℕ → ToldRule
beside code text second remedy =
    record { code = code; text = text; second = second; remedy = remedy }

-- what to do about a type name that means something else than when its file was built
abbrev pub build_again : List ℕ
build_again =
    codes "where the file was built against another version of what it imports, build both again"

-- what is told of the rule that is broken
abbrev pub strict_rule : StrictKind → ToldRule
strict_rule kind.MissingFileName = alone (codes "MissingFileName")
    (codes "is no name of a file") (codes "give the file a name")
strict_rule kind.ImportCycle = alone (codes "ImportCycle")
    (codes "imports itself or a file that does, directly or through other files")
    (codes "leave out an import of the cycle; what two files both need can stand in a third")
strict_rule kind.DuplicateImport = beside (codes "DuplicateImport")
    (codes "imports a file twice") (codes "first imported at ")
    (codes "leave one of the imports out")
strict_rule kind.InvalidName = alone (codes "InvalidName")
    (codes "has a name that is no identifier") (codes "take ASCII letters, digits and underscores")
strict_rule kind.InvalidPackage = alone (codes "InvalidPackage")
    (codes "is in a package with a part that is no identifier")
    (codes "take ASCII letters, digits and underscores, and one dot between two parts")
strict_rule kind.DeepPackage = alone (codes "DeepPackage")
    (codes "is in a package of more than 101 parts") (codes "take fewer parts")
strict_rule kind.DeepMessage = alone (codes "DeepMessage") (codes "stands in 31 other messages")
    (codes "take it out of some of them")
strict_rule kind.TypeNameOfScalar = alone (codes "TypeNameOfScalar")
    (codes "has a type name, and the type of a number or a text") (codes "leave one of the two out")
strict_rule kind.NotAMessageType = alone (codes "NotAMessageType")
    (codes "is written as a message, and its type name means an enum") build_again
strict_rule kind.NotAnEnumType = alone (codes "NotAnEnumType")
    (codes "is written as an enum, and its type name means a message") build_again
strict_rule kind.RequiredInProto3 = alone (codes "RequiredInProto3")
    (codes "is required, in proto3")
    (codes "leave `required` out: fields of proto3 are optional or repeated")
strict_rule kind.DefaultInProto3 = alone (codes "DefaultInProto3")
    (codes "has a default, in proto3")
    (codes "leave it out: fields of proto3 have the default of their type")
strict_rule kind.GroupInProto3 = alone (codes "GroupInProto3") (codes "is a group, in proto3")
    (codes "take a field of a nested message, with a new number: it is written otherwise")
strict_rule kind.ClosedEnumInProto3 = alone (codes "ClosedEnumInProto3")
    (codes "has an enum of proto2 as its type, in proto3")
    (codes "take an enum of a file of proto3")
strict_rule kind.RepeatedDefault = alone (codes "RepeatedDefault")
    (codes "is repeated, and has a default") (codes "leave the default out")
strict_rule kind.PackedField = alone (codes "PackedField")
    (codes "is packed, and no list of numbers, truth values or enums") (codes "leave `packed` out")
strict_rule kind.Proto3OptionalInProto2 = alone (codes "Proto3OptionalInProto2")
    (codes "has proto3_optional, in proto2")
    (codes "leave it out: protoc sets it of fields of proto3 alone")
strict_rule kind.Proto3OptionalOneof = alone (codes "Proto3OptionalOneof")
    (codes "has proto3_optional, and no oneof for itself")
    (codes "give it a oneof that has no other field, as protoc does")
strict_rule kind.OneofFieldLabel = alone (codes "OneofFieldLabel")
    (codes "stands in a oneof, and is required or repeated")
    (codes "leave the label out, or take it out of the oneof")
strict_rule kind.FieldExtendee = alone (codes "FieldExtendee")
    (codes "names a message that it extends, and is no extension") (codes "leave the extendee out")
strict_rule kind.MapEntry = alone (codes "MapEntry")
    (codes "is of the entry of a map, which is not made as its own")
    (codes "declare it as `map<KEY, VALUE>`, which makes its entry")
strict_rule kind.MapKeyType = alone (codes "MapKeyType")
    (codes "is a map whose keys are neither whole numbers nor truth values nor strings")
    (codes "take keys of one of these types")
strict_rule kind.MapEnumValue = alone (codes "MapEnumValue")
    (codes "is a map whose values are of an enum that does not begin with 0")
    (codes "put the value of the enum with the number 0 first")
strict_rule kind.MessageSetField = alone (codes "MessageSetField")
    (codes "is a field of a message set")
    (codes "declare it as an extension: a message set has no fields")
strict_rule kind.MessageSetExtension = alone (codes "MessageSetExtension")
    (codes "extends a message set, and is no optional message")
    (codes "make it an optional field of a message")
strict_rule kind.RequiredExtension = alone (codes "RequiredExtension")
    (codes "is a required extension") (codes "make it optional")
strict_rule kind.ExtensionOneof = alone (codes "ExtensionOneof")
    (codes "is an extension, and has an index of a oneof") (codes "leave the index out")
strict_rule kind.ExtensionJsonName = alone (codes "ExtensionJsonName")
    (codes "is an extension, and has a JSON name that is not made of its name")
    (codes "leave the JSON name out")
strict_rule kind.ExtensionInProto3 = alone (codes "ExtensionInProto3")
    (codes "extends what is no message of options, in proto3")
    (codes "declare it in a file of proto2")
strict_rule kind.EmptyOneof = alone (codes "EmptyOneof") (codes "is a oneof without a field")
    (codes "give it a field, or leave it out")
strict_rule kind.ScatteredOneof = alone (codes "ScatteredOneof")
    (codes "is a oneof whose fields do not stand together")
    (codes "put its fields one behind another")
strict_rule kind.LateOneof = alone (codes "LateOneof")
    (codes "is a oneof behind one that is made for an optional field")
    (codes "put the oneofs of optional fields behind all others")
strict_rule kind.ClashingValues = beside (codes "ClashingValues")
    (codes "has two values whose names are one without the enum's name and in one case")
    (codes "the other one is declared at ") (codes "rename one, or give both one number")
strict_rule kind.ExtensionRangesInProto3 = alone (codes "ExtensionRangesInProto3")
    (codes "has extension ranges, in proto3")
    (codes "leave them out, or declare the message in a file of proto2")
strict_rule kind.MessageSetInProto3 = alone (codes "MessageSetInProto3")
    (codes "is a message set, in proto3") (codes "declare it in a file of proto2")
strict_rule kind.RangeNotPositive = alone (codes "RangeNotPositive")
    (codes "has a range that begins at 0 or below") (codes "begin it at 1 or above")
strict_rule kind.EmptyRange = alone (codes "EmptyRange")
    (codes "has a range that ends before it begins") (codes "write the lower number first")
strict_rule kind.RangePastMaximum = alone (codes "RangePastMaximum")
    (codes "has an extension range that goes past 536,870,911")
    (codes "end it there, as `max` does")
strict_rule kind.RangesOverlap = beside (codes "RangesOverlap")
    (codes "has two ranges with a number in common") (codes "the other one is declared at ")
    (codes "part them, or make one of both")
strict_rule kind.DuplicateReservedName = beside (codes "DuplicateReservedName")
    (codes "reserves a name twice") (codes "first reserved at ") (codes "leave one out")
strict_rule kind.ReservedName = beside (codes "ReservedName")
    (codes "has a field or a value with a reserved name") (codes "it is reserved at ")
    (codes "take another name")
