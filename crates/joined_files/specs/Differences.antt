-- The first part at which two files differ, apart from the places of their parts in a source.
use Rattle.std.specs.Prelude.{◌≡◌, ◌↔◌, ℕ, ◌+◌, Bool, ◌&&◌, List, [], ◌∷◌, nat_eq, if◌then◌else◌}
use Rattle.std.specs.Cmp.Lexicographic.{pointwise}
use Rattle.std.specs.Option.{option_eq, option_map, option_or}
use Rattle.std.specs.Ordering.{int_eq}
use Rattle.std.specs.declared.option.Option.{Option}
use Rattle.std.specs.declared.option.Option.TheVariants.{None, Some}
use Rattle.proto_types.specs.declared.file.FileDescriptorProto.{FileDescriptorProto}
use Rattle.proto_types.specs.declared.records.options.Options.{Options}
use Rattle.proto_types.specs.declared.records.options.Unread.{Unread}
use Rattle.proto_types.specs.contracts.records.options.UnreadPartialEq.TheImpl as unread
use Rattle.proto_types.specs.contracts.records.field.FieldDescriptorProtoPartialEq.TheImpl as field
use Rattle.proto_types.specs.contracts.records.enumeration.EnumDescriptorProtoPartialEq.TheImpl as enumeration
use Rattle.proto_types.specs.contracts.records.service.ServiceDescriptorProtoPartialEq.TheImpl as service
use Rattle.proto_types.specs.contracts.message.DescriptorProtoPartialEq.TheImpl as message
use Rattle.joined_files.specs.Apart.{EqualApartFromPlaces}
use Rattle.joined_files.specs.declared.differences.FilePart.{FilePart}
use Rattle.joined_files.specs.declared.differences.FilePart.TheVariants as part

-- a part, unless it is equal in both files
abbrev pub unless_equal : Bool → FilePart → Option FilePart
unless_equal equal p = if equal then None else Some p

-- the position of the first entry at which two lists differ, or that one of them lacks, where the
-- first entry of both has this position
abbrev pub differs_from : {X : Type 0} → (X → X → Bool) → ℕ → List X → List X → Option ℕ
differs_from eq at [] [] = None
differs_from eq at [] (y ∷ ys) = Some at
differs_from eq at (x ∷ xs) [] = Some at
differs_from eq at (x ∷ xs) (y ∷ ys) =
    if eq x y then differs_from eq (at + 1) xs ys else Some at

-- whether two texts that may be missing are one
abbrev pub text_eq : Option (List ℕ) → Option (List ℕ) → Bool
text_eq = option_eq (pointwise nat_eq)

-- whether options that may be missing have the same bytes
abbrev pub options_eq : Option (Options Unread) → Option (Options Unread) → Bool
options_eq = option_eq
    (λ a b. pointwise nat_eq a.encoded b.encoded && unread.ghosts.eq a.value b.value)

-- the first difference in what stands before the declarations
abbrev pub head_difference : FileDescriptorProto → FileDescriptorProto → Option FilePart
head_difference f g =
    option_or (unless_equal (text_eq f.name g.name) part.Name)
    (option_or (unless_equal (text_eq f.«package» g.«package») part.Package)
    (option_map part.Import (differs_from (pointwise nat_eq) 0 f.dependency g.dependency)))

-- the first difference in the declarations
abbrev pub declared_difference : FileDescriptorProto → FileDescriptorProto → Option FilePart
declared_difference f g =
    option_or
    (option_map part.Message (differs_from message.ghosts.eq 0 f.message_type g.message_type))
    (option_or
    (option_map part.Enum (differs_from enumeration.ghosts.eq 0 f.enum_type g.enum_type))
    (option_or
    (option_map part.Service (differs_from service.ghosts.eq 0 f.service g.service))
    (option_map part.Extension (differs_from field.ghosts.eq 0 f.extension g.extension))))

-- the first difference in what stands behind the declarations, but for the places
abbrev pub tail_difference : FileDescriptorProto → FileDescriptorProto → Option FilePart
tail_difference f g =
    option_or (unless_equal (options_eq f.options g.options) part.Options)
    (option_or
    (option_map part.PublicImport (differs_from int_eq 0 f.public_dependency g.public_dependency))
    (option_or
    (option_map part.WeakImport (differs_from int_eq 0 f.weak_dependency g.weak_dependency))
    (unless_equal (text_eq f.syntax g.syntax) part.Syntax)))

-- the first part at which two files differ apart from their places, if there is one, in the order
-- of the numbers of descriptor.proto
unfoldable pub difference : FileDescriptorProto → FileDescriptorProto → Option FilePart
difference f g = option_or (head_difference f g) (option_or (declared_difference f g)
    (tail_difference f g))

-- law: there is no difference exactly where two files are equal apart from their places
abbrev pub DifferencesAreExact : Type 0
DifferencesAreExact =
    (f g : FileDescriptorProto) → (difference f g ≡ None) ↔ EqualApartFromPlaces f g
