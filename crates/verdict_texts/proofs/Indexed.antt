-- The indexes that are no positions, one message after another.
use Rattle.std.proofs.Common.{◌≡◌, ℕ, suc, ◌+◌, ◌<◌, ℤ, List, [], ◌∷◌, ◌++◌, length, take, get_or, refl, ap, sym, ◌∙◌, append-nil, append_assoc}
use Rattle.proto_types.specs.Paths.{entry_path}
use Rattle.proto_types.specs.declared.file.FileDescriptorProto.{FileDescriptorProto}
use Rattle.proto_types.specs.declared.message.DescriptorProto.{DescriptorProto, out-DescriptorProto}
use Rattle.proto_types.specs.declared.records.enumeration.EnumDescriptorProto.{EnumDescriptorProto}
use Rattle.proto_types.specs.declared.tag.file.TheConstants as file
use Rattle.proto_types.specs.declared.tag.message.TheConstants as message
use Rattle.record_walk.specs.Counts.{no_counts}
use Rattle.record_walk.specs.Declarations.{declarations, file_walk}
use Rattle.record_walk.specs.Protos.{Proto}
use Rattle.record_walk.specs.Shown.{Shown, Surrounding}
use Rattle.verdict_texts.specs.Known.{site}
use Rattle.verdict_texts.specs.Places.{indexes_in, indexes_of, message_indexes, messages_indexes, outside_imports, outside_oneofs}
use Rattle.verdict_texts.proofs.Walks.{enums-given, file-gives, messages-give, messages-given, walked-next}

abbrev path-of : Shown → List ℤ
path-of d = d.path

abbrev around : Surrounding → List ℤ
around here = here.path

abbrev inner : List ℤ → ℤ → ℕ → Proto → List ℤ
inner path tag position _ = entry_path path tag position

no-enums : (path : List ℤ) (tag : ℤ) (position : ℕ) (es : List EnumDescriptorProto)
    → enums-given path-of around inner indexes_of (λ _ _ _ _ _. refl) (λ _. refl) path tag position es ≡ []
no-enums path tag position [] = refl
no-enums path tag position (e ∷ es) = no-enums path tag (suc position) es

in-list : (path : List ℤ) (tag : ℤ) (ms : List DescriptorProto)
    → messages-given path-of around inner indexes_of (λ _ _ _ _ _. refl) (λ _. refl) path tag 0 ms ≡ messages_indexes path tag ms
in-list path tag ms =
    sym (messages-give path-of around inner indexes_of (λ _ _ _ _ _. refl) (λ _. refl)
    (λ _ _. refl) (λ _ _. refl) (λ _ _. refl) (λ _ _. refl) (λ _ _. refl) (λ _ _. refl) (site path []) tag 0 no_counts ms)

-- those of a file's imports, and then those in its messages
pub file-indexed : (f : FileDescriptorProto) → indexes_in (declarations no_counts (f ∷ []))
    ≡ (outside_imports f.dependency file.PUBLIC_DEPENDENCY f.public_dependency ++ outside_imports f.dependency file.WEAK_DEPENDENCY f.weak_dependency)
    ++ messages_indexes [] file.MESSAGE_TYPE f.message_type
file-indexed f =
    ap indexes_in (append-nil (file_walk no_counts f))
    ∙ file-gives path-of around inner indexes_of (λ _ _ _ _ _. refl) (λ _. refl)
    (λ _ _. refl) (λ _ _. refl) (λ _ _. refl) (λ _ _. refl) (λ _ _. refl) (λ _ _. refl) no_counts f
    ∙ ap (λ ys. (outside_imports f.dependency file.PUBLIC_DEPENDENCY f.public_dependency ++ outside_imports f.dependency file.WEAK_DEPENDENCY f.weak_dependency) ++ ys)
    ((λ i. in-list [] file.MESSAGE_TYPE f.message_type i ++ no-enums [] file.ENUM_TYPE 0 f.enum_type i) ∙ append-nil (messages_indexes [] file.MESSAGE_TYPE f.message_type))

messages-last : (path : List ℤ) (tag : ℤ) (ms : List DescriptorProto) (i : ℕ) (x : DescriptorProto) → i < length ms → x ≡ get_or ms i x
    → messages_indexes path tag (take (i + 1) ms) ≡ messages_indexes path tag (take i ms) ++ message_indexes (entry_path path tag i) x
messages-last path tag ms i x below is =
    let at = entry_path path tag i in
    walked-next path-of around inner indexes_of (λ _ _ _ _ _. refl) (λ _. refl)
    (λ _ _. refl) (λ _ _. refl) (λ _ _. refl) (λ _ _. refl) (λ _ _. refl) (λ _ _. refl) (site path []) tag ms i x below is
    ∙ ap (λ ys. messages_indexes path tag (take i ms) ++ (outside_oneofs x at ++ ys))
    ((λ j. in-list at message.NESTED_TYPE (out-DescriptorProto x).nested_type j ++ no-enums at message.ENUM_TYPE 0 (out-DescriptorProto x).enum_type j)
    ∙ append-nil (messages_indexes at message.NESTED_TYPE (out-DescriptorProto x).nested_type))

-- those in the messages of a list up to a position, and those in the one there
pub messages-next : (start paths : List (List ℤ)) (path : List ℤ) (tag : ℤ) (ms : List DescriptorProto) (i : ℕ) (x : DescriptorProto) → i < length ms → x ≡ get_or ms i x
    → paths ≡ start ++ messages_indexes path tag (take i ms)
    → paths ++ message_indexes (entry_path path tag i) x ≡ start ++ messages_indexes path tag (take (i + 1) ms)
messages-next start paths path tag ms i x below is so_far =
    ap (λ ys. ys ++ message_indexes (entry_path path tag i) x) so_far
    ∙ append_assoc start (messages_indexes path tag (take i ms)) (message_indexes (entry_path path tag i) x)
    ∙ ap (λ ys. start ++ ys) (sym (messages-last path tag ms i x below is))
