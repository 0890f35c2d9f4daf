-- The names of messages and enums, one message after another.
use Rattle.std.proofs.Common.{◌≡◌, ℕ, suc, ◌+◌, ◌<◌, ℤ, List, [], ◌∷◌, ◌++◌, length, take, get_or, refl, ap, sym, ◌∙◌, append-nil}
use Rattle.proto_types.specs.Names.{join}
use Rattle.proto_types.specs.Readers.{text_of}
use Rattle.proto_types.specs.declared.file.FileDescriptorProto.{FileDescriptorProto}
use Rattle.proto_types.specs.declared.message.DescriptorProto.{DescriptorProto, out-DescriptorProto}
use Rattle.proto_types.specs.declared.records.enumeration.EnumDescriptorProto.{EnumDescriptorProto}
use Rattle.proto_types.specs.declared.tag.file.TheConstants as file
use Rattle.proto_types.specs.declared.tag.message.TheConstants as message
use Rattle.record_walk.specs.Counts.{no_counts}
use Rattle.record_walk.specs.Declarations.{declarations, file_walk, messages_walk}
use Rattle.record_walk.specs.Protos.{Proto, name_of}
use Rattle.record_walk.specs.Shown.{Shown, Surrounding}
use Rattle.verdict_texts.specs.Known.{site, type_name, type_names}
use Rattle.verdict_texts.specs.Named.{enum_names, message_types, types_in}
use Rattle.verdict_texts.proofs.Walks.{enums-given, file-gives, message-given, messages-give, messages-given, walked-next}

abbrev full : Shown → List ℕ
full d = d.full_name

abbrev around : Surrounding → List ℕ
around here = here.scope

abbrev inner : List ℕ → ℤ → ℕ → Proto → List ℕ
inner scope _ _ p = join scope (name_of p)

enums-named : (scope : List ℕ) (tag : ℤ) (position : ℕ) (es : List EnumDescriptorProto)
    → enums-given full around inner type_name (λ _ _ _ _ _. refl) (λ _. refl) scope tag position es ≡ enum_names scope es
enums-named scope tag position [] = refl
enums-named scope tag position (e ∷ es) = ap (λ names. join scope (text_of e.name) ∷ names) (enums-named scope tag (suc position) es)

messages-named : (here : Surrounding) (tag : ℤ) (ms : List DescriptorProto)
    → type_names (messages_walk here tag 0 no_counts ms) ≡ messages-given full around inner type_name (λ _ _ _ _ _. refl) (λ _. refl) here.scope tag 0 ms
messages-named here tag ms =
    messages-give full around inner type_name (λ _ _ _ _ _. refl) (λ _. refl)
    (λ _ _. refl) (λ _ _. refl) (λ _ _. refl) (λ _ _. refl) (λ _ _. refl) (λ _ _. refl) here tag 0 no_counts ms

-- the number of a list and positions in it change no name
tags-alike : (scope : List ℕ) (a b : ℤ) (i j : ℕ) (ms : List DescriptorProto)
    → messages-given full around inner type_name (λ _ _ _ _ _. refl) (λ _. refl) scope a i ms ≡ messages-given full around inner type_name (λ _ _ _ _ _. refl) (λ _. refl) scope b j ms
tags-alike scope a b i j [] = refl
tags-alike scope a b i j (m ∷ ms) =
    ap (λ names. message-given full around inner type_name (λ _ _ _ _ _. refl) (λ _. refl) (join scope (text_of (out-DescriptorProto m).name)) m ++ names)
    (tags-alike scope a b (suc i) (suc j) ms)

in-list : (scope : List ℕ) (tag : ℤ) (ms : List DescriptorProto)
    → messages-given full around inner type_name (λ _ _ _ _ _. refl) (λ _. refl) scope tag 0 ms ≡ types_in scope ms
in-list scope tag ms = tags-alike scope tag message.NESTED_TYPE 0 0 ms ∙ sym (messages-named (site [] scope) message.NESTED_TYPE ms)

-- the names of a file, and those of its declarations
pub file-named : (f : FileDescriptorProto) → let scope = text_of f.«package» in
    type_names (declarations no_counts (f ∷ [])) ≡ types_in scope f.message_type ++ enum_names scope f.enum_type
file-named f =
    let scope = text_of f.«package» in
    ap type_names (append-nil (file_walk no_counts f))
    ∙ file-gives full around inner type_name (λ _ _ _ _ _. refl) (λ _. refl)
    (λ _ _. refl) (λ _ _. refl) (λ _ _. refl) (λ _ _. refl) (λ _ _. refl) (λ _ _. refl) no_counts f
    ∙ (λ i. in-list scope file.MESSAGE_TYPE f.message_type i ++ enums-named scope file.ENUM_TYPE 0 f.enum_type i)

-- the names of the messages of a list up to a position, and those of the one there
pub types-next : (scope : List ℕ) (ms : List DescriptorProto) (i : ℕ) (x : DescriptorProto) → i < length ms → x ≡ get_or ms i x
    → types_in scope (take (i + 1) ms) ≡ types_in scope (take i ms) ++ message_types (join scope (text_of (out-DescriptorProto x).name)) x
types-next scope ms i x below is =
    let name = join scope (text_of (out-DescriptorProto x).name) in
    walked-next full around inner type_name (λ _ _ _ _ _. refl) (λ _. refl)
    (λ _ _. refl) (λ _ _. refl) (λ _ _. refl) (λ _ _. refl) (λ _ _. refl) (λ _ _. refl) (site [] scope) message.NESTED_TYPE ms i x below is
    ∙ ap (λ names. types_in scope (take i ms) ++ name ∷ names)
    (λ j. in-list name message.NESTED_TYPE (out-DescriptorProto x).nested_type j
    ++ enums-named name message.ENUM_TYPE 0 (out-DescriptorProto x).enum_type j)
