-- What stands at a path that goes on from a message into a nested one.
use Rattle.std.proofs.Common.{◌≡◌, ℕ, ℤ, pos, suc, ◌≤◌, ◌-◌, List, [], ◌∷◌, length, take, drop, slice_index_or, Some, ap, sym, ◌∙◌, arith}
use Rattle.std.proofs.lemmas.List.{take_all}
use Rattle.std.specs.Option.{option_and_then, option_map_or}
use Rattle.proto_types.specs.Names.{join}
use Rattle.proto_types.specs.declared.message.DescriptorProto.{DescriptorProto, out-DescriptorProto}
use Rattle.proto_types.specs.declared.tag.message.TheConstants as message
use Rattle.plain_data.specs.Lists.{at}
use Rattle.verdict_texts.specs.Elements.{element_in_message, message_name}
use Rattle.verdict_texts.specs.Indexes.{oneof_index}

element-nested : (full : List ℕ) (m n : DescriptorProto) (position : ℤ) (rest : List ℤ) → at (out-DescriptorProto m).nested_type position ≡ Some n
    → element_in_message full m (message.NESTED_TYPE ∷ position ∷ rest) ≡ element_in_message (join full (message_name n)) n rest
element-nested full m n position rest got =
    ap (λ found. option_map_or (λ k. element_in_message (join full (message_name k)) k rest) found full) got

-- the same, where the path is read by its positions
pub element-on : (full inner : List ℕ) (m n : DescriptorProto) (path : List ℤ) → 2 ≤ length path → slice_index_or path 0 (pos 0) ≡ message.NESTED_TYPE
    → at (out-DescriptorProto m).nested_type (slice_index_or path 1 (pos 0)) ≡ Some n → inner ≡ join full (message_name n)
    → element_in_message inner n (take (length path - 2) (drop 2 path)) ≡ element_in_message full m path
element-on full inner m n [] long tag got name = absurd (omega arith)
element-on full inner m n (x ∷ []) long tag got name = absurd (omega arith)
element-on full inner m n (x ∷ position ∷ rest) long tag got name =
    let left : suc (suc (length rest)) - 2 ≡ length rest = omega arith in
    let whole : take (length (x ∷ position ∷ rest) - 2) rest ≡ rest = ap (λ k. take k rest) left ∙ take_all (length rest) rest (omega arith) in
    ap (element_in_message inner n) whole ∙ ap (λ k. element_in_message k n rest) name ∙ sym (element-nested full m n position rest got)
    ∙ sym (ap (λ y. element_in_message full m (y ∷ position ∷ rest)) tag)

oneof-nested : (m n : DescriptorProto) (position : ℤ) (rest : List ℤ) → at (out-DescriptorProto m).nested_type position ≡ Some n
    → oneof_index m (message.NESTED_TYPE ∷ position ∷ rest) ≡ oneof_index n rest
oneof-nested m n position rest got = ap (λ found. option_and_then (λ k. oneof_index k rest) found) got

-- the oneof index to which a path of a message leads, where it goes on into a nested one
pub oneof-on : (m n : DescriptorProto) (path : List ℤ) → 2 ≤ length path → slice_index_or path 0 (pos 0) ≡ message.NESTED_TYPE
    → at (out-DescriptorProto m).nested_type (slice_index_or path 1 (pos 0)) ≡ Some n
    → oneof_index n (take (length path - 2) (drop 2 path)) ≡ oneof_index m path
oneof-on m n [] long tag got = absurd (omega arith)
oneof-on m n (x ∷ []) long tag got = absurd (omega arith)
oneof-on m n (x ∷ position ∷ rest) long tag got =
    let left : suc (suc (length rest)) - 2 ≡ length rest = omega arith in
    let whole : take (length (x ∷ position ∷ rest) - 2) rest ≡ rest = ap (λ k. take k rest) left ∙ take_all (length rest) rest (omega arith) in
    ap (oneof_index n) whole ∙ sym (oneof-nested m n position rest got) ∙ sym (ap (λ y. oneof_index m (y ∷ position ∷ rest)) tag)
