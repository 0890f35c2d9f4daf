-- A path that goes on from a message into a nested one.
use Rattle.std.proofs.Common.{◌≡◌, ℤ, pos, suc, ◌≤◌, ◌-◌, List, [], ◌∷◌, length, take, drop, slice_index_or, Some, ap, sym, ◌∙◌, arith}
use Rattle.std.proofs.lemmas.List.{take_all}
use Rattle.std.specs.Option.{option_and_then}
use Rattle.proto_types.specs.declared.message.DescriptorProto.{DescriptorProto, out-DescriptorProto}
use Rattle.proto_types.specs.declared.tag.message.TheConstants as message
use Rattle.plain_data.specs.Lists.{at}
use Rattle.record_walk.specs.Leads.{leads_in_message}

leads-nested : (m n : DescriptorProto) (position : ℤ) (rest : List ℤ) → at (out-DescriptorProto m).nested_type position ≡ Some n
    → leads_in_message m (message.NESTED_TYPE ∷ position ∷ rest) ≡ leads_in_message n rest
leads-nested m n position rest got = ap (option_and_then (λ k. leads_in_message k rest)) got

-- the same, where the path is read by its positions
pub leads-on : (m n : DescriptorProto) (path : List ℤ) → 2 ≤ length path → slice_index_or path 0 (pos 0) ≡ message.NESTED_TYPE
    → at (out-DescriptorProto m).nested_type (slice_index_or path 1 (pos 0)) ≡ Some n
    → leads_in_message m path ≡ leads_in_message n (take (length path - 2) (drop 2 path))
leads-on m n [] long tag got = absurd (omega arith)
leads-on m n (x ∷ []) long tag got = absurd (omega arith)
leads-on m n (x ∷ position ∷ rest) long tag got =
    let left : suc (suc (length rest)) - 2 ≡ length rest = omega arith in
    let whole : take (length (x ∷ position ∷ rest) - 2) rest ≡ rest = ap (λ k. take k rest) left ∙ take_all (length rest) rest (omega arith) in
    ap (λ y. leads_in_message m (y ∷ position ∷ rest)) tag ∙ leads-nested m n position rest got ∙ sym (ap (leads_in_message n) whole)
