-- Messages in messages, level by level.
use Rattle.std.proofs.Common.{◌≡◌, ℕ, zero, suc, List, refl, ap}
use Rattle.proto_types.specs.declared.message.DescriptorProto.{DescriptorProto}
use Rattle.descriptor_decoding.specs.Merging.{Merge, merged_from, within}
use Rattle.descriptor_decoding.specs.Parts.{inner_merged}
use Rattle.descriptor_decoding.specs.Messages.{message_merged_at, message_at}

pub level : (levels : ℕ) → message_at levels ≡ message_merged_at levels
unfolding message_merged_at
level zero = refl
level (suc levels) = refl

pub next_level : (levels left ends : ℕ) (bytes : List ℕ) (m : DescriptorProto) → levels ≡ suc left → merged_from left (message_at left) ends bytes m ≡ inner_merged (within levels message_merged_at) ends bytes m
next_level levels left ends bytes m some = rw some (ap (λ (merge : Merge DescriptorProto). merged_from left merge ends bytes m) (level left))
