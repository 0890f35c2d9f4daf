-- What a growing pool had before is how much a roll-back leaves, and its new files are those behind that.
use Rattle.std.proofs.Common.{◌≡◌, ◌-◌, ℕ, List, ◌++◌, length, map, take, drop, ap, sym, ◌∙◌, arith}
use Rattle.std.proofs.Math.Seq.{drop-append_seam}
use Rattle.std.proofs.lemmas.List.{drop-map, length-drop, length-take-le, take_all}
use Rattle.pool_types.specs.declared.contents.file.FileDescriptorInner.{FileDescriptorInner}
use Rattle.proto_types.specs.declared.file.FileDescriptorProto.{FileDescriptorProto}
use Rattle.record_walk.specs.Counts.{counts_in}
use Rattle.pool_contents.specs.declared.growing.GrowingPool.{GrowingPool}
use Rattle.pool_contents.specs.Growing.{rolled_back, records_from}

base-is : (p : GrowingPool) → counts_in (rolled_back p) ≡ p.base
base-is p = λ i. record {
  files = length-take-le p.base.files p.inner.files.items p.files_within i;
  messages = length-take-le p.base.messages p.inner.messages.items p.messages_within i;
  enums = length-take-le p.base.enums p.inner.enums.items p.enums_within i;
  services = length-take-le p.base.services p.inner.services.items p.services_within i;
  extensions = length-take-le p.base.extensions p.inner.extensions.items p.extensions_within i;
}

-- so it stays where that stays
pub same-base : (p q : GrowingPool) → rolled_back q ≡ rolled_back p → q.base ≡ p.base
same-base p q kept = sym (base-is q) ∙ ap counts_in kept ∙ base-is p

-- the rest of a list from a position on
slice-rest : {X : Type 0} (n : ℕ) (xs : List X) → take (length xs - n) (drop n xs) ≡ drop n xs
slice-rest n xs = take_all (length xs - n) (drop n xs) (omega (arith, length-drop n xs))

pub rest-records : (n : ℕ) (xs fs : List FileDescriptorInner) → xs ≡ fs → map (λ f. f.raw) (take (length xs - n) (drop n xs)) ≡ records_from n fs
rest-records n xs fs same = ap (map (λ f. f.raw)) (slice-rest n xs) ∙ ap (records_from n) same

-- the records of new files, behind those of a pool
pub new-of : (first : ℕ) (fs : List FileDescriptorInner) (old new : List FileDescriptorProto) → first ≡ length old → map (λ f. f.raw) fs ≡ old ++ new → records_from first fs ≡ new
new-of first fs old new first-is is = sym (drop-map (λ f. f.raw) first fs) ∙ (λ i. drop (first-is i) (is i)) ∙ drop-append_seam old new
