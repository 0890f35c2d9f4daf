-- What one of some files declares fits into a pool, where what all of them declare does.
use Rattle.std.proofs.Common.{◌≡◌, Bool, true, false, cond, IsOk, Option, Some, None, List, [], ◌∷◌, ap, sym, subst, ◌∙◌, arith}
use Rattle.std.specs.List.{list_all, find}
use Rattle.std.specs.declared.result.Result.TheVariants.{Err}
use Rattle.std.proofs.lemmas.Bool.Decides.{nat_tests}
use Rattle.proto_types.specs.declared.file.FileDescriptorProto.{FileDescriptorProto}
use Rattle.record_walk.specs.declared.counts.Counts.{Counts}
use Rattle.record_walk.specs.declared.counts.CountKind.TheVariants.{ListTooLong}
use Rattle.record_walk.specs.Counts.{no_counts, counted, lists_fit, added_to, within_limit}
use Rattle.record_walk.specs.Declarations.{declarations}
use Rattle.record_walk.specs.Fits.{counts_with}
use Rattle.record_walk.specs.Walking.{WithinLimits}
use Rattle.record_walk.proofs.Counted.{both}
use Rattle.record_walk.proofs.Room.{room-fits}
use Rattle.record_walk.proofs.Tallies.{file_tally, files_tally, declarations-tally}

-- there are counts, and a pool can hold them
abbrev CanHold : Option Counts → Type 0
CanHold (Some c) = WithinLimits c
CanHold None = ⊥

hold-parts : (a b : Option Counts) → CanHold (both a b) → CanHold a × CanHold b
hold-parts (Some a) (Some b) h = (
  record { files = omega (arith, h.files); messages = omega (arith, h.messages); enums = omega (arith, h.enums); services = omega (arith, h.services); extensions = omega (arith, h.extensions) },
  record { files = omega (arith, h.files); messages = omega (arith, h.messages); enums = omega (arith, h.enums); services = omega (arith, h.services); extensions = omega (arith, h.extensions) },
)
hold-parts (Some a) None h = absurd h
hold-parts None b h = absurd h

-- the counts of files that fit
hold-all : (fs : List FileDescriptorProto) → IsOk (counts_with no_counts fs) → CanHold (files_tally fs)
hold-all fs fit =
    let ds = declarations no_counts fs in
    let room = room-fits no_counts fs fit in
    subst CanHold (ap (λ b. cond b (Some (counted no_counts ds)) None) (sym room.short) ∙ declarations-tally no_counts fs) room.within

fit-by : (short : Bool) (c : Counts) → CanHold (cond short (Some c) None) → IsOk (added_to no_counts (cond short (within_limit c) (Err ListTooLong)))
fit-by true c h = grind (arith, nat_tests, h.files, h.messages, h.enums, h.services, h.extensions)
fit-by false c h = absurd h

fit-all : (fs : List FileDescriptorProto) → CanHold (files_tally fs) → IsOk (counts_with no_counts fs)
fit-all fs h =
    let ds = declarations no_counts fs in
    fit-by (list_all (λ d. lists_fit d.proto) ds) (counted no_counts ds) (subst CanHold (sym (declarations-tally no_counts fs)) h)

alone-held : (a : Option Counts) → CanHold a → CanHold (both a (Some no_counts))
alone-held (Some a) h = record { files = omega (arith, h.files); messages = omega (arith, h.messages); enums = omega (arith, h.enums); services = omega (arith, h.services); extensions = omega (arith, h.extensions) }
alone-held None h = absurd h

some-is : {X : Type 0} (a b : X) → Some a ≡ Some b → a ≡ b
some-is a b e = cc

none-some : {X : Type 0} (b : X) → None ≡ Some b → ⊥
none-some b e = cc

-- one that is found among files has counts that can be held, where theirs can
found-held : (test : FileDescriptorProto → Bool) (fs : List FileDescriptorProto) (f : FileDescriptorProto) → find test fs ≡ Some f → CanHold (files_tally fs) → CanHold (file_tally f)
found-held test [] f is h = absurd (none-some f is)
found-held test (g ∷ gs) f is h =
    let parts = hold-parts (file_tally g) (files_tally gs) h in
    (elim (test g) as (λ b. cond b (Some g) (find test gs) ≡ Some f → CanHold (file_tally f)) [
      | true ↦ λ same. subst (λ k. CanHold (file_tally k)) (some-is g f same) parts.0
      | false ↦ λ later. found-held test gs f later parts.1
    ]) is

pub one-fits : (test : FileDescriptorProto → Bool) (fs : List FileDescriptorProto) (f : FileDescriptorProto)
    → Some f ≡ find test fs → IsOk (counts_with no_counts fs) → IsOk (counts_with no_counts (f ∷ []))
one-fits test fs f is fit = fit-all (f ∷ []) (alone-held (file_tally f) (found-held test fs f (sym is) (hold-all fs fit)))
