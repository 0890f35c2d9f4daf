-- Where counts fit there is room.
use Rattle.std.proofs.Common.{Option, Some, None, ◌≡◌, suc, Bool, true, false, IsOk, List, ◌∷◌, cond, refl, ap, sym, subst, ◌∙◌, arith, rules}
use Rattle.std.specs.List.{list_all}
use Rattle.std.specs.declared.result.Result.{Result}
use Rattle.std.specs.declared.result.Result.TheVariants.{Err}
use Rattle.record_walk.specs.declared.counts.CountKind.{CountKind}
use Rattle.std.proofs.lemmas.Bool.Decides.{nat_tests}
use Rattle.record_walk.specs.declared.counts.Counts.{Counts}
use Rattle.record_walk.specs.declared.counts.CountKind.TheVariants.{ListTooLong}
use Rattle.proto_types.specs.declared.file.FileDescriptorProto.{FileDescriptorProto}
use Rattle.record_walk.specs.Protos.{of_file}
use Rattle.record_walk.specs.Shown.{Shown}
use Rattle.record_walk.specs.Counts.{no_counts, counted, counting, plus, within_limit, added_to, counts_of, lists_fit}
use Rattle.record_walk.specs.Fits.{counts_with}
use Rattle.record_walk.specs.Declarations.{declarations}
use Rattle.record_walk.specs.Totals.{tally}
use Rattle.record_walk.specs.Walking.{WithinLimits, Room}
use Rattle.record_walk.proofs.Counted.{counted-plus, counts_are}
use Rattle.record_walk.proofs.Tallies.{declarations-tally}
use Rattle.record_walk.proofs.Listings.{second-true}

-- sums within the limit are within the limits
within-sum : (base c : Counts) → IsOk (added_to base (within_limit c)) → WithinLimits (plus base c)
within-sum base c ok = record {
  files = grind (arith, nat_tests);
  messages = grind (arith, nat_tests);
  enums = grind (arith, nat_tests);
  services = grind (arith, nat_tests);
  extensions = grind (arith, nat_tests);
}

room-by : (base : Counts) (ds : List Shown) (short : Bool) → list_all (λ d. lists_fit d.proto) ds ≡ short
    → IsOk (added_to base (cond short (within_limit (counted no_counts ds)) (Err ListTooLong))) → Room base ds
room-by base ds true short ok = record {
  short = short;
  within = subst WithinLimits (sym (counted-plus base ds)) (within-sum base (counted no_counts ds) ok);
}
room-by base ds false short ok = absurd (search rules)

room-of : (base : Counts) (ds : List Shown) → IsOk (added_to base (counts_of ds)) → Room base ds
room-of base ds ok = room-by base ds (list_all (λ d. lists_fit d.proto) ds) refl ok

-- a file that is counted behind what it declares is counted as it is before it
pub counted-file : (base : Counts) (f : FileDescriptorProto) (ds : List Shown)
    → record (counted base ds) { files = suc (counted base ds).files } ≡ counted (counting base (of_file f)) ds
counted-file base f ds =
    ap (λ (c : Counts). record c { files = suc c.files }) (counted-plus base ds)
    ∙ counts_are _ _ (omega arith) refl refl refl refl
    ∙ sym (counted-plus (counting base (of_file f)) ds)

-- where there is room for a file and what it declares, there is room for what it declares
pub room-within : (base : Counts) (f : FileDescriptorProto) (d : Shown) (ds : List Shown) → d.proto ≡ of_file f → Room base (d ∷ ds) → Room base ds
room-within base f d ds is room =
    let within : WithinLimits (record (counted base ds) { files = suc (counted base ds).files }) =
    subst WithinLimits (ap (λ p. counted (counting base p) ds) is ∙ sym (counted-file base f ds)) room.within in
    record {
      short = second-true (lists_fit d.proto) _ room.short;
      within = record {
        files = omega (arith, within.files);
        messages = within.messages;
        enums = within.enums;
        services = within.services;
        extensions = within.extensions;
      };
    }

-- counts that a pool can hold, or what there is too much of
abbrev within : Option Counts → Result Counts CountKind
within (Some c) = within_limit c
within None = Err ListTooLong

counts_of-tally : (ds : List Shown) → counts_of ds ≡ within (tally ds)
counts_of-tally ds = elim (list_all (λ d. lists_fit d.proto) ds) as (λ b. cond b (within_limit (counted no_counts ds)) (Err ListTooLong) ≡ within (cond b (Some (counted no_counts ds)) None))
    [ true ↦ refl | false ↦ refl ]

-- the counts of files do not go by where the indexes begin
counts_of-files : (base : Counts) (fs : List FileDescriptorProto) → counts_of (declarations no_counts fs) ≡ counts_of (declarations base fs)
counts_of-files base fs =
    counts_of-tally (declarations no_counts fs) ∙ ap within (declarations-tally no_counts fs ∙ sym (declarations-tally base fs))
    ∙ sym (counts_of-tally (declarations base fs))

pub room-fits : (base : Counts) (fs : List FileDescriptorProto) → IsOk (counts_with base fs) → Room base (declarations base fs)
room-fits base fs ok = room-of base (declarations base fs) (subst (λ r. IsOk (added_to base r)) (counts_of-files base fs) ok)
