-- A batch without new files.
use Rattle.std.proofs.Common.{◌≡◌, ◌++◌, IsOk, List, [], length, drop, refl, ap, subst, sym, ◌∙◌, arith, append-nil}
use Rattle.std.proofs.lemmas.Bool.Decides.{nat_tests}
use Rattle.std.proofs.lemmas.List.{drop_all}
use Rattle.plain_data.specs.Each.{map_enumerated}
use Rattle.pool_types.specs.Contents.{Contents}
use Rattle.name_tables.proofs.Entries.{with-nothing}
use Rattle.record_walk.specs.Counts.{counts_in}
use Rattle.record_walk.specs.Fits.{counts_with}
use Rattle.record_walk.specs.Walking.{WithinLimits}
use Rattle.record_walk.specs.declared.counts.Counts.{Counts}
use Rattle.proto_types.specs.declared.file.FileDescriptorProto.{FileDescriptorProto}
use Rattle.descriptor_pool.specs.Build.{name_faults, reference_faults, with_batch}
use Rattle.pool_contents.specs.Extended.{extended_by}
use Rattle.descriptor_pool.specs.Outcome.{IsLinked}
use Rattle.descriptor_pool.specs.Pool.{Batch, new_files}
use Rattle.pool_contents.proofs.Extending.{extended-by-none}

-- counts within the limits stay so where nothing comes
few_fit : (c : Counts) → WithinLimits c → IsOk (counts_with c [])
few_fit c within = grind (arith, nat_tests, within.files, within.messages, within.enums, within.services, within.extensions)

-- no new extensions leave the messages as they are
listed : (p : Contents) → (with_batch p []).messages ≡ p.messages
listed p =
    let first = length p.extensions in
    let none : drop first (p.extensions ++ []) ≡ [] = ap (drop first) (append-nil p.extensions) ∙ drop_all first p.extensions (omega arith) in
    ap (λ xs. map_enumerated (extended_by first xs) 0 (p.messages ++ [])) none ∙ extended-by-none first (p.messages ++ []) ∙ append-nil p.messages

-- no new files leave the pool as it is
stays : (p : Contents) → p ≡ with_batch p []
stays p = λ i. record {
  files = sym (append-nil p.files) i;
  messages = sym (listed p) i;
  enums = sym (append-nil p.enums) i;
  services = sym (append-nil p.services) i;
  extensions = sym (append-nil p.extensions) i;
  names = sym (with-nothing p.names) i;
  file_names = sym (with-nothing p.file_names) i;
}

pub nothing_linked : (p : Contents) (batch : Batch) → new_files p batch ≡ [] → WithinLimits (counts_in p) → IsLinked p batch p
nothing_linked p batch none within =
    let Fits : List FileDescriptorProto → Type 0 = λ new. IsOk (counts_with (counts_in p) new) in
    let Accepts : List FileDescriptorProto → Type 0 = λ new. (name_faults p new ≡ []) × (reference_faults p new ≡ []) in
    record {
      fits = subst Fits (sym none) (few_fit (counts_in p) within);
      accepted = subst Accepts (sym none) (refl, refl);
      is = stays p ∙ ap (with_batch p) (sym none);
    }
