-- What made contents are stored as makes them again.
use Rattle.std.proofs.Common.{◌≡◌, ◌<◌, ◌^◌, length, Ok, refl, subst, sym}
use Rattle.proto_types.specs.declared.file.FileDescriptorSet.{FileDescriptorSet}
use Rattle.descriptor_decoding.specs.Decoding.{file_set_of}
use Rattle.descriptor_encoding.specs.Encoding.{set_encoding}
use Rattle.descriptor_encoding.specs.Whole.{IsSet}
use Rattle.pool_types.specs.Contents.{Contents, files_of, no_contents}
use Rattle.descriptor_pool.specs.Pool.{Batch, Made, empty, linked_to}
use Rattle.pool_laws.specs.Laws.{Relinks}
use Rattle.pool_laws.proofs.Relinked.{relinked}
use Rattle.stored_pools.specs.Stored.{AreWhole, LinkedIsLoaded, MakesPool, set_of, stored}
use Rattle.stored_pools.proofs.Linked.{linked-whole}

-- a whole set is read as it was written
abbrev pub WrittenIsRead : Type 0
WrittenIsRead = (set : FileDescriptorSet) → IsSet 100 set → length (set_encoding set) < 2 ^ 64 → file_set_of (set_encoding set) ≡ Ok set

pub makes-pool : WrittenIsRead → (p : Contents) → Relinks p → AreWhole (files_of p) → length (stored p) < 2 ^ 64 → MakesPool (stored p) p
makes-pool written p again whole short = record {
  set = set_of (files_of p);
  read = written (set_of (files_of p)) whole short;
  linked = record { fits = again.1; accepted = again.0; is = sym again.2 };
}

-- a batch of whole files that is linked from nothing makes contents that are stored as what makes
-- them again
pub linked-loaded : WrittenIsRead → LinkedIsLoaded
linked-loaded written batch whole p linked short =
    let made : Made p = linked_to batch (empty refl) linked.accepted linked.fits linked.is in
    let are : AreWhole (files_of p) = subst (λ q. AreWhole (files_of q)) (sym linked.is) (linked-whole no_contents refl (record { file = tt }) batch whole) in
    makes-pool written p (relinked p made) are short
