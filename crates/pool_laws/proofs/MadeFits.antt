-- What made contents declare fits into a pool.
use Rattle.std.proofs.Common.{◌≡◌, Bool, true, false, cond, IsOk, length, ap, subst, sym, ◌∙◌, arith}
use Rattle.std.proofs.lemmas.Bool.Decides.{nat_tests}
use Rattle.std.specs.List.{list_all}
use Rattle.std.specs.declared.result.Result.TheVariants.{Err}
use Rattle.pool_types.specs.Contents.{Contents, files_of, no_contents}
use Rattle.record_walk.specs.Counts.{added_to, counted, counts_in, lists_fit, no_counts, within_limit}
use Rattle.record_walk.specs.Declarations.{declarations}
use Rattle.record_walk.specs.Fits.{counts_with}
use Rattle.record_walk.specs.Walking.{WithinLimits}
use Rattle.record_walk.specs.declared.counts.Counts.{Counts}
use Rattle.record_walk.specs.declared.counts.CountKind.TheVariants.{ListTooLong}
use Rattle.record_walk.proofs.Room.{room-fits}
use Rattle.descriptor_pool.specs.Build.{declared_with, setting_with, with_items, with_names}
use Rattle.descriptor_pool.specs.Pool.{Made, empty, linked_to, new_files}
use Rattle.descriptor_pool.proofs.Declared.{counts-with}
use Rattle.descriptor_pool.proofs.Listed.{counts-extended}
use Rattle.descriptor_pool.proofs.Sound.{made-sound}

none-within : WithinLimits (counts_in no_contents)
none-within = record { files = omega arith; messages = omega arith; enums = omega arith; services = omega arith; extensions = omega arith }

made-within : (p : Contents) → Made p → WithinLimits (counts_in p)
made-within p (empty is) = subst (λ q. WithinLimits (counts_in q)) (sym is) none-within
made-within p (linked_to {q = q} batch made accepts fits is) =
    let new = new_files q batch in
    let ds = declared_with q new in
    let items = with_items (with_names q ds) (setting_with q new) ds in
    let counts = ap counts_in is ∙ counts-extended (length q.extensions) items ∙ counts-with (with_names q ds) (setting_with q new) ds in
    subst WithinLimits (sym counts) (room-fits (counts_in q) new fits).within

fit-by : (c : Counts) (short : Bool) → short ≡ true → WithinLimits c → IsOk (added_to no_counts (cond short (within_limit c) (Err ListTooLong)))
fit-by c true is within = grind (arith, nat_tests, within.files, within.messages, within.enums, within.services, within.extensions)
fit-by c false is within = absurd (cc)

-- what the files of made contents declare fits into a pool
pub made_fits : (p : Contents) → Made p → IsOk (counts_with no_counts (files_of p))
made_fits p made =
    let ds = declarations no_counts (files_of p) in
    let sound = made-sound p made in
    fit-by (counted no_counts ds) (list_all (λ d. lists_fit d.proto) ds) sound.short (subst WithinLimits sound.known.counts_are (made-within p made))
