-- What checks find, one after another.
use Rattle.std.proofs.Common.{◌≡◌, List, [], ◌++◌, map, refl, ap, subst, ◌∙◌}
use Rattle.std.proofs.Math.Bool.{Bool-set}
use Rattle.std.proofs.Math.Path.{to_path_p}
use Rattle.pool_types.specs.declared.contents.file.FileDescriptorInner.{FileDescriptorInner}
use Rattle.pool_faults.specs.declared.fault.DescriptorErrorKind.{DescriptorErrorKind}
use Rattle.record_walk.specs.declared.faults.Faults.{Faults}
use Rattle.record_walk.specs.Short.{ShortFiles}
use Rattle.record_walk.specs.Faults.{Tells, named_files, told_in}
use Rattle.record_walk.specs.Telling.{with_faults}
use Rattle.record_walk.proofs.Telling.{told-two}

-- labels of the same files
pub same-labels : (faults : Faults) (labels : List FileDescriptorInner) (short : ShortFiles (map (λ f. f.raw) labels)) → labels ≡ faults.labels
    → record faults { labels = labels; short = short } ≡ faults
same-labels faults labels short is = λ i. record faults {
  labels = is i;
  short = to_path_p (λ j. ShortFiles (map (λ f. f.raw) (is j))) {a = short} {b = faults.short} (Bool-set _ _ _ faults.short) i;
}

-- no fault
pub tells-none : (found : Faults) → Tells found found []
tells-none found = record { told = refl; files = refl }

-- labels name the same files
pub same-files : {a b : Faults} {fs : List DescriptorErrorKind} → Tells a b fs → named_files b ≡ named_files a
same-files first = ap (λ files. map (λ f. f.raw) files) first.files

-- the same faults, as they are said otherwise
pub tells-as : {a b : Faults} {fs gs : List DescriptorErrorKind} → fs ≡ gs → Tells a b fs → Tells a b gs
tells-as {a} {b} is tells = subst (Tells a b) is tells

-- a check behind one that changes nothing
pub tells-from : {a b c : Faults} {fs : List DescriptorErrorKind} → b ≡ a → Tells b c fs → Tells a c fs
tells-from {c = c} {fs = fs} same tells = subst (λ found. Tells found c fs) same tells

-- two checks
pub tells-two : {a b c : Faults} {fs gs : List DescriptorErrorKind} → Tells a b fs → Tells b c gs → Tells a c (fs ++ gs)
tells-two {a} {b} {c} {fs} {gs} first second = record {
  told = second.told ∙ ap (λ told. with_faults told gs) first.told ∙ told-two (told_in a) fs gs;
  files = second.files ∙ first.files;
}

-- three checks
pub tells-three : {a b c d : Faults} {fs gs hs : List DescriptorErrorKind} → Tells a b fs → Tells b c gs → Tells c d hs → Tells a d (fs ++ gs ++ hs)
tells-three first second third = tells-two (tells-two first second) third
