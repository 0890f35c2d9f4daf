-- Linked files, and the table of their names.
use Rattle.std.proofs.Common.{◌≡◌, ◌↔◌, ◌<◌, ◌≤◌, ℕ, true, List, Option, None, Some, ap, sym, ◌∙◌, subst, length, map, get_or}
use Rattle.std.specs.BTreeSet.{BTreeSet, contains, IsFromIterResult}
use Rattle.std.specs.FinMap as finite
use Rattle.std.specs.Ordering.{nat_cmp}
use Rattle.std.specs.Option.{IfSome, option_map, unwrap_or}
use Rattle.std.proofs.lemmas.List.{length-map}
use Rattle.std.proofs.lemmas.Option.{slice_get-map, slice_get-get_or}
use Rattle.name_tables.specs.NameTables.{FileNamesBefore}
use Rattle.pool_types.specs.Contents.{ByText}
use Rattle.pool_types.specs.declared.contents.file.FileDescriptorInner.{FileDescriptorInner}
use Rattle.proto_types.specs.File.{no_file, file_at}
use Rattle.proto_types.specs.declared.file.FileDescriptorProto.{FileDescriptorProto}
use Rattle.name_resolution.specs.Visibility.{Sees, seen_from}
use Rattle.name_resolution.proofs.Chains.{Sees-within}
use Rattle.name_resolution.proofs.Reached.{Reached, Reached-here, Reached-few, Reached-sees, Reached-keys}

-- the records
abbrev pub raws : List FileDescriptorInner → List FileDescriptorProto
raws files = map (λ f. f.raw) files

-- a file that is read by its index
pub file_at-raws : (files : List FileDescriptorInner) (n : ℕ) (d : FileDescriptorInner) → n < length files → file_at (raws files) n ≡ (get_or files n d).raw
file_at-raws files n d below =
    ap (λ o. unwrap_or o no_file) (slice_get-map (λ (f : FileDescriptorInner). f.raw) files n ∙ ap (option_map (λ (f : FileDescriptorInner). f.raw)) (slice_get-get_or files n d below))

if-some : (o : Option ℕ) (n k : ℕ) → IfSome o (λ file. file < n) → o ≡ Some k → k < n
if-some None n k before is = cc
if-some (Some file) n k before is = let same : file ≡ k = cc in subst (λ x. x < n) same before

-- a name means a file that is there
pub names-within : (files : List FileDescriptorInner) (names : ByText ℕ) → FileNamesBefore (length files) names → (name : List ℕ) (n : ℕ) → finite.get names name ≡ Some n → n < length (raws files)
names-within files names before name n is = subst (λ x. n < x) (sym (length-map files (λ f. f.raw))) (if-some (finite.get names name) (length files) n (before name) is)

-- what has been seen of a file of linked files
module _ (files : List FileDescriptorInner) (names : ByText ℕ) (a : ℕ) (here : a < length files) (places : FileNamesBefore (length files) names) where
  long : length (raws files) ≡ length files
  long = length-map files (λ f. f.raw)

  there : a < length (raws files)
  there = subst (λ n. a < n) (sym long) here

  -- no more have been seen than are there
  pub few-seen : (seen : List ℕ) (next : ℕ) → Reached (raws files) (finite.get names) a seen next → length seen ≤ length files
  few-seen seen next reached = subst (λ n. length seen ≤ n) long (Reached-few (raws files) (finite.get names) a (names-within files names places) there seen next reached)

  -- what has been seen is there
  pub here-below : (seen : List ℕ) (next x : ℕ) → Reached (raws files) (finite.get names) a seen next → next < length seen → x ≡ get_or seen next x → x < length files
  here-below seen next x reached below at =
      subst (λ n. x < n) long (Sees-within (raws files) (finite.get names) (names-within files names places) a x there (Reached-here (raws files) (finite.get names) a seen next x reached below at))

  -- a set is made of all that has been seen
  module _ (seen : List ℕ) (next : ℕ) (reached : Reached (raws files) (finite.get names) a seen next) (all : length seen ≤ next) (set : BTreeSet ℕ) (made : IsFromIterResult nat_cmp seen set) where
    pub all-seen : (b : ℕ) → (contains nat_cmp set b ≡ true) ↔ Sees (raws files) (finite.get names) a b
    all-seen = Reached-sees (raws files) (finite.get names) a (names-within files names places) there seen next reached all set made

    pub seen-keys : set.keys ≡ seen_from (raws files) (finite.get names) a
    seen-keys = Reached-keys (raws files) (finite.get names) a (names-within files names places) there seen next reached all set made
