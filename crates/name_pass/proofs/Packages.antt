-- The packages that end at a dot of a text, entered in turn.
use Rattle.std.proofs.Common.{◌≡◌, ℕ, ◌+◌, ◌<◌, Bool, true, false, List, [], ◌∷◌, ◌++◌, map, length, take, get_or, cond, refl, ap, sym, ◌∙◌, add-one, append-nil}
use Rattle.std.proofs.Math.Seq.{take-suc}
use Rattle.std.proofs.lemmas.List.{map-append}
use Rattle.proto_types.specs.declared.file.FileDescriptorProto.{FileDescriptorProto}
use Rattle.proto_types.specs.Names.{fronts, is_dot}
use Rattle.name_tables.specs.Entries.{Entry}
use Rattle.name_pass.specs.Names.{package_entry, packages}
use Rattle.name_pass.specs.Steps.{NameState, entered}
use Rattle.name_pass.proofs.Behind.{entered-more}
use Rattle.name_pass.proofs.Fronts.{fronts_push}

module _ (files : List FileDescriptorProto) (state : NameState) (file : ℕ) where
  entered-cond : (es : List Entry) (b : Bool) (x : List ℕ)
      → entered files state (es ++ map (package_entry file) (cond b (x ∷ []) [])) ≡ cond b (entered files (entered files state es) (package_entry file x ∷ [])) (entered files state es)
  entered-cond es true x = sym (entered-more files state es (package_entry file x))
  entered-cond es false x = ap (entered files state) (append-nil es)

  -- those of a text up to a byte, and one more where the byte is a dot
  pub packages_more : (bs : List ℕ) (i : ℕ) → i < length bs
      → let before = entered files state (map (package_entry file) (fronts (take i bs))) in
      entered files state (map (package_entry file) (fronts (take (i + 1) bs)))
      ≡ cond (is_dot (get_or bs i 0)) (entered files before (package_entry file (take i bs) ∷ [])) before
  packages_more bs i below =
      let front : List ℕ = take i bs in
      let dot = is_dot (get_or bs i 0) in
      let longer : take (i + 1) bs ≡ front ++ get_or bs i 0 ∷ [] = rw add-one (take-suc bs i 0 below) in
      ap (λ xs. entered files state (map (package_entry file) xs)) (ap fronts longer ∙ fronts_push front (get_or bs i 0))
      ∙ ap (entered files state) (map-append (package_entry file) (fronts front) (cond dot (front ∷ []) []))
      ∙ entered-cond (map (package_entry file) (fronts front)) dot front

  -- the packages of a name, once those that end at a dot are entered
  pub packages_whole : (name : List ℕ) → ((name ≡ []) → ⊥)
      → entered files (entered files state (map (package_entry file) (fronts name))) (package_entry file name ∷ []) ≡ entered files state (map (package_entry file) (packages name))
  packages_whole [] some = absurd (some refl)
  packages_whole (c ∷ cs) some =
      entered-more files state (map (package_entry file) (fronts (c ∷ cs))) (package_entry file (c ∷ cs))
      ∙ sym (ap (entered files state) (map-append (package_entry file) (fronts (c ∷ cs)) ((c ∷ cs) ∷ [])))
