-- Files of which the last are changed, position by position: what is read of each file is what was read.
use Rattle.std.proofs.Common.{◌≡◌, ℕ, ℤ, zero, suc, Option, Some, List, [], ◌∷◌, ◌++◌, length, slice_get, unwrap_or, append-nil, refl, ap, subst}
use Rattle.std.specs.Option.{option_and_then}
use Rattle.proto_types.specs.File.{no_file}
use Rattle.proto_types.specs.declared.file.FileDescriptorProto.{FileDescriptorProto}
use Rattle.record_walk.specs.Changed.{Changes, changed_file, changed_files}
use Rattle.record_walk.specs.Leads.{leads}
use Rattle.pool_types.specs.Syntaxes.{syntax_of}
use Rattle.pool_laws.proofs.Alike.{SameImports}
use Rattle.pool_laws.proofs.Records.{Stays, file-stays, stays-itself}

-- as many files, changed
pub many-changed : (c : Changes) (index : ℕ) (fs : List FileDescriptorProto) → length (changed_files c index fs) ≡ length fs
many-changed c index [] = refl
many-changed c index (f ∷ fs) = ap suc (many-changed c (suc index) fs)

-- of a file is read what is read of another: its imports, what paths lead to, and its syntax
pub record SameRead (f g : Option FileDescriptorProto) : Type 0 where
  pub imports : SameImports (unwrap_or f no_file) (unwrap_or g no_file)
  pub records : (path : List ℤ) → Stays (option_and_then (λ f. leads f path) f) (option_and_then (λ f. leads f path) g)
  pub syntax : syntax_of (unwrap_or g no_file) ≡ syntax_of (unwrap_or f no_file)

read-itself : (f : Option FileDescriptorProto) → SameRead f f
read-itself f = record { imports = record { imports = refl; publics = refl }; records = λ path. stays-itself (option_and_then (λ f. leads f path) f); syntax = refl }

module _ (c : Changes) where
  read-changed : (index : ℕ) (f : FileDescriptorProto) → SameRead (Some f) (Some (changed_file c index f))
  read-changed index f = record { imports = record { imports = refl; publics = refl }; records = λ path. file-stays c path index f; syntax = refl }

  changed-first : (index : ℕ) (fs back : List FileDescriptorProto) (n : ℕ) → SameRead (slice_get (fs ++ back) n) (slice_get (changed_files c index fs ++ back) n)
  changed-first index [] back n = read-itself (slice_get back n)
  changed-first index (f ∷ fs) back zero = read-changed index f
  changed-first index (f ∷ fs) back (suc n) = changed-first (suc index) fs back n

  -- where some come before these, and others behind
  pub between-at : (before : List FileDescriptorProto) (index : ℕ) (fs back : List FileDescriptorProto) (n : ℕ)
      → SameRead (slice_get (before ++ (fs ++ back)) n) (slice_get (before ++ (changed_files c index fs ++ back)) n)
  between-at [] index fs back n = changed-first index fs back n
  between-at (f ∷ before) index fs back zero = read-itself (Some f)
  between-at (f ∷ before) index fs back (suc n) = between-at before index fs back n

  pub behind-at : (before : List FileDescriptorProto) (index : ℕ) (fs : List FileDescriptorProto) (n : ℕ)
      → SameRead (slice_get (before ++ fs) n) (slice_get (before ++ changed_files c index fs) n)
  behind-at before index fs n =
      let came = changed_files c index fs in
      subst (λ gs. SameRead (slice_get (before ++ fs) n) (slice_get (before ++ gs) n)) (append-nil came)
      (subst (λ gs. SameRead (slice_get (before ++ gs) n) (slice_get (before ++ (came ++ [])) n)) (append-nil fs) (between-at before index fs [] n))
