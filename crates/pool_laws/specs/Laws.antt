-- Laws of pools.
use Rattle.std.specs.Prelude.{◌≡◌, ◌⊎◌, ◌≢◌, ◌<◌, ◌+◌, ℕ, Bool, true, false, IsSome, IsTrue, Some}
use Rattle.std.specs.Prelude.{List, [], ◌∷◌, ◌++◌, length, map, slice_get}
use Rattle.std.specs.FinMap as finite
use Rattle.std.specs.List.{All, Contains}
use Rattle.proto_types.specs.Names.{fronts}
use Rattle.proto_types.specs.Readers.{text_of}
use Rattle.proto_types.specs.declared.file.FileDescriptorProto.{FileDescriptorProto}
use Rattle.pool_types.specs.Contents.{ByText, Contents, files_of, no_contents}
use Rattle.pool_types.specs.declared.contents.definition.Definition.{Definition}
use Rattle.pool_types.specs.declared.contents.definition.DefinitionKind.{DefinitionKind}
use Rattle.pool_types.specs.declared.contents.definition.DefinitionKind.TheVariants as definition
use Rattle.pool_types.specs.declared.contents.message.MessageDescriptorInner.{MessageDescriptorInner}
use Rattle.pool_contents.specs.LookUps.{definition_named}
use Rattle.name_tables.specs.Entries.{Entry}
use Rattle.record_walk.specs.declared.counts.Counts.{Counts}
use Rattle.record_walk.specs.Counts.{counted, no_counts}
use Rattle.record_walk.specs.Declarations.{file_walk}
use Rattle.record_walk.specs.Protos.{name_of}
use Rattle.record_walk.specs.Walking.{within_file}
use Rattle.name_pass.specs.Names.{entries}
use Rattle.descriptor_pool.specs.Build.{declared_with, with_names}
use Rattle.descriptor_pool.specs.Pool.{Accepts, Batch, Fits, has_file, link, new_files}
use Rattle.pool_contents.specs.Extended.{with_extensions}
use Rattle.pool_types.specs.Extension.{Indexed}

-- law: the linked files of a pool, linked at once from nothing, break nothing, fit, and make an
-- equal pool
abbrev pub Relinks : Contents → Type 0
Relinks p = Accepts no_contents (files_of p) × Fits no_contents (files_of p)
    × (link no_contents (files_of p) ≡ p)

-- a list begins with another, and something may come behind it
abbrev pub IsFrontOf : {X : Type 0} → List X → List X → Type 0
IsFrontOf {X} xs ys = (rest : List X) × (ys ≡ xs ++ rest)

-- what is in contents is in others as it was, save that further extensions extend a message
pub record Keeps (p q : Contents) : Type 0 where
  pub files : IsFrontOf p.files q.files
  pub messages : (n : ℕ) (m : MessageDescriptorInner) → slice_get p.messages n ≡ Some m
      → (more : List Indexed) × (slice_get q.messages n ≡ Some (with_extensions more m))
  pub enums : IsFrontOf p.enums q.enums
  pub services : IsFrontOf p.services q.services
  pub extensions : IsFrontOf p.extensions q.extensions
  pub names : (name : List ℕ) (def : Definition) → finite.get p.names name ≡ Some def
      → finite.get q.names name ≡ Some def
  pub file_names : (name : List ℕ) (n : ℕ) → finite.get p.file_names name ≡ Some n
      → finite.get q.file_names name ≡ Some n

-- law: what a pool has stays where a batch is linked into it
abbrev pub EarlierStays : Contents → Type 0
EarlierStays p = (batch : Batch) → Keeps p (link p batch)

-- law: a pool has under a dot and a name what it has under the name, if that doesn't begin with a
-- dot
abbrev pub DotSaysNothing : Contents → Type 0
DotSaysNothing p = (name : List ℕ) → ((rest : List ℕ) → name ≢ 46 ∷ rest)
    → definition_named p (46 ∷ name) ≡ definition_named p name

-- a name is not empty, and no text stands before a dot of it
abbrev pub IsPlainName : List ℕ → Type 0
IsPlainName name = (name ≢ []) × (fronts name ≡ [])

-- the names of all that stands in a file are plain
abbrev pub IsPlain : Counts → FileDescriptorProto → Type 0
IsPlain base f = All (λ d. IsPlainName (name_of d.proto)) (within_file base.files base f)

-- whether a definition is a package, a message or a service
abbrev pub is_scope : DefinitionKind → Bool
is_scope definition.Package = true
is_scope (definition.Message _) = true
is_scope (definition.Service _) = true
is_scope _ = false

-- entries have a name as that of a package, a message or a service
abbrev pub HasScope : List Entry → List ℕ → Type 0
HasScope es name = (def : Definition) × Contains es (name, def) × IsTrue (is_scope def.kind)

-- law: in a file whose names are plain, each text before a dot of a full name is that of a package,
-- a message or a service that the file enters
abbrev pub PrefixesEntered : FileDescriptorProto → Type 0
PrefixesEntered f =
    (base : Counts) → IsPlain base f
    → All (λ d. All (HasScope (entries (file_walk base f))) (fronts d.full_name))
    (within_file base.files base f)

-- the names of all that stands in files are plain
abbrev pub ArePlain : Counts → List FileDescriptorProto → Type 0
ArePlain base [] = Unit {0}
ArePlain base (f ∷ fs) = IsPlain base f × ArePlain (counted base (file_walk base f)) fs

-- some names of others are enough for what is seen: what they mean stays, they have all that mean
-- what is seen, and the texts before the dots of these
pub record SeenAmong (names more : ByText Definition) (seen : ℕ → Bool) : Type 0 where
  pub stay : (name : List ℕ) (def : Definition) → finite.get names name ≡ Some def
      → finite.get more name ≡ Some def
  pub sees : (name : List ℕ) (def : Definition) → finite.get more name ≡ Some def
      → seen def.file ≡ true → finite.get names name ≡ Some def
  pub prefixes : (name : List ℕ) (def : Definition) → finite.get more name ≡ Some def
      → seen def.file ≡ true → All (λ front. IsSome (finite.get names front)) (fronts name)

-- law: behind a pool, where names are plain, the names without those of later files have all that
-- is seen where no later file is
abbrev pub SeenNamesStand : Contents → Type 0
SeenNamesStand p =
    (front back : List FileDescriptorProto) → ArePlain no_counts (files_of p ++ front)
    → (seen : ℕ → Bool) → ((n : ℕ) → seen n ≡ true → n < length p.files + length front)
    → SeenAmong (with_names p (declared_with p front)).names
    (with_names p (declared_with p (front ++ back))).names seen

-- each of the new files imports only files of the pool and of the new ones
abbrev pub AreClosed : Contents → List FileDescriptorProto → Type 0
AreClosed p new =
    All (λ f. All (λ name. IsTrue (has_file p name) ⊎ Contains (map (λ g. text_of g.name) new) name)
    f.dependency) new

-- law: a batch that is accepted may be linked in two parts, where all names are plain and the first
-- part imports nothing of the second: each part is accepted behind what comes before it, the pool
-- is the same, and where the batch fits, so does each part
abbrev pub Splits : Contents → Batch → Batch → Type 0
Splits p front back =
    ArePlain no_counts (files_of p ++ new_files p (front ++ back)) → AreClosed p (new_files p front)
    → Accepts p (front ++ back)
    → Accepts p front × Accepts (link p front) back
    × (link (link p front) back ≡ link p (front ++ back))
    × (Fits p (front ++ back) → Fits p front × Fits (link p front) back)
