-- The index of each declaration, by those before it.
use Rattle.std.specs.Prelude.{◌≡◌, pos, List, ◌∷◌, ◌++◌}
use Rattle.std.specs.List.{last_or}
use Rattle.std.specs.declared.option.Option.TheVariants.{None, Some}
use Rattle.record_walk.specs.declared.counts.Counts.{Counts}
use Rattle.proto_types.specs.declared.file.FileDescriptorProto.{FileDescriptorProto}
use Rattle.record_walk.specs.Protos.{Proto, of_file, of_message, of_service, of_enum, of_extension}
use Rattle.record_walk.specs.Shown.{Shown}
use Rattle.record_walk.specs.Counts.{counted}
use Rattle.record_walk.specs.Declarations.{declarations}

-- the index of a file, message, enum, service or extension is how many of its kind were counted;
-- the path of any other declaration ends with its index
abbrev pub HasIndex : Counts → Shown → Proto → Type 0
HasIndex before d (of_file _) = d.index ≡ before.files
HasIndex before d (of_message _) = d.index ≡ before.messages
HasIndex before d (of_enum _) = d.index ≡ before.enums
HasIndex before d (of_service _) = d.index ≡ before.services
HasIndex before d (of_extension _) = d.index ≡ before.extensions
HasIndex before d _ = last_or None d.path ≡ Some (pos d.index)

-- law: each declaration of files has the index that those before it leave it, counted on from a
-- pool
abbrev pub IndexesCountOn : Counts → List FileDescriptorProto → Type 0
IndexesCountOn base files = (front : List Shown) (d : Shown) (rest : List Shown)
    → declarations base files ≡ front ++ d ∷ rest → HasIndex (counted base front) d d.proto
