use Rattle.std.proofs.Common.{◌≡◌, ◌++◌, take, flat_map}
use Rattle.proto_types.specs.Readers.{text_of}
use Rattle.pool_changes.specs.Removed.{file_changes, file_named}
use Rattle.pool_changes.specs.Sides.{versions, reader, writer}
use Rattle.pool_changes.proofs.sides.Telling.tell_files.Given as goal

-- the files so far are told
abbrev pub invariant-loop-file : goal.invariant-loop-file
invariant-loop-file l = l.told ≡ l.initial.told
    ++ flat_map (λ f. file_changes (versions l.self) f (file_named (reader (versions l.self)) (text_of f.raw.name)))
    (take l.file-index (writer (versions l.self)).files)
