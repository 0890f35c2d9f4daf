-- The first pass, one declaration after another, has the names and the faults of its definition.
use Rattle.std.proofs.Common.{◌≡◌, List, [], ◌∷◌, ◌++◌, ap, sym, ◌∙◌}
use Rattle.std.specs.List.{fold}
use Rattle.name_tables.specs.Entries.{names_with}
use Rattle.name_tables.proofs.Entries.{with-more, with-nothing}
use Rattle.record_walk.specs.Shown.{Shown}
use Rattle.record_walk.specs.Telling.{Telling, with_faults}
use Rattle.record_walk.proofs.Telling.{told-two}
use Rattle.pool_types.specs.Contents.{Contents}
use Rattle.proto_types.specs.declared.file.FileDescriptorProto.{FileDescriptorProto}
use Rattle.name_pass.specs.Names.{entries_of, entries, file_entries_of, file_entries}
use Rattle.name_pass.specs.FirstPass.{first_faults, first_pass}
use Rattle.name_pass.specs.Steps.{NameState, known, name_step, state_at}
use Rattle.name_pass.proofs.Behind.{all-behind}

fold-after : (records : List FileDescriptorProto) (state : NameState) (ds : List Shown) → fold (name_step records) state ds
    ≡ state_at (names_with state.names (entries ds)) (names_with state.file_names (file_entries ds)) (with_faults state.faults (first_pass records (known state) ds))
fold-after records state [] = λ i. state_at (sym (with-nothing state.names) i) (sym (with-nothing state.file_names) i) state.faults
fold-after records state (d ∷ ds) =
    let own = first_faults records (known state) [] d in
    let rest = first_pass records (known (name_step records state d)) ds in
    fold-after records (name_step records state d) ds
    ∙ (λ i. state_at (with-more state.names (entries_of d) (entries ds) i) (with-more state.file_names (file_entries_of d) (file_entries ds) i)
    ((told-two state.faults own rest ∙ ap (λ more. with_faults state.faults (own ++ more)) (all-behind records state d ds)) i))

-- the whole pass behind a pool
pub fold-names : (p : Contents) (records : List FileDescriptorProto) (told : Telling) (ds : List Shown) → fold (name_step records) (state_at p.names p.file_names told) ds
    ≡ state_at (names_with p.names (entries ds)) (names_with p.file_names (file_entries ds)) (with_faults told (first_pass records p ds))
fold-names p records told ds = fold-after records (state_at p.names p.file_names told) ds
