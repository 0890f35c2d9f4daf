use Rattle.std.proofs.Common.{◌-◌, List, length, map, take, drop, refl, ap, sym, subst, ◌∙◌}
use Rattle.std.proofs.lemmas.List.{length-take-le}
use Rattle.std.proofs.lemmas.Result.{on_ok_weaker}
use Rattle.std.specs.List.{fold}
use Rattle.proto_types.specs.declared.file.FileDescriptorProto.{FileDescriptorProto}
use Rattle.record_walk.specs.Declarations.{declarations}
use Rattle.record_walk.specs.Faults.{told_in}
use Rattle.name_pass.specs.Steps.{CanBeEntered, name_step, state_at}
use Rattle.name_pass.proofs.Following.{declarations-follow}
use Rattle.pool_contents.specs.Growing.{records_from}
use Rattle.descriptor_pool.proofs.Bases.{rest-records}
use Rattle.descriptor_pool.proofs.Files.{declarations-entered}
use Rattle.descriptor_pool.proofs.Passed.{names-end, names-stay, file-names-stay}
use Rattle.descriptor_pool.proofs.build.show_scoped.Goals as goal

pub returns-clause-ok : goal.returns-clause-ok
returns-clause-ok c =
    let a = c.args in
    let files = a.faults.now.labels in
    let shown = c.files-files.result.now in
    let fs = map (λ f. f.raw) (take (length shown - a.base.files) (drop a.base.files shown)) in
    let state = state_at a.names.now.0 a.file_names.now (told_in a.faults.now) in
    let rest = rest-records a.base.files shown files c.files-files.ensures in
    let end = names-end c.walk.new.visitor c.walk.ensures.borrows c.names-1.given.0 c.names-1.given.1 c.file_names-1.given.0 c.file_names-1.given.1 c.faults-1.given.0 c.faults-1.given.1
    c.walk.result (map (λ f. f.raw) files) state (declarations a.base fs) _ _ _ refl c.walk.ensures.ok in
    on_ok_weaker c.walk.result (λ is. is ∙ ap (λ gs. fold (name_step (map (λ f. f.raw) files)) state (declarations a.base gs)) rest) end

pub returns-clause-names : goal.returns-clause-names
returns-clause-names c =
    let a = c.args in
    names-stay c.walk.new.visitor c.walk.ensures.borrows c.names-1.given.0 c.names-1.given.1 c.file_names-1.given.0 c.file_names-1.given.1
    a.base.files (take a.base.files a.faults.now.labels) a.names.now.0 a.file_names.now (length-take-le a.base.files a.faults.now.labels c.requires.here) c.walk.ensures.kept

pub returns-clause-file_names : goal.returns-clause-file_names
returns-clause-file_names c =
    let a = c.args in
    file-names-stay c.walk.new.visitor c.walk.ensures.borrows c.names-1.given.0 c.names-1.given.1 c.file_names-1.given.0 c.file_names-1.given.1
    a.base.files (take a.base.files a.faults.now.labels) a.names.now.0 a.file_names.now (length-take-le a.base.files a.faults.now.labels c.requires.here) c.walk.ensures.kept

-- the new files are behind those that a roll-back leaves
pub walk-requires-clause-ready : goal.walk-requires-clause-ready
walk-requires-clause-ready c =
    let a = c.args in
    let files = a.faults.now.labels in
    let rest = rest-records a.base.files c.files-files.result.now files c.files-files.ensures in
    let first = length-take-le a.base.files files c.requires.here in (
      subst (λ (fs : List FileDescriptorProto). CanBeEntered (length (take a.base.files files)) (declarations a.base fs)) (sym rest)
          (declarations-entered a.base (records_from a.base.files files) _ first c.requires.counts),
      declarations-follow a.names.now.1 a.base (map (λ f. f.raw) (take (length c.files-files.result.now - a.base.files) (drop a.base.files c.files-files.result.now))),
    )
