use Rattle.std.proofs.Common.{refl}
use Rattle.numbered_pool.specs.Batches.{batch_of}
use Rattle.numbered_pool.proofs.Told.{memory_refused}
use Rattle.numbered_pool.proofs.answers.Answers.link_files.Goals as goal

-- memory was refused for the batch
pub returns-in-Err : goal.returns-in-Err
returns-in-Err c =
    let batch = batch_of c.args.files in
    memory_refused c.args.self.now batch.files batch.unequal c.args.self.now
    (record { unchanged = refl; limit = refl; uncounted = c.requires.uncounted; told = c.requires.silent })
