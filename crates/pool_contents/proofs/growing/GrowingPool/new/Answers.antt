use Rattle.std.proofs.Common.{ℕ, take, ap, subst, sym, ◌∙◌}
use Rattle.std.proofs.Math.Seq.{take-length}
use Rattle.name_tables.specs.NameTables.{AllBefore, FileNamesBefore}
use Rattle.name_tables.proofs.Earlier.{earlier-stay}
use Rattle.record_walk.specs.declared.counts.Counts.{Counts}
use Rattle.pool_contents.proofs.growing.GrowingPool.new.Goals as goal

-- all that it has was there before
pub returns-clause-kept : goal.returns-clause-kept
returns-clause-kept c =
    let p = c.args.inner in
    let is = c.requires.counts in
    let Before : ℕ → Type 0 = λ n. AllBefore n p.names × FileNamesBefore n p.file_names in
    let before = subst Before (sym (ap (λ (k : Counts). k.files) is)) c.requires.before in
    λ i. record {
      files = (ap (λ (k : Counts). take k.files p.files.items) is ∙ take-length p.files.items) i;
      messages = (ap (λ (k : Counts). take k.messages p.messages.items) is ∙ take-length p.messages.items) i;
      enums = (ap (λ (k : Counts). take k.enums p.enums.items) is ∙ take-length p.enums.items) i;
      services = (ap (λ (k : Counts). take k.services p.services.items) is ∙ take-length p.services.items) i;
      extensions = (ap (λ (k : Counts). take k.extensions p.extensions.items) is ∙ take-length p.extensions.items) i;
      names = earlier-stay (λ d. d.file) c.args.base.files p.names before.0 i;
      file_names = earlier-stay (λ file. file) c.args.base.files p.file_names before.1 i;
    }
