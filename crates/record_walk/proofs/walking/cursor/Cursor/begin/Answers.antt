use Rattle.std.proofs.Common.{refl, ◌∙◌}
use Rattle.record_walk.specs.Cursor.{file_lines, stacked_all}
use Rattle.record_walk.proofs.Cursors.{begins}
use Rattle.record_walk.proofs.Listings.{on-ok}
use Rattle.record_walk.proofs.walking.cursor.Cursor.begin.Goals as goal

pub returns : goal.returns
returns c =
    let f = c.args.file.now in
    let base = c.args.self.now.counts in
    on-ok c.push_file.result (λ pushed. begins (record { counts = base; site = c.begin.new.self; rows = c.push_file.new.self }) base f
    c.requires.short c.requires.room refl c.in_ok-begin.ensures.file c.in_ok-begin.ensures.path (c.in_ok-begin.ensures.name ∙ c.package.ensures)
    (pushed ∙ (λ j. stacked_all (file_lines (c.depth.ensures j) f) (c.clear.ensures j)))) c.push_file.ensures
