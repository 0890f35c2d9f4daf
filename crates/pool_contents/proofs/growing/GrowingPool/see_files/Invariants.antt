use Rattle.std.proofs.Common.{◌≡◌}
use Rattle.std.specs.FinMap as finite
use Rattle.name_resolution.specs.Sight.{AskedBefore}
use Rattle.pool_types.specs.Contents.{files_of}
use Rattle.pool_contents.specs.Growing.{rolled_back}
use Rattle.pool_contents.specs.Inner.{contents_in}
use Rattle.pool_contents.proofs.Seeing.{seeing_up_to}
use Rattle.pool_contents.proofs.growing.GrowingPool.see_files.Given as goal

-- the files so far are asked, and have those that they see
abbrev pub invariant-loop-file : goal.invariant-loop-file
invariant-loop-file l = record {
  is : contents_in l.self.inner ≡ record (contents_in l.initial.self.inner) { files = seeing_up_to l.initial.self l.file };
  kept : rolled_back l.self ≡ rolled_back l.initial.self;
  asked : AskedBefore (files_of (contents_in l.initial.self.inner)) (finite.get l.initial.self.inner.file_names) l.file l.sight;
}
