use Rattle.std.proofs.Common.{◌≡◌, ◌-◌, length, map}
use Rattle.std.specs.FinMap as finite
use Rattle.name_resolution.specs.Seen.{SeenByNow}
use Rattle.name_resolution.specs.Sight.{PublicsOf}
use Rattle.name_resolution.proofs.Reached.{Reached}
use Rattle.name_resolution.proofs.visibility.Sight.visible_from.Given as goal

abbrev pub invariant-loop-next : goal.invariant-loop-next
invariant-loop-next l = record {
  reached : Reached (map (λ f. f.raw) l.files) (finite.get l.file_names) l.file l.self.seen.files.items l.next;
  now : SeenByNow l.self.seen;
  by : l.self.seen.by ≡ l.file;
  publics : PublicsOf (map (λ f. f.raw) l.files) (finite.get l.file_names) l.self.publics;
}

-- the files that had no turn yet, of all that there are
abbrev pub decreases-loop-next : goal.decreases-loop-next
decreases-loop-next l = length l.files - l.next
