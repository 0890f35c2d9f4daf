-- What an accepted batch changes of older versions, in each format.
use Rattle.std.specs.Prelude.{ℕ, List, [], ◌∷◌, ◌++◌}
use Rattle.std.specs.List.{flat_map}
use Rattle.pool_changes.specs.ChangeKinds.{level_word, levels}
use Rattle.pool_changes.specs.Texts.{behind_first, changes_lines, changes_of, compared_entries}
use Rattle.pool_changes.specs.Texts.{untold_changes, with_changes}
use Rattle.pool_changes.specs.Words.{direction_word}
use Rattle.pool_changes.specs.declared.kinds.Level.{Level}
use Rattle.pool_changes.specs.declared.told.ToldChanges.{ToldChanges}
use Rattle.verdict_texts.specs.Annotations.{annotations}
use Rattle.verdict_texts.specs.Changes.{Marks, marked_changes, sarif_changes, sarif_of}
use Rattle.verdict_texts.specs.Fingerprints.{Marked}
use Rattle.verdict_texts.specs.Quality.{quality_of}
use Rattle.verdict_texts.specs.declared.formats.Format.{Format}
use Rattle.verdict_texts.specs.declared.formats.Format.TheVariants.{Text, Json, GitHub, GitLab}
use Rattle.verdict_texts.specs.declared.formats.Format.TheVariants.{Sarif}

-- the annotations of what a new version changes of an older one
abbrev pub changes_annotations : ToldChanges → List ℕ
changes_annotations changes = annotations changes.told (untold_changes changes)

-- what is told of the changes at a level besides
abbrev pub marks_at : ToldChanges → Level → Marks
marks_at r level = record {
  level = level_word level;
  direction = direction_word r.direction;
  against = r.against;
}

-- the changes against an older version and their marks, level by level
abbrev pub marked_at_levels : ToldChanges → List Marked
marked_at_levels r =
    flat_map (λ level. marked_changes (marks_at r level) (changes_of r level)) levels

-- the changes as a report of code quality; where nothing was compared, that of the verdict
abbrev pub quality_report : List ToldChanges → List ℕ → List ℕ
quality_report [] report = report
quality_report (r ∷ rs) report = quality_of (flat_map marked_at_levels (r ∷ rs))

-- the changes against an older version as results of SARIF, with a comma before each
abbrev pub sarif_results : ToldChanges → List ℕ
sarif_results r = flat_map (λ level. sarif_changes (marks_at r level) (changes_of r level)) levels

-- the changes as a log of SARIF, whose rules are the kinds of changes; where nothing was compared,
-- that of the verdict
abbrev pub sarif_report : List ToldChanges → List ℕ → List ℕ
sarif_report [] report = report
sarif_report (r ∷ rs) report =
    sarif_of (behind_first 44 (flat_map sarif_results (r ∷ rs))) (compared_entries (r ∷ rs))

-- what is told in a format of what was compared, by what it tells of the verdict: behind that the
-- changes, or what has both
abbrev pub report_with : Format → List ToldChanges → List ℕ → List ℕ
report_with Text told report = report ++ flat_map changes_lines told
report_with Json told report = with_changes told report
report_with GitHub told report = report ++ flat_map changes_annotations told
report_with GitLab told report = quality_report told report
report_with Sarif told report = sarif_report told report
