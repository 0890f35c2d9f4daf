-- What changes of older versions: in a report of GitLab's code quality, and as a log of SARIF.
use Rattle.std.specs.Prelude.{ℕ, List, ◌∷◌, ◌++◌, codes, map}
use Rattle.std.specs.List.{flat_map}
use Rattle.verdict_texts.specs.declared.telling.ToldFault.{ToldFault}
use Rattle.verdict_texts.specs.Fingerprints.{Marked}
use Rattle.verdict_texts.specs.Members.{key, next_key, text_member, next_text_member}
use Rattle.verdict_texts.specs.Quality.{fault_mark}
use Rattle.verdict_texts.specs.Sarif.{result_members}
use Rattle.verdict_texts.specs.declared.change_rules.TheConstants.{CHANGE_RULES}
use Rattle.verdict_texts.specs.declared.changes.ChangeMarks as lent

-- what is told of changes besides: their level, in which direction the versions are compared, and
-- the name of the older version
pub record Marks : Type 0 where
  pub level : List ℕ
  pub direction : List ℕ
  pub against : List ℕ

-- the marks that are lent to the code
abbrev pub marks : lent.ChangeMarks → Marks
marks m = record { level = m.level.now; direction = m.direction.now; against = m.against.now }

-- the mark of a change: the direction, the older version, and the mark of a fault
unfoldable pub change_mark : Marks → ToldFault → List ℕ
change_mark m told =
    m.direction ++ (codes " " ++ (m.against ++ (codes " " ++ fault_mark told)))

-- changes and their marks
abbrev pub marked_changes : Marks → List ToldFault → List Marked
marked_changes m told = map (λ f. record { mark = change_mark m f; told = f }) told

-- the marks of a change, as an object
unfoldable pub marks_object : Marks → List ℕ
marks_object m = codes "{" ++ (text_member (codes "level") m.level
    ++ (next_text_member (codes "direction") m.direction
    ++ (next_text_member (codes "against") m.against ++ codes "}")))

-- a change as a result, with its marks as its properties (section 3.8)
unfoldable pub change_result : Marks → ToldFault → List ℕ
change_result m told = result_members told
    ++ (next_key (codes "properties") ++ (marks_object m ++ codes "}"))

-- changes as results, with a comma before each
abbrev pub sarif_changes : Marks → List ToldFault → List ℕ
sarif_changes m told = flat_map (λ f. 44 ∷ change_result m f) told

-- the beginning of a log, with its one run: the tool and the kinds of changes
unfoldable pub change_rules : List ℕ
change_rules = CHANGE_RULES.now

-- what was compared, as the properties of a run
unfoldable pub compared_properties : List ℕ → List ℕ
compared_properties compared =
    codes "{" ++ (key (codes "compared") ++ (codes "[" ++ (compared ++ codes "]}")))

-- the log of one run, by its results and by what was compared: the kinds of changes, the results,
-- and what was compared as a property
abbrev pub sarif_of : List ℕ → List ℕ → List ℕ
sarif_of results compared = change_rules ++ (next_key (codes "results") ++ (codes "[" ++ (results
    ++ (codes "]" ++ (next_key (codes "properties") ++ (compared_properties compared
    ++ codes "}]}\n"))))))
