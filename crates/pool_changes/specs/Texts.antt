-- What a new version changes of an older one, as lines for people and as objects of JSON.
use Rattle.std.specs.Prelude.{ℕ, suc, zero, ◌-◌, ◌==◌, List, [], ◌∷◌, ◌++◌, codes, length, take}
use Rattle.std.specs.Prelude.{drop, if◌then◌else◌}
use Rattle.std.specs.Fmt.{decimal}
use Rattle.std.specs.List.{flat_map}
use Rattle.verdict_texts.specs.JsonFaults.{json_fault}
use Rattle.verdict_texts.specs.JsonStrings.{json_string}
use Rattle.verdict_texts.specs.Lines.{line}
use Rattle.verdict_texts.specs.PlainFaults.{fault_lines}
use Rattle.verdict_texts.specs.declared.telling.ToldFault.{ToldFault}
use Rattle.pool_changes.specs.declared.told.ToldChanges.{ToldChanges}
use Rattle.pool_changes.specs.ChangeKinds.{level_word, levels}
use Rattle.pool_changes.specs.Words.{direction_word}
use Rattle.pool_changes.specs.declared.kinds.Level.{Level}
use Rattle.pool_changes.specs.declared.kinds.Level.TheVariants.{Wire, Json, Source}

-- how many changes are not told
abbrev pub untold_changes : ToldChanges → ℕ
untold_changes r = r.count - length r.told

-- the word for a number of changes
unfoldable pub change_word : ℕ → List ℕ
change_word n = if n == 1 then codes "change" else codes "changes"

-- how many changes there are, or that there are none, before the level
unfoldable pub count_words : ℕ → List ℕ
count_words zero = codes "unchanged"
count_words (suc n) = codes "changed: " ++ (decimal (suc n) ++ (codes " " ++ change_word (suc n)))

-- how many of them are not told, if any
unfoldable pub untold_words : ℕ → List ℕ
untold_words zero = []
untold_words (suc n) = codes ", of which " ++ (decimal (suc n) ++ codes " are not shown")

-- how many changes there are, at which level, and against which older version
abbrev pub compared_words : ToldChanges → List ℕ
compared_words r = count_words r.count ++ (codes " at " ++ (level_word r.level
    ++ (codes " against " ++ r.against)))

-- in which direction, and how many of them are not told, if any
abbrev pub direction_words : ToldChanges → List ℕ
direction_words r =
    codes ", " ++ (direction_word r.direction ++ untold_words (untold_changes r))

-- how many changes there are at a level that was not asked for, if any
unfoldable pub beyond_words : Level → ℕ → List ℕ
beyond_words level zero = []
beyond_words level (suc n) = codes "; " ++ (decimal (suc n) ++ (codes " at " ++ level_word level))

-- the last line: how many changes there are, at which level, against which older version, in which
-- direction, and how many there are at the levels that were not asked for
abbrev pub last_words : ToldChanges → List ℕ
last_words r = compared_words r ++ (direction_words r
    ++ (beyond_words Json r.json_beyond ++ beyond_words Source r.source_beyond))

-- the lines of the changes that are told, and the last one
abbrev pub changes_lines : ToldChanges → List ℕ
changes_lines r = flat_map fault_lines r.told ++ line (last_words r)

-- what stands behind a first byte, if a text has it
abbrev pub behind_first : ℕ → List ℕ → List ℕ
behind_first first [] = []
behind_first first (c ∷ rest) = if c == first then rest else c ∷ rest

-- the changes that are told and are at a level themselves: those at wire come first, and then those
-- at json
abbrev pub changes_of : ToldChanges → Level → List ToldFault
changes_of r Wire = take r.wire r.told
changes_of r Json = drop r.wire (take r.json r.told)
changes_of r Source = drop r.json r.told

-- the first members of a change: its level, its direction, and the older version
abbrev pub change_head : ToldChanges → Level → List ℕ
change_head r level = codes "{\"level\":\"" ++ (level_word level
    ++ (codes "\",\"direction\":\"" ++ (direction_word r.direction
    ++ (codes "\",\"against\":" ++ (json_string r.against ++ codes ",")))))

-- a change at a level: an object with these members and with those of a fault; 123 is an opening
-- brace
unfoldable pub json_change : ToldChanges → Level → ToldFault → List ℕ
json_change r level told = change_head r level ++ behind_first 123 (json_fault told)

-- the changes at a level that are told against an older version, with a comma before each
abbrev pub json_changes_at : ToldChanges → Level → List ℕ
json_changes_at r level = flat_map (λ told. 44 ∷ json_change r level told) (changes_of r level)

-- the changes that are told against an older version, with a comma before each
abbrev pub json_changes : ToldChanges → List ℕ
json_changes r = flat_map (json_changes_at r) levels

-- how many changes there are at the levels that were not asked for, as an object
abbrev pub beyond_object : ToldChanges → List ℕ
beyond_object r = codes "{\"json\":" ++ (decimal r.json_beyond
    ++ (codes ",\"source\":" ++ (decimal r.source_beyond ++ codes "}")))

-- the last members of a comparison: the direction, how many changes there are, how many are not
-- told, and how many there are at the levels that were not asked for
abbrev pub counted_members : ToldChanges → List ℕ
counted_members r = codes "\"direction\":\"" ++ (direction_word r.direction
    ++ (codes "\",\"count\":" ++ (decimal r.count ++ (codes ",\"more\":"
    ++ (decimal (untold_changes r) ++ (codes ",\"beyond\":"
    ++ (beyond_object r ++ codes "}")))))))

-- a comparison: the older version, and these members
unfoldable pub json_compared : ToldChanges → List ℕ
json_compared r = codes "{\"against\":" ++ (json_string r.against
    ++ (codes "," ++ counted_members r))

-- what was compared, as entries of an array
abbrev pub compared_entries : List ToldChanges → List ℕ
compared_entries rs = behind_first 44 (flat_map (λ r. 44 ∷ json_compared r) rs)

-- the changes that are told against older versions, as entries of an array
abbrev pub changes_entries : List ToldChanges → List ℕ
changes_entries rs = behind_first 44 (flat_map json_changes rs)

-- an object, with what was compared and with the changes in front of its own members
abbrev pub with_changes : List ToldChanges → List ℕ → List ℕ
with_changes rs object = codes "{\"compared\":[" ++ (compared_entries rs
    ++ (codes "],\"changes\":[" ++ (changes_entries rs ++ (codes "],"
    ++ behind_first 123 object))))
