-- How much an accepted batch declares, for people and as an object of JSON.
use Rattle.std.specs.Prelude.{ℕ, List, ◌++◌, codes, ◌==◌, if◌then◌else◌}
use Rattle.std.specs.Fmt.{decimal}
use Rattle.record_walk.specs.declared.counts.Counts.{Counts}

-- a number of things, with their words for one and for more
abbrev pub counted : ℕ → List ℕ → List ℕ → List ℕ
counted n one many = decimal n ++ (codes " " ++ (if n == 1 then one else many))

-- the line of an accepted batch
abbrev pub accepted_text : Counts → List ℕ
accepted_text c =
    codes "accepted: " ++ (counted c.files (codes "file") (codes "files")
    ++ (codes ", " ++ (counted c.messages (codes "message") (codes "messages")
    ++ (codes ", " ++ (counted c.enums (codes "enum") (codes "enums")
    ++ (codes ", " ++ (counted c.services (codes "service") (codes "services")
    ++ (codes ", " ++ (counted c.extensions (codes "extension") (codes "extensions")
    ++ codes "\n")))))))))

-- an object with a member for each kind
abbrev pub json_counts : Counts → List ℕ
json_counts c =
    codes "{\"files\":" ++ (decimal c.files
    ++ (codes ",\"messages\":" ++ (decimal c.messages
    ++ (codes ",\"enums\":" ++ (decimal c.enums
    ++ (codes ",\"services\":" ++ (decimal c.services
    ++ (codes ",\"extensions\":" ++ (decimal c.extensions ++ codes "}")))))))))
