-- The arguments: words, read from left to right.
use Rattle.std.specs.Prelude.{ℕ, Bool, true, false, not, ◌&&◌, ◌||◌, ◌==◌, nat_eq, nat_lt, is_some}
use Rattle.std.specs.Prelude.{List, [], ◌∷◌, ◌++◌, codes, fold, length, if◌then◌else◌}
use Rattle.std.specs.List.{after_first, before_first, position_or_len}
use Rattle.std.specs.Option.{option_and_then, option_map}
use Rattle.std.specs.Str.{bytes_eq}
use Rattle.std.specs.declared.option.Option.{Option}
use Rattle.std.specs.declared.option.Option.TheVariants.{None, Some}
use Rattle.plain_data.specs.WholeNumbers.{whole_signed}
use Rattle.pool_faults.specs.Labels.{non_negative}
use Rattle.descriptor_check.specs.declared.answer.Wanted.{Wanted}
use Rattle.descriptor_check.specs.declared.arguments.Job.{Job}
use Rattle.descriptor_check.specs.declared.arguments.Reading.{Reading}
use Rattle.descriptor_check.specs.declared.arguments.Reading.TheVariants as reading
use Rattle.descriptor_check.specs.declared.arguments.Request.{Request}
use Rattle.descriptor_check.specs.declared.arguments.Request.TheVariants.{Check, Help, Version}
use Rattle.descriptor_check.specs.declared.arguments.Request.TheVariants.{Wrong}
use Rattle.descriptor_check.specs.declared.arguments.TheConstants.{HELP, USAGE}
use Rattle.descriptor_check.specs.declared.arguments.Valued.{Valued}
use Rattle.descriptor_check.specs.declared.arguments.Valued.TheVariants as valued
use Rattle.descriptor_check.specs.declared.arguments.Valued.TheVariants.{MaxFaults, Describe}
use Rattle.descriptor_check.specs.declared.arguments.Valued.TheVariants.{Linked}
use Rattle.pool_changes.specs.declared.direction.Compatibility.{Compatibility}
use Rattle.pool_changes.specs.declared.direction.Compatibility.TheVariants.{Backward, Forward}
use Rattle.pool_changes.specs.declared.direction.Compatibility.TheVariants.{Full}
use Rattle.pool_changes.specs.declared.kinds.Level.{Level}
use Rattle.pool_changes.specs.declared.kinds.Level.TheVariants as level
use Rattle.verdict_texts.specs.Formats.{is_for_people}
use Rattle.verdict_texts.specs.declared.formats.Format.{Format}
use Rattle.verdict_texts.specs.declared.formats.Format.TheVariants.{Text, Json, GitHub, GitLab}
use Rattle.verdict_texts.specs.declared.formats.Format.TheVariants.{Sarif}

-- arguments that ask nothing, and why
abbrev pub wrong : List ℕ → Request
wrong words = Wrong words

-- nothing wanted but lines for people, of a hundred faults at most
abbrev pub no_job : Job
no_job = record {
  wanted = record {
    format = Text;
    most = 100;
    strict = false;
    first_counts = false;
    lists = false;
    names = [];
    linked = None;
    compatibility = None;
    level = None;
  };
  against = [];
  files = [];
}

-- whether a word begins with a dash and goes on
abbrev pub is_option : List ℕ → Bool
is_option [] = false
is_option (c ∷ []) = false
is_option (c ∷ _ ∷ _) = nat_eq c 45

-- the number of `--max-faults`
abbrev pub max_faults : List ℕ → Option ℕ
max_faults word = option_and_then non_negative (whole_signed 32 word)

-- the value of `--max-faults`, if it is a number
abbrev pub with_most : Job → List ℕ → Option ℕ → Reading
with_most job word (Some n) = reading.Reads (record job { wanted = record job.wanted { most = n } })
with_most job word None =
    reading.Done (Wrong (codes "--max-faults '" ++ (word ++ codes "': give a number from 0 on")))

-- one name more of which is told what it means
abbrev pub with_name : Job → List ℕ → Job
with_name job word =
    record job { wanted = record job.wanted { names = job.wanted.names ++ word ∷ [] } }

-- the name of the file to which the linked files go
abbrev pub with_linked : Job → List ℕ → Job
with_linked job word = record job { wanted = record job.wanted { linked = Some word } }

-- the verdict told in a format
abbrev pub with_format : Job → Format → Job
with_format job format = record job { wanted = record job.wanted { format = format } }

-- the format that a word names
abbrev pub format_named : List ℕ → Option Format
format_named word =
    if bytes_eq word (codes "text") then Some Text
    else (if bytes_eq word (codes "json") then Some Json
    else (if bytes_eq word (codes "github") then Some GitHub
    else (if bytes_eq word (codes "gitlab") then Some GitLab
    else (if bytes_eq word (codes "sarif") then Some Sarif
    else None))))

-- the value of `--format`, if it names one
abbrev pub with_named_format : Job → List ℕ → Option Format → Reading
with_named_format job word (Some format) = reading.Reads (with_format job format)
with_named_format job word None = reading.Done (Wrong
    (codes "--format '" ++ (word ++ codes "': give text, json, github, gitlab or sarif")))

-- one older version more, by the name of its set
abbrev pub with_older : Job → List ℕ → Job
with_older job word = record job { against = job.against ++ word ∷ [] }

-- which version is to read what the other writes
abbrev pub compatibility : List ℕ → Option Compatibility
compatibility word =
    if bytes_eq word (codes "backward") then Some Backward
    else (if bytes_eq word (codes "forward") then Some Forward
    else (if bytes_eq word (codes "full") then Some Full
    else None))

-- the value of `--compatibility`, if it is one
abbrev pub with_compatibility : Job → List ℕ → Option Compatibility → Reading
with_compatibility job word (Some c) =
    reading.Reads (record job { wanted = record job.wanted { compatibility = Some c } })
with_compatibility job word None = reading.Done (Wrong
    (codes "--compatibility '" ++ (word ++ codes "': give backward, forward or full")))

-- the level that a word names
abbrev pub level_named : List ℕ → Option Level
level_named word =
    if bytes_eq word (codes "wire") then Some level.Wire
    else (if bytes_eq word (codes "json") then Some level.Json
    else (if bytes_eq word (codes "source") then Some level.Source
    else None))

-- the value of `--level`, if it names one
abbrev pub with_level : Job → List ℕ → Option Level → Reading
with_level job word (Some l) =
    reading.Reads (record job { wanted = record job.wanted { level = Some l } })
with_level job word None = reading.Done (Wrong
    (codes "--level '" ++ (word ++ codes "': give wire, json or source")))

-- the value of an option
abbrev pub with_value : Valued → Job → List ℕ → Reading
with_value valued.Format job word = with_named_format job word (format_named word)
with_value MaxFaults job word = with_most job word (max_faults word)
with_value Describe job word = reading.Reads (with_name job word)
with_value Linked job word = reading.Reads (with_linked job word)
with_value valued.Against job word = reading.Reads (with_older job word)
with_value valued.Compatibility job word = with_compatibility job word (compatibility word)
with_value valued.Level job word = with_level job word (level_named word)

-- what protoc refuses besides refused too
abbrev pub with_strict : Job → Job
with_strict job = record job { wanted = record job.wanted { strict = true } }

-- each declaration told
abbrev pub with_list : Job → Job
with_list job = record job { wanted = record job.wanted { lists = true } }

-- the first of unequal files of one name counts
abbrev pub with_first : Job → Job
with_first job = record job { wanted = record job.wanted { first_counts = true } }

-- the name of a file, or `-` for the standard input
abbrev pub with_file : Job → List ℕ → Job
with_file job word = record job { files = job.files ++ word ∷ [] }

-- the option that has a name, and a value behind it
abbrev pub valued_named : List ℕ → Option Valued
valued_named name =
    if bytes_eq name (codes "--format") then Some valued.Format
    else (if bytes_eq name (codes "--max-faults") then Some MaxFaults
    else (if bytes_eq name (codes "--describe") then Some Describe
    else (if bytes_eq name (codes "--linked") then Some Linked
    else (if bytes_eq name (codes "--against") then Some valued.Against
    else (if bytes_eq name (codes "--compatibility") then Some valued.Compatibility
    else (if bytes_eq name (codes "--level") then Some valued.Level
    else None))))))

-- an option that is not known, or the name of a file
abbrev pub with_other : Job → List ℕ → Reading
with_other job word = if is_option word
    then reading.Done (Wrong (codes "unknown option '" ++ (word ++ codes "'")))
    else reading.Reads (with_file job word)

-- whether a byte is `=`
abbrev pub is_equals : ℕ → Bool
is_equals c = nat_eq c 61

-- the option and the value of a word that has both, with a `=` between them
abbrev pub assigned : List ℕ → Option (Valued × List ℕ)
assigned word = if nat_lt (position_or_len is_equals word) (length word)
    then option_map (λ option. (option, after_first is_equals word))
    (valued_named (before_first is_equals word))
    else None

-- an option with its value, or another word
abbrev pub with_assigned : Job → List ℕ → Option (Valued × List ℕ) → Reading
with_assigned job word (Some (option, value)) = with_value option job value
with_assigned job word None = with_other job word

-- an option whose value is the next word, or another word
abbrev pub with_named : Job → List ℕ → Option Valued → Reading
with_named job word (Some option) = reading.Awaits option job
with_named job word None = with_assigned job word (assigned word)

-- a word
abbrev pub with_word : Job → List ℕ → Reading
with_word job word =
    if bytes_eq word (codes "--") then reading.Files job
    else (if bytes_eq word (codes "-h") || bytes_eq word (codes "--help") then reading.Done Help
    else (if bytes_eq word (codes "--version") then reading.Done Version
    else (if bytes_eq word (codes "--json") then reading.Reads (with_format job Json)
    else (if bytes_eq word (codes "--strict") then reading.Reads (with_strict job)
    else (if bytes_eq word (codes "--list") then reading.Reads (with_list job)
    else (if bytes_eq word (codes "--first") then reading.Reads (with_first job)
    else with_named job word (valued_named word)))))))

-- one word further: behind `--` the name of a file; what is done stays
abbrev pub step : Reading → List ℕ → Reading
step (reading.Reads job) word = with_word job word
step (reading.Files job) word = reading.Files (with_file job word)
step (reading.Awaits option job) word = with_value option job word
step (reading.Done request) word = reading.Done request

-- what is wanted behind an option that is the last word
abbrev pub awaited_words : Valued → List ℕ
awaited_words valued.Format = codes "--format: give text, json, github, gitlab or sarif"
awaited_words MaxFaults = codes "--max-faults: give a number from 0 on"
awaited_words Describe = codes "--describe: give a full name or the name of a file"
awaited_words Linked = codes "--linked: give the name of the file to write"
awaited_words valued.Against = codes "--against: give the name of the set of an older version"
awaited_words valued.Compatibility = codes "--compatibility: give backward, forward or full"
awaited_words valued.Level = codes "--level: give wire, json or source"

-- whether a format for programs is wanted, and something that it does not tell: declarations, or
-- what names mean
abbrev pub asks_too_much : Wanted → Bool
asks_too_much w = not (is_for_people w.format) && (w.lists || not (length w.names == 0))

-- whether it is said which version is to read, or at which level, and there is none to compare with
abbrev pub compares_nothing : Job → Bool
compares_nothing job =
    (is_some job.wanted.compatibility || is_some job.wanted.level) && length job.against == 0

-- what is asked where the words end
abbrev pub with_files : Job → Request
with_files job = if length job.files == 0 then Wrong (codes "no file is named")
    else (if asks_too_much job.wanted
    then Wrong
    (codes "a format for programs shows the verdict alone: leave out --list and --describe")
    else (if compares_nothing job
    then Wrong (codes "--compatibility and --level are about older versions: give --against")
    else Check job))

-- what is asked once all words are read
abbrev pub finished : Reading → Request
finished (reading.Reads job) = with_files job
finished (reading.Files job) = with_files job
finished (reading.Awaits option _) = Wrong (awaited_words option)
finished (reading.Done request) = request

-- what some words ask
abbrev pub request_of : List (List ℕ) → Request
request_of words = finished (fold step (reading.Reads no_job) words)

-- the arguments that there are, what the program does, and what they mean
abbrev pub help : List ℕ
help = USAGE.now ++ HELP.now
