-- What becomes of names where one comes, and what is left of them where files are taken away.
use Rattle.std.specs.Prelude.{◌≡◌, ◌<◌, ◌≤◌, ℕ, List, None, Some, IfSome, false, nat_lt}
use Rattle.std.specs.Option.{option_map_or}
use Rattle.std.specs.declared.option.Option.{Option}
use Rattle.std.specs.FinMap as map
use Rattle.pool_types.specs.Contents.{ByText}
use Rattle.pool_types.specs.declared.contents.definition.Definition.{Definition}

-- names with one more, and nothing; or where they have it, the same names and what it was to mean
abbrev pub inserted : ByText Definition → List ℕ → Definition → ByText Definition
    × Option Definition
inserted names name d =
    option_map_or (λ _. (names, Some d)) (map.get names name) (map.insert names name d, None)

-- of what lies in files, the map of what lies in a file before n
abbrev pub kept_before : {X : Type 0} → (X → ℕ) → ℕ → ByText X → ByText X
kept_before file_of n names =
    map.retain_keys names
    (λ name. option_map_or (λ x. nat_lt (file_of x) n) (map.get names name) false)

-- names without those whose definitions lie in file n or in a later one
abbrev pub without_files_from : ℕ → ByText Definition → ByText Definition
without_files_from n names = kept_before (λ d. d.file) n names

-- the names of files, without those of file n and of later ones
abbrev pub file_names_before : ℕ → ByText ℕ → ByText ℕ
file_names_before n names = kept_before (λ file. file) n names

-- each definition lies in a file before n
abbrev pub AllBefore : ℕ → ByText Definition → Type 0
AllBefore n names = (name : List ℕ) → IfSome (map.get names name) (λ d. d.file < n)

-- each file is one before n
abbrev pub FileNamesBefore : ℕ → ByText ℕ → Type 0
FileNamesBefore n names = (name : List ℕ) → IfSome (map.get names name) (λ file. file < n)

-- law: names whose definitions all lie in files before n stay where the others are taken away
abbrev pub EarlierNamesStay : Type 0
EarlierNamesStay = (n : ℕ) (names : ByText Definition) → AllBefore n names
    → without_files_from n names ≡ names

-- law: a name that is added with file n or a later one goes with these
abbrev pub LaterNameGoes : Type 0
LaterNameGoes =
    (n : ℕ) (names : ByText Definition) (name : List ℕ) (d : Definition) → map.get names name ≡ None
    → n ≤ d.file → without_files_from n (map.insert names name d) ≡ without_files_from n names
