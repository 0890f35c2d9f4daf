-- What is kept of locations that were gone through once.
use Rattle.std.specs.Prelude.{◌≡◌, ℕ, ℤ, List, find, map, nat_eq}
use Rattle.std.specs.Borrow.{Bor}
use Rattle.std.specs.Cmp.Lexicographic.{pointwise}
use Rattle.std.specs.HashMap.{HashMap, get, get_by}
use Rattle.std.specs.Option.{IfSome, option_map}
use Rattle.std.specs.Ordering.{int_eq}
use Rattle.std.specs.declared.option.Option.{Option}
use Rattle.pool_types.specs.declared.contents.file.FileDescriptorInner.{FileDescriptorInner}
use Rattle.proto_types.specs.declared.records.source.Location.{Location}
use Rattle.pool_faults.specs.Labels.{locations, span_of}
use Rattle.proto_types.specs.File.{file_at}

-- a table has under each path the span of the first of some locations with that path, and nothing
-- under any other
abbrev pub HasFirstSpans : {S : Type 0} → HashMap (Bor (List ℤ)) (Option (List ℤ)) S → List Location
    → Type 0
HasFirstSpans table ls = (path : List ℤ) → get_by (λ k. pointwise int_eq path k.now) table
    ≡ option_map (λ l. span_of l.span) (find (λ l. pointwise int_eq l.path path) ls)

-- a table has under the index of a file all locations of that file, where it has something
abbrev pub AreOfFiles : {S : Type 0} → HashMap ℕ (List Location) S → List FileDescriptorInner
    → Type 0
AreOfFiles spans files = (n : ℕ)
    → IfSome (get nat_eq spans n) (λ ls. ls ≡ locations (file_at (map (λ f. f.raw) files) n))
