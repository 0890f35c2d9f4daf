-- What a roll-back leaves, once a name came.
use Rattle.std.proofs.Common.{◌≡◌, ◌≤◌, ℕ, List, Result, Ok, Err, OnOk, OnErr, None, ap, ◌∙◌}
use Rattle.std.specs.FinMap as finite
use Rattle.pool_types.specs.Contents.{ByText}
use Rattle.name_tables.specs.NameTables.{kept_before}
use Rattle.name_tables.proofs.Earlier.{later-goes}

-- a name of a later file was added, or memory was refused
pub stays-before : {X U E : Type 0} (file_of : X → ℕ) (r : Result U E) (n : ℕ) (old new : ByText X) (name : List ℕ) (x : X)
    → finite.get old name ≡ None → n ≤ file_of x → OnOk r (new ≡ finite.insert old name x) → OnErr r (new ≡ old)
    → kept_before file_of n new ≡ kept_before file_of n old
stays-before file_of (Ok u) n old new name x absent later ok err = ap (kept_before file_of n) ok ∙ later-goes file_of n old name x absent later
stays-before file_of (Err e) n old new name x absent later ok err = ap (kept_before file_of n) err
