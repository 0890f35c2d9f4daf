-- Which number of a closed enum a new kind lacks.
use Rattle.std.specs.Prelude.{ℕ, ℤ, not, find, option_map, Option, None, if◌then◌else◌}
use Rattle.pool_types.specs.declared.kinds.KindIndex.{KindIndex}
use Rattle.pool_types.specs.declared.kinds.KindIndex.TheVariants as index
use Rattle.schema_changes.specs.Kinds.{holds, is_plain}
use Rattle.schema_changes.specs.Parts.{Parts, is_open, values_of}

-- the first number of an enum that a new kind lacks, if the enum is closed and the two are encoded
-- alike
abbrev pub lacking_of : Parts → ℕ → Parts → KindIndex → Option ℤ
lacking_of old e new l = if is_open old e then None
    else (if is_plain l
    then option_map (λ v. v.number) (find (λ v. not (holds new l v.number)) (values_of old e))
    else None)

-- the first number of a closed enum that a new kind lacks, where the two are encoded alike
abbrev pub lacking : Parts → KindIndex → Parts → KindIndex → Option ℤ
lacking old (index.Enum e) new l = lacking_of old e new l
lacking old _ new l = None
