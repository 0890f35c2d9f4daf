-- Whether a reference is there, by what it leads to.
use Rattle.std.proofs.Common.{◌≡◌, Option, Some, None, Bor, is_some, refl}
use Rattle.std.specs.Option.{option_copied}

pub is_some-copied : {X : Type 0} (o : Option (Bor X)) → is_some o ≡ is_some (option_copied o)
is_some-copied None = refl
is_some-copied (Some x) = refl
