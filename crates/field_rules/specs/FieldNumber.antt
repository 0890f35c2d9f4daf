-- Numbers of fields (the protobuf language rules on field numbers).
use Rattle.std.specs.Prelude.{ℤ, pos, Bool, not, ◌&&◌, int_le}

-- whether a field may have a number: 1 to 536,870,911, but for 19,000 to 19,999, which the
-- implementation keeps for itself
abbrev pub is_valid_number : ℤ → Bool
is_valid_number n = (int_le (pos 1) n && int_le n (pos 536870911))
    && not (int_le (pos 19000) n && int_le n (pos 19999))
