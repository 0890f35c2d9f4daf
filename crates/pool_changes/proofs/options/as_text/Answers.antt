use Rattle.std.proofs.Common.{◌≡◌, Bool, true, false, List, ℕ, Some, None, refl, sym, ap, ◌∙◌}
use Rattle.std.specs.Str.{IsUtf8, is_utf8}
use Rattle.std.proofs.lemmas.Str.{is_utf8-from_IsUtf8, IsUtf8-from_is_utf8}
use Rattle.pool_changes.specs.Options.{as_text}
use Rattle.pool_changes.proofs.options.as_text.Goals as goal

not_true : (b : Bool) → (b ≡ true → ⊥) → b ≡ false
not_true true h = absurd (h refl)
not_true false h = refl

utf8 : (bytes : List ℕ) → IsUtf8 bytes → as_text bytes ≡ Some bytes
utf8 bytes h = rw (is_utf8-from_IsUtf8 bytes h) refl

no_utf8 : (bytes : List ℕ) → (IsUtf8 bytes → ⊥) → as_text bytes ≡ None
no_utf8 bytes h = rw (not_true (is_utf8 bytes) (λ e. h (IsUtf8-from_is_utf8 bytes e))) refl

pub returns-in-Ok : goal.returns-in-Ok
returns-in-Ok c = ap Some c.in-Ok.ensures.cases.0 ∙ sym (utf8 _ c.in-Ok.ensures.cases.1)

pub returns-in-Err : goal.returns-in-Err
returns-in-Err c = sym (no_utf8 _ c.in-Err.ensures.cases.0)
