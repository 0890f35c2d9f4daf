use Rattle.std.proofs.Common.{◌≡◌, Bool, true, false, List, ℕ, Ok, Err, refl, sym, ap, ◌∙◌}
use Rattle.std.specs.Str.{IsUtf8, is_utf8}
use Rattle.std.proofs.lemmas.Str.{is_utf8-from_IsUtf8, IsUtf8-from_is_utf8}
use Rattle.wire_format.specs.declared.fault.WireFaultKind.TheVariants.{NotUtf8}
use Rattle.wire_format.specs.Faults.{fault}
use Rattle.descriptor_decoding.specs.Parts.{text_of}
use Rattle.protoc_gen_protolink.proofs.requests.text.Goals as goal

not_true : (b : Bool) → (b ≡ true → ⊥) → b ≡ false
not_true true h = absurd (h refl)
not_true false h = refl

utf8 : (ends : ℕ) (bytes : List ℕ) → IsUtf8 bytes → text_of ends bytes ≡ Ok bytes
utf8 ends bytes h = rw (is_utf8-from_IsUtf8 bytes h) refl

no_utf8 : (ends : ℕ) (bytes : List ℕ) → (IsUtf8 bytes → ⊥) → text_of ends bytes ≡ Err (fault NotUtf8 ends bytes)
no_utf8 ends bytes h = rw (not_true (is_utf8 bytes) (λ e. h (IsUtf8-from_is_utf8 bytes e))) refl

pub returns-in_ok-from_str-in-Ok : goal.returns-in_ok-from_str-in-Ok
returns-in_ok-from_str-in-Ok c = utf8 _ _ c.in-Ok.ensures.cases.1 ∙ ap Ok (sym (c.in_ok-from_str-in-Ok.ensures ∙ c.in-Ok.ensures.cases.0))

pub returns-in-Err : goal.returns-in-Err
returns-in-Err c = rw c.new.ensures (no_utf8 _ _ c.in-Err.ensures.cases.0)
