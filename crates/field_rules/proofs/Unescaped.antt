-- The function on texts is the relations, so both give one thing.
use Rattle.std.proofs.Common.{◌≡◌, ℕ, Bool, true, false, cond, List, [], ◌∷◌, ◌++◌, length, refl, ap, sym, ◌∙◌, subst, Option, None, Some, Ok, Err, leb, ◌&&◌, append-nil}
use Rattle.std.proofs.Math.Nat.{le_refl}
use Rattle.std.specs.Char.{digit_value}
use Rattle.field_rules.specs.declared.escape_faults.EscapeFault.{EscapeFault}
use Rattle.field_rules.specs.declared.escape_faults.EscapeFault.TheVariants.{InvalidHex, OctalTooLarge, OutOfMemory}
use Rattle.field_rules.specs.Escapes.{Escaped, EscapeRefused, One, Bytes, is_hex_mark, is_octal, is_hex, letter_value, onto, one_escape, hex_escape, octal_second, octal_third, letter_escape, unescaped, UnescapedIsEscaped, EscapedIsOne, RefusedIsOne}
use Rattle.field_rules.proofs.Reading.{Decides, bytes_before, decides, gives-nothing, gives-refused, gives-behind, mark-no-digit}

good-of : (t out : List ℕ) (r : Bytes) → Decides t r → r ≡ Ok out → Escaped t out
good-of t out r h e = subst (Decides t) e h

bad-of : (t : List ℕ) (f : EscapeFault) (r : Bytes) → Decides t r → r ≡ Err f → EscapeRefused t f
bad-of t f r h e = subst (Decides t) e h

before-ok : (out : List ℕ) → bytes_before out (Ok []) ≡ Ok out
before-ok [] = refl
before-ok (b ∷ out) = rw (before-ok out)

before-err : (out : List ℕ) (f : EscapeFault) → bytes_before out (Err f) ≡ Err f
before-err [] f = refl
before-err (b ∷ out) f = rw (before-err out f)

pub good : (t out : List ℕ) → Escaped t out → unescaped t ≡ Ok out
good t out e = subst (λ (l : List ℕ). unescaped l ≡ Ok out) (append-nil t) (gives-behind e [] (Ok []) refl gives-nothing (length (t ++ [])) (le_refl (length (t ++ []))) ∙ before-ok out)

pub bad : (t : List ℕ) (f : EscapeFault) → EscapeRefused t f → unescaped t ≡ Err f
bad t f (u, v, out, s, e, mark, front, refused) =
    subst (λ (l : List ℕ). unescaped l ≡ Err f) (sym e)
    (gives-behind front (s ∷ v) (Err f) (mark-no-digit s v mark) (gives-refused s v f mark refused) (length (u ++ s ∷ v)) (le_refl (length (u ++ s ∷ v))) ∙ before-err out f)

pub unescaped-is-escaped : UnescapedIsEscaped
unescaped-is-escaped t out f = (
  (λ e. good-of t out (unescaped t) (decides (length t) t (le_refl (length t))) e, λ e. good t out e),
  (λ e. bad-of t f (unescaped t) (decides (length t) t (le_refl (length t))) e, λ e. bad t f e),
)

-- no escape is refused for want of memory
abbrev IsTold : One → Type 0
IsTold (Err OutOfMemory) = ⊥
IsTold _ = Unit {0}

told-hex-by : (p : Bool) (one : ℕ × List ℕ) → IsTold (cond {A = One} p (Ok one) (Err InvalidHex))
told-hex-by true one = tt
told-hex-by false one = tt

told-hex : (t : List ℕ) → IsTold (hex_escape t)
told-hex [] = tt
told-hex (a ∷ []) = tt
told-hex (a ∷ b ∷ t) = told-hex-by (is_hex a && is_hex b) (onto 16 (digit_value a) b, t)

told-third-by : (p q : Bool) (one other : ℕ × List ℕ) → IsTold (cond {A = One} p (cond {A = One} q (Ok one) (Err OctalTooLarge)) (Ok other))
told-third-by true true one other = tt
told-third-by true false one other = tt
told-third-by false q one other = tt

told-third : (n : ℕ) (t : List ℕ) → IsTold (octal_third n t)
told-third n [] = tt
told-third n (c ∷ t) = told-third-by (is_octal c) (leb (onto 8 n c) 255) (onto 8 n c, t) (n, c ∷ t)

told-second-by : (p : Bool) (r : One) (other : ℕ × List ℕ) → IsTold r → IsTold (cond {A = One} p r (Ok other))
told-second-by true r other h = h
told-second-by false r other h = tt

told-second : (n : ℕ) (t : List ℕ) → IsTold (octal_second n t)
told-second n [] = tt
told-second n (c ∷ t) = told-second-by (is_octal c) (octal_third (onto 8 n c) t) (n, c ∷ t) (told-third (onto 8 n c) t)

told-letter : (o : Option ℕ) (t : List ℕ) → IsTold (letter_escape o t)
told-letter None t = tt
told-letter (Some v) t = tt

told-by : (p q : Bool) (x y z : One) → IsTold x → IsTold y → IsTold z → IsTold (cond {A = One} p x (cond {A = One} q y z))
told-by true q x y z hx hy hz = hx
told-by false true x y z hx hy hz = hy
told-by false false x y z hx hy hz = hz

told : (v : List ℕ) → IsTold (one_escape v)
told [] = tt
told (c ∷ t) =
    told-by (is_hex_mark c) (is_octal c) (hex_escape t) (octal_second (digit_value c) t) (letter_escape (letter_value c) t) (told-hex t) (told-second (digit_value c) t)
    (told-letter (letter_value c) t)

not-memory : (t : List ℕ) (f : EscapeFault) → EscapeRefused t f → f ≡ OutOfMemory → ⊥
not-memory t f (u, v, out, s, e, mark, front, refused) h = subst IsTold (refused ∙ ap Err h) (told v)

pub escaped-is-one : EscapedIsOne
escaped-is-one t out e = (λ other h. let a = good t out e in let b = good t other h in cc, λ f h. let a = good t out e in let b = bad t f h in cc)

pub refused-is-one : RefusedIsOne
refused-is-one t f h = (λ g k. let a = bad t f h in let b = bad t g k in cc, not-memory t f h)
