-- One escape: what it takes of a text, and what then stands for what.
use Rattle.std.proofs.Common.{◌≡◌, ℕ, ◌≤◌, ◌+◌, Bool, true, false, cond, List, [], ◌∷◌, ◌++◌, length, refl, ap, sym, ◌∙◌, arith, Option, None, Some, Ok, Err, ◌&&◌, leb, append_assoc, length-append}
use Rattle.std.proofs.lemmas.Bool.{leb-true}
use Rattle.std.specs.Char.{digit_value}
use Rattle.field_rules.specs.declared.escape_faults.EscapeFault.{EscapeFault}
use Rattle.field_rules.specs.declared.escape_faults.EscapeFault.TheVariants.{InvalidHex, OctalTooLarge}
use Rattle.field_rules.specs.Escapes.{Escaped, itself, letter, octal_one, octal_two, octal_three, hexadecimal, EscapeRefused, One, is_backslash, is_hex_mark, is_octal, is_hex, letter_value, onto, starts_octal, one_escape, hex_escape, octal_second, octal_third, letter_escape}

-- an escape of a byte and what follows it
abbrev taking : ℕ → List ℕ → One
taking n v = Ok (n, v)

byte-same : (n b : ℕ) (v t : List ℕ) → taking n v ≡ taking b t → b ≡ n
byte-same n b v t e = let parts : (n, v) ≡ (b, t) = cc in sym (ap (λ (p : ℕ × List ℕ). p.0) parts)

rest-same : (n b : ℕ) (v t : List ℕ) → taking n v ≡ taking b t → v ≡ t
rest-same n b v t e = let parts : (n, v) ≡ (b, t) = cc in ap (λ (p : ℕ × List ℕ). p.1) parts

-- the escape behind s takes a front of v and leaves t, and gives b in front of any w that starts as t does
pub record Front (s : ℕ) (v : List ℕ) (b : ℕ) (t : List ℕ) : Type 0 where
  pub taken : List ℕ
  pub whole : v ≡ taken ++ t
  pub read : (w out : List ℕ) → (starts_octal t ≡ false → starts_octal w ≡ false) → Escaped w out → Escaped (s ∷ taken ++ w) (b ∷ out)

module _ (s : ℕ) (mark : is_backslash s ≡ true) (b : ℕ) (t : List ℕ) where
  front-hex-by : (x y z : ℕ) (v : List ℕ) (p q : Bool) → is_hex_mark x ≡ true → is_hex y ≡ p → is_hex z ≡ q
      → cond {A = One} (p && q) (Ok (onto 16 (digit_value y) z, v)) (Err InvalidHex) ≡ taking b t → Front s (x ∷ y ∷ z ∷ v) b t
  front-hex-by x y z v true true hx hy hz e =
      let same : v ≡ t = rest-same _ b v t e in
      let value : b ≡ onto 16 (digit_value y) z = byte-same _ b v t e in
      record { taken = x ∷ y ∷ z ∷ []; whole = ap (λ r. x ∷ y ∷ z ∷ r) same; read = λ w out go r. hexadecimal mark hx hy hz value r }
  front-hex-by x y z v true false hx hy hz e = cc
  front-hex-by x y z v false q hx hy hz e = cc

  front-hex : (x : ℕ) (v : List ℕ) → is_hex_mark x ≡ true → hex_escape v ≡ taking b t → Front s (x ∷ v) b t
  front-hex x [] hx e = cc
  front-hex x (y ∷ []) hx e = cc
  front-hex x (y ∷ z ∷ v) hx e = front-hex-by x y z v (is_hex y) (is_hex z) hx refl refl e

  front-three-fits : (x y z : ℕ) (v : List ℕ) (q : Bool) → is_octal x ≡ true → is_octal y ≡ true → is_octal z ≡ true → leb (onto 8 (onto 8 (digit_value x) y) z) 255 ≡ q
      → cond {A = One} q (Ok (onto 8 (onto 8 (digit_value x) y) z, v)) (Err OctalTooLarge) ≡ taking b t → Front s (x ∷ y ∷ z ∷ v) b t
  front-three-fits x y z v true hx hy hz fits e =
      let same : v ≡ t = rest-same _ b v t e in
      let value : b ≡ onto 8 (onto 8 (digit_value x) y) z = byte-same _ b v t e in
      let small : b ≤ 255 = rw value (leb-true (onto 8 (onto 8 (digit_value x) y) z) 255 fits) in
      record { taken = x ∷ y ∷ z ∷ []; whole = ap (λ r. x ∷ y ∷ z ∷ r) same; read = λ w out go r. octal_three mark hx hy hz value small r }
  front-three-fits x y z v false hx hy hz fits e = cc

  front-three : (x y z : ℕ) (v : List ℕ) (p : Bool) → is_octal x ≡ true → is_octal y ≡ true → is_octal z ≡ p
      → cond {A = One} p (cond {A = One} (leb (onto 8 (onto 8 (digit_value x) y) z) 255) (Ok (onto 8 (onto 8 (digit_value x) y) z, v)) (Err OctalTooLarge)) (Ok (onto 8 (digit_value x) y, z ∷ v)) ≡ taking b t
      → Front s (x ∷ y ∷ z ∷ v) b t
  front-three x y z v true hx hy hz e = front-three-fits x y z v (leb (onto 8 (onto 8 (digit_value x) y) z) 255) hx hy hz refl e
  front-three x y z v false hx hy hz e =
      let same : z ∷ v ≡ t = rest-same _ b (z ∷ v) t e in
      let value : b ≡ onto 8 (digit_value x) y = byte-same _ b (z ∷ v) t e in
      record { taken = x ∷ y ∷ []; whole = ap (λ r. x ∷ y ∷ r) same; read = λ w out go r. octal_two mark hx hy (go (ap starts_octal (sym same) ∙ hz)) value r }

  front-two-all : (x y : ℕ) (v : List ℕ) → is_octal x ≡ true → is_octal y ≡ true → octal_third (onto 8 (digit_value x) y) v ≡ taking b t → Front s (x ∷ y ∷ v) b t
  front-two-all x y [] hx hy e =
      let same : [] ≡ t = rest-same _ b [] t e in
      let value : b ≡ onto 8 (digit_value x) y = byte-same _ b [] t e in
      record { taken = x ∷ y ∷ []; whole = ap (λ r. x ∷ y ∷ r) same; read = λ w out go r. octal_two mark hx hy (go (ap starts_octal (sym same))) value r }
  front-two-all x y (z ∷ v) hx hy e = front-three x y z v (is_octal z) hx hy refl e

  front-two : (x y : ℕ) (v : List ℕ) (p : Bool) → is_octal x ≡ true → is_octal y ≡ p
      → cond {A = One} p (octal_third (onto 8 (digit_value x) y) v) (Ok (digit_value x, y ∷ v)) ≡ taking b t → Front s (x ∷ y ∷ v) b t
  front-two x y v true hx hy e = front-two-all x y v hx hy e
  front-two x y v false hx hy e =
      let same : y ∷ v ≡ t = rest-same _ b (y ∷ v) t e in
      let value : b ≡ digit_value x = byte-same _ b (y ∷ v) t e in
      record { taken = x ∷ []; whole = ap (λ r. x ∷ r) same; read = λ w out go r. octal_one mark hx (go (ap starts_octal (sym same) ∙ hy)) value r }

  front-octal : (x : ℕ) (v : List ℕ) → is_octal x ≡ true → octal_second (digit_value x) v ≡ taking b t → Front s (x ∷ v) b t
  front-octal x [] hx e =
      let same : [] ≡ t = rest-same _ b [] t e in
      let value : b ≡ digit_value x = byte-same _ b [] t e in
      record { taken = x ∷ []; whole = ap (λ r. x ∷ r) same; read = λ w out go r. octal_one mark hx (go (ap starts_octal (sym same))) value r }
  front-octal x (y ∷ v) hx e = front-two x y v (is_octal y) hx refl e

  front-letter : (x : ℕ) (v : List ℕ) (o : Option ℕ) → letter_value x ≡ o → letter_escape o v ≡ taking b t → Front s (x ∷ v) b t
  front-letter x v None hx e = cc
  front-letter x v (Some n) hx e =
      let same : v ≡ t = rest-same _ b v t e in
      let value : n ≡ b = sym (byte-same n b v t e) in
      record { taken = x ∷ []; whole = ap (λ r. x ∷ r) same; read = λ w out go r. letter mark (hx ∙ ap Some value) r }

  front-by : (x : ℕ) (v : List ℕ) (p q : Bool) → is_hex_mark x ≡ p → is_octal x ≡ q
      → cond {A = One} p (hex_escape v) (cond {A = One} q (octal_second (digit_value x) v) (letter_escape (letter_value x) v)) ≡ taking b t → Front s (x ∷ v) b t
  front-by x v true q hx hq e = front-hex x v hx e
  front-by x v false true hx hq e = front-octal x v hq e
  front-by x v false false hx hq e = front-letter x v (letter_value x) refl e

  pub front-of : (v : List ℕ) → one_escape v ≡ taking b t → Front s v b t
  front-of [] e = cc
  front-of (x ∷ v) e = front-by x v (is_hex_mark x) (is_octal x) refl refl e

-- one byte more, of a text of which a rest is left
pub record Step (text : List ℕ) (b : ℕ) (rest : List ℕ) : Type 0 where
  pub good : (out : List ℕ) → Escaped rest out → Escaped text (b ∷ out)
  pub bad : (f : EscapeFault) → EscapeRefused rest f → EscapeRefused text f
  pub shorter : 1 + length rest ≤ length text

pub step-itself : (c : ℕ) (t : List ℕ) → is_backslash c ≡ false → Step (c ∷ t) c t
step-itself c t plain = record {
  good = λ out r. itself plain r;
  bad = λ f (u, v, out, s, e, mark, r, g). (c ∷ u, v, c ∷ out, s, ap (λ l. c ∷ l) e, mark, itself plain r, g);
  shorter = omega arith;
}

starts-as : (t u v : List ℕ) (s : ℕ) → t ≡ u ++ s ∷ v → starts_octal t ≡ false → starts_octal u ≡ false
starts-as t [] v s e h = refl
starts-as t (c ∷ u) v s e h = ap starts_octal (sym e) ∙ h

pub step-escape : (s : ℕ) (v : List ℕ) (b : ℕ) (t : List ℕ) → is_backslash s ≡ true → one_escape v ≡ Ok (b, t) → Step (s ∷ v) b t
step-escape s v b t mark e =
    let front : Front s v b t = front-of s mark b t v e in
    record {
      good = λ out r. rw (front.whole) (front.read t out (λ h. h) r);
      bad = λ f (u, w, out, z, g, zmark, r, refused). (
        s ∷ front.taken ++ u,
        w,
        b ∷ out,
        z,
        ap (λ l. s ∷ l) (front.whole ∙ ap (λ l. front.taken ++ l) g ∙ sym (append_assoc front.taken u (z ∷ w))),
        zmark,
        front.read u out (starts-as t u w z g) r,
        refused,
      );
      shorter = omega (arith, ap length front.whole, length-append front.taken t);
    }
