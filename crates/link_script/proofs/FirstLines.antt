-- The first line of bytes, by where its line feed stands.
use Rattle.std.proofs.Common.{◌≡◌, ℕ, ◌+◌, ◌-◌, ◌<◌, List, [], ◌∷◌, length, take, drop, Some, None, ap, sym, ◌∙◌, arith}
use Rattle.std.specs.List.{position}
use Rattle.std.proofs.lemmas.List.{take_all, length-drop}
use Rattle.link_script.specs.declared.script.lines.FirstLine.{FirstLine}
use Rattle.link_script.specs.Script.Words.{lines}
use Rattle.link_script.specs.Script.Answers.{bytes_left, IsFirstLine, IsTextOf}
use Rattle.link_script.proofs.Words.{is_feed, at-position, line-ended, line-last}

-- the line ends at a line feed
pub ended : (bs : List ℕ) (end : ℕ) (first : FirstLine) → position is_feed bs ≡ Some end → first.bytes.now ≡ take end bs → bytes_left first.rest ≡ drop (end + 1) bs
    → IsTextOf first.text first.bytes.now → IsFirstLine bs first
ended bs end first h line rest text =
    let at = at-position is_feed bs end h in
    (line-ended bs end h ∙ (λ i. sym line i ∷ lines (sym rest i)), omega (arith, ap length rest, length-drop (end + 1) bs, at.0), text)

-- the same where what is left is cut at its length
pub ended-within : (bs : List ℕ) (end : ℕ) (first : FirstLine) → position is_feed bs ≡ Some end → first.bytes.now ≡ take end bs
    → bytes_left first.rest ≡ take (length bs - (end + 1)) (drop (end + 1) bs) → IsTextOf first.text first.bytes.now → IsFirstLine bs first
ended-within bs end first h line rest text =
    ended bs end first h line (rest ∙ take_all (length bs - (end + 1)) (drop (end + 1) bs) (omega (arith, length-drop (end + 1) bs))) text

-- no line feed stands behind the line
pub whole : (bs : List ℕ) (first : FirstLine) → 0 < length bs → position is_feed bs ≡ None → first.bytes.now ≡ bs → bytes_left first.rest ≡ []
    → IsTextOf first.text first.bytes.now → IsFirstLine bs first
whole bs first some h line rest text = (line-last bs some h ∙ (λ i. sym line i ∷ lines (sym rest i)), omega (arith, ap length rest, some), text)
