use Rattle.std.proofs.Common.{◌≡◌, ◌∙◌, ◌+◌, ◌/◌, ℕ, suc, List, length, take, drop, w64, ap, sym, arith}
use Rattle.std.specs.Int.{from_le_bytes}
use Rattle.plain_data.specs.Digests.{with_ending, with_words, taken_in}
use Rattle.plain_data.proofs.digests.digest_after.Goals as goal

-- eight bytes less are one word less
word_less : (rest behind : List ℕ) → length behind + 8 ≡ length rest → length rest / 8 ≡ suc (length behind / 8)
word_less rest behind fewer = omega (arith, fewer)

-- a word taken in makes the digest of what is left the same
step : (digest : ℕ) (rest : List ℕ) → length (drop 8 rest) + 8 ≡ length rest
    → with_words (length (drop 8 rest) / 8) (taken_in digest (from_le_bytes w64 (take 8 rest))) (drop 8 rest) ≡ with_words (length rest / 8) digest rest
step digest rest fewer = ap (λ words. with_words words digest rest) (sym (word_less rest (drop 8 rest) fewer))

pub loop-word-preserved : goal.loop-word-preserved
loop-word-preserved c =
    let is = c.in-Some.ensures.cases in
    let fewer : length (drop 8 c.loop-word.rest.now) + 8 ≡ length c.loop-word.rest.now = rw (← is.1) is.2 in
    rw (c.taken_in-digest.ensures, c.from_le_bytes.ensures, is.0, is.1) (step c.loop-word.digest c.loop-word.rest.now fewer ∙ c.loop-word.invariant)

pub returns : goal.returns
returns c =
    let none : length c.loop-word.rest.now / 8 ≡ 0 = omega (arith, c.in_default.ensures.cases) in
    c.with_ending.ensures
    ∙ ap (λ words. with_ending (with_words words c.loop-word.digest c.loop-word.rest.now) c.args.text.now) (sym none)
    ∙ ap (λ digest. with_ending digest c.args.text.now) c.loop-word.invariant
