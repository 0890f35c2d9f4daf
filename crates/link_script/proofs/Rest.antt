-- What stands behind the first space, by its position.
use Rattle.std.proofs.Common.{◌≡◌, ◌≢◌, ℕ, suc, ◌+◌, ◌<◌, Bool, true, false, not, cond, eqb, List, [], ◌∷◌, length, drop, Some, None, refl, ap, ◌∙◌, arith}
use Rattle.std.proofs.lemmas.Bool.Decides.{nat_tests}
use Rattle.std.specs.List.{position_or_len, after_first, prefix_len}
use Rattle.link_script.specs.Script.Arguments.{behind_first_space, behind_spaces}

abbrev is_space : ℕ → Bool
is_space c = eqb c 32

-- how far the first space is
abbrev far : List ℕ → ℕ
far cs = prefix_len (λ c. not (is_space c)) cs

pub without-space : (line : List ℕ) → position_or_len is_space line ≡ length line → behind_first_space line ≡ None
without-space [] h = refl
without-space (c ∷ cs) h = (elim (is_space c) as (λ b. cond (not b) (1 + far cs) 0 ≡ suc (length cs) → cond b (Some cs) (behind_first_space cs) ≡ None)
    [ true ↦ λ e. absurd (omega arith) | false ↦ λ e. without-space cs (omega arith) ]) h

pub with-space : (line : List ℕ) → position_or_len is_space line < length line → behind_first_space line ≡ Some (after_first is_space line)
with-space [] h = absurd (omega arith)
with-space (c ∷ cs) h = (elim (is_space c) as (λ b. cond (not b) (1 + far cs) 0 < suc (length cs) → cond b (Some cs) (behind_first_space cs) ≡ Some (drop (cond (not b) (1 + far cs) 0 + 1) (c ∷ cs)))
    [ true ↦ λ e. refl | false ↦ λ e. with-space cs (omega arith) ∙ (let next : suc (far cs + 1) ≡ 1 + far cs + 1 = omega arith in ap (λ n. Some (drop n (c ∷ cs))) next) ]) h

-- a text that does not begin with a space
pub no-space : (line : List ℕ) → ((rest : List ℕ) → line ≢ 32 ∷ rest) → line ≡ behind_spaces line
no-space [] h = refl
no-space (c ∷ cs) h =
    let other : c ≢ 32 = λ e. h cs (ap (λ d. d ∷ cs) e) in
    let fails : eqb c 32 ≡ false = grind (arith, nat_tests) in
    rw fails refl
