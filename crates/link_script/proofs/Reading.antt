-- What lines say, one after another.
use Rattle.std.proofs.Common.{◌≡◌, ℕ, suc, Bool, true, false, cond, not, List, ◌∷◌, ◌++◌, refl, ap, sym, ◌∙◌, add-one, ◌+◌, Option, Some, None, is_some, Result, Ok, Err}
use Rattle.std.specs.Str.{IsUtf8, is_utf8}
use Rattle.std.proofs.lemmas.Str.{IsUtf8-from_is_utf8, is_utf8-from_IsUtf8}
use Rattle.link_script.specs.declared.script.statement.Statement.{Statement}
use Rattle.link_script.specs.declared.script.statement.Script.{Script}
use Rattle.link_script.specs.declared.script.statement.ScriptFault.{ScriptFault}
use Rattle.link_script.specs.declared.script.statement.ScriptFault.TheVariants.{BadText}
use Rattle.link_script.specs.Script.Words.{lines, words}
use Rattle.link_script.specs.Script.Keyword.{Standing, standing_after}
use Rattle.link_script.specs.Script.Answers.{after_line}
use Rattle.link_script.specs.Script.Left.{IsNext}
use Rattle.link_script.specs.Script.Reading as spec

pub line_said-text : (here : Standing) (line text : List ℕ) → (text ≡ line) × IsUtf8 line → spec.of_words here text (words text) ≡ spec.line_said here line
line_said-text here line text whole =
    ap (λ t. spec.of_words here t (words t)) whole.0
    ∙ ap (λ b. cond (not b) (Err BadText) (spec.of_words here line (words line))) (sym (is_utf8-from_IsUtf8 line whole.1))

broken : (b : Bool) → (b ≡ true → ⊥) → not b ≡ true
broken true h = absurd (h refl)
broken false h = refl

pub line_said-broken : (here : Standing) (line : List ℕ) → (IsUtf8 line → ⊥) → spec.line_said here line ≡ Err BadText
line_said-broken here line h = ap (λ b. cond b (Err BadText) (spec.of_words here line (words line))) (broken (is_utf8 line) (λ u. h (IsUtf8-from_is_utf8 line u)))

-- a script whose statements stand behind others
abbrev pub behind : List Statement → Script → Script
behind before said = record said { statements = before ++ said.statements }

abbrev After : Type 0
After = Result (Option Statement × Standing) ScriptFault

err-ok : (fault : ScriptFault) (p : Option Statement × Standing) → (r : After) → r ≡ Err fault → r ≡ Ok p → ⊥
err-ok fault p r e h = cc

ok-ok : (p q : Option Statement × Standing) → (r : After) → r ≡ Ok p → r ≡ Ok q → p ≡ q
ok-ok p q r e h = cc

-- a script behind what a line says
abbrev pub with_said : Option Statement → Script → Script
with_said None said = said
with_said (Some s) said = spec.after_statement s said

-- what the lines from a line on say, by what that line says
abbrev saying : ℕ → Standing → List (List ℕ) → spec.Saying → Script
saying n here rest (Err fault) = spec.faulty n fault
saying n here rest (Ok None) = spec.said_from (suc n) here rest
saying n here rest (Ok (Some s)) = spec.after_statement s.1 (spec.said_from (suc n) (standing_after here s.0) rest)

step : (n : ℕ) (here opened : Standing) (rest : List (List ℕ)) (said : Option Statement) (line : spec.Saying)
    → after_line line here ≡ Ok (said, opened) → saying n here rest line ≡ with_said said (spec.said_from (suc n) opened rest)
step n here opened rest said (Err fault) h = absurd (err-ok fault _ _ refl h)
step n here opened rest said (Ok None) h = let e = ok-ok _ _ _ refl h in λ i. with_said (e i).0 (spec.said_from (suc n) (e i).1 rest)
step n here opened rest said (Ok (Some s)) h = let e = ok-ok _ _ _ refl h in λ i. with_said (e i).0 (spec.said_from (suc n) (e i).1 rest)

-- a line that is read, and the lines behind it
pub said_from-line : (n : ℕ) (here opened : Standing) (left line rest : List ℕ) (said : Option Statement) → lines left ≡ line ∷ lines rest
    → after_line (spec.line_said here line) here ≡ Ok (said, opened) → spec.said_from n here (lines left) ≡ with_said said (spec.said_from (n + 1) opened (lines rest))
said_from-line n here opened left line rest said first h =
    ap (spec.said_from n here) first
    ∙ step n here opened (lines rest) said (spec.line_said here line) h
    ∙ ap (λ k. with_said said (spec.said_from k opened (lines rest))) (sym (add-one n))
