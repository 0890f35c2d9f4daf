use Rattle.std.proofs.Common.{rules, arith, ◌≡◌, ◌+◌, ℕ, Bool, true, false, cond, List, Option, Some, ap, ◌∙◌, unwrap_or, refl, if◌then◌else◌}
use Rattle.std.specs.Cmp.Lexicographic.{nat_list_eq_equiv}
use Rattle.std.specs.HashMap.{get_by}
use Rattle.std.specs.Map.{update}
use Rattle.std.specs.Str.{bytes_eq}
use Rattle.std.proofs.lemmas.Map.Text.{hash_map_updates_str}
use Rattle.std.proofs.lemmas.Slice.Eq.{bytes_eq-Decides}
use Rattle.verdict_texts.specs.Fingerprints as spec
use Rattle.verdict_texts.proofs.fingerprints.count.Goals as goal

-- a text that is counted once more, and another
one-more : (before : List ℕ → Option ℕ) (text other : List ℕ) (n : ℕ) → n ≡ unwrap_or (before text) 0 + 1
    → unwrap_or (update bytes_eq before text (Some n) other) 0 ≡ unwrap_or (before other) 0 + (if bytes_eq other text then 1 else 0)
one-more before text other n is = rw (nat_list_eq_equiv.symm other text) (go (bytes_eq text other) refl)
  where
    go : (same : Bool) → bytes_eq text other ≡ same → unwrap_or (cond same (Some n) (before other)) 0 ≡ unwrap_or (before other) 0 + (if same then 1 else 0)
    go true e = is ∙ ap (λ t. unwrap_or (before t) 0 + 1) ((bytes_eq-Decides text other).0 e)
    go false e = omega arith

pub returns-clause-all : goal.returns-clause-all
returns-clause-all c = λ other.
    let is = hash_map_updates_str c.args.text.now c.args.counts.now c.insert.new.self _ c.in_ok-insert.ensures.updates other in
    let nth : c.unwrap_or-nth.result ≡ spec.counted c.args.counts.now c.args.text.now = search rules in
    ap (λ o. unwrap_or o 0) is ∙ one-more (λ text. get_by (λ k. bytes_eq text k.now) c.args.counts.now) c.args.text.now other (c.unwrap_or-nth.result + 1) (ap (λ n. n + 1) nth)
