use Rattle.std.proofs.Common.{◌≡◌, ℕ, List, ◌++◌, append_assoc}
use Rattle.verdict_texts.specs.Quality.{quality_object}
use Rattle.verdict_texts.proofs.quality.write_object.Goals as goal

-- five parts behind a text, one after the other
behind : (t t1 t2 t3 t4 t5 a b c d e : List ℕ) → t1 ≡ t ++ a → t2 ≡ t1 ++ b → t3 ≡ t2 ++ c → t4 ≡ t3 ++ d → t5 ≡ t4 ++ e
    → t5 ≡ t ++ (a ++ (b ++ (c ++ (d ++ e))))
behind t t1 t2 t3 t4 t5 a b c d e h1 h2 h3 h4 h5 = rw (h5, h4, h3, h2, h1) (simp append_assoc)

pub returns : goal.returns
unfolding quality_object
returns c =
    let member = rw c.as_str.ensures at c.in_ok-write_next_text_member.ensures in
    behind _ _ _ _ _ _ _ _ _ _ _ c.in_ok-write_head.ensures member c.in_ok-write_severity.ensures c.in_ok-write_place.ensures c.in_ok-push_str.ensures.bytes
