use Rattle.std.proofs.Common.{◌≡◌, ◌<◌, ◌/◌, ◌%◌, ℕ, true, length, get_or, false}
use Rattle.plain_data.specs.TextEntries.{LacksFrom, text_at}
use Rattle.plain_data.specs.Digests.{digest_of}
use Rattle.plain_data.proofs.text_map.differ_by_digests.Given as goal

-- no entry so far has the text of an earlier one, and the bits of each are seen
abbrev pub invariant-loop-at : goal.invariant-loop-at
invariant-loop-at l = record {
  apart : (j : ℕ) → j < l.at → LacksFrom l.fn.entries (text_at l.fn.entries j) 0 j;
  long : length l.seen ≡ 512;
  seen : (j : ℕ) → j < l.at → get_or l.seen (digest_of (text_at l.fn.entries j) / 8388608 % 512) false ≡ true;
}
