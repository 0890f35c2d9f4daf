use Rattle.std.proofs.Common.{refl}
use Rattle.link_script.proofs.Words.{no-length, some-length, no-word, next-word}
use Rattle.link_script.proofs.script.words.Words.next.Goals as goal

pub returns-then-is_empty : goal.returns-then-is_empty
returns-then-is_empty c = no-word c.args.self.now.rest.now _ c.behind_spaces-text.ensures (no-length _ _ c.is_empty.ensures c.if-is_empty.true)

pub returns : goal.returns
returns c =
    next-word c.args.self.now.rest.now _ _ _ c.cut_at.result c.unwrap_or.result c.behind_spaces-text.ensures (some-length _ _ c.is_empty.ensures c.if-is_empty.false) refl refl
    c.cut_at.ensures c.unwrap_or.ensures
