use Rattle.std.proofs.Common.{◌≡◌, map, drop}
use Rattle.link_script.specs.Script.Keyword.{spelled}
use Rattle.link_script.proofs.script.keyword.spelled.Given as goal

-- the word is spelled by none of those before
abbrev pub invariant-loop-spelling : goal.invariant-loop-spelling
invariant-loop-spelling l = spelled (map (λ s. (s.0.now, s.1)) l.table) l.word ≡ spelled (map (λ s. (s.0.now, s.1)) (drop l.spelling-index l.table)) l.word
