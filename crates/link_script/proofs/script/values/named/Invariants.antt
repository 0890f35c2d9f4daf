use Rattle.std.proofs.Common.{◌≡◌, ◌+◌, pos, map, drop}
use Rattle.std.specs.List.{position_from}
use Rattle.std.specs.Str.{bytes_eq}
use Rattle.link_script.proofs.script.values.named.Given as goal

abbrev pub invariant-loop-name : goal.invariant-loop-name
invariant-loop-name l = record {
  counted : l.number ≡ pos (l.name-index + 1);
  not_before : position_from (bytes_eq l.word) 0 (map (λ n. n.now) l.names) ≡ position_from (bytes_eq l.word) l.name-index (map (λ n. n.now) (drop l.name-index l.names));
}
