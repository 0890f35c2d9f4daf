use Rattle.std.proofs.Common.{◌≡◌, ℕ, List, take, find}
use Rattle.std.specs.HashMap.{get_by_text}
use Rattle.std.specs.List.{enumerate_from}
use Rattle.std.specs.Option.{option_map}
use Rattle.std.specs.Str.{bytes_eq}
use Rattle.record_walk.specs.Faults.{Tells, named_files}
use Rattle.name_pass.specs.CamelCase.{key_at, camel_case_faults}
use Rattle.name_pass.proofs.camel_case.check_keys.Given as goal

-- each key of the fields so far is held by the earliest, and their faults are told
abbrev pub invariant-loop-position : goal.invariant-loop-position
invariant-loop-position l = record {
  holders : (text : List ℕ) → get_by_text l.holders text
      ≡ option_map (λ e. e.0) (find (λ e. bytes_eq text (key_at e)) (enumerate_from 0 (take l.position l.fields)));
  faults : Tells l.initial.faults l.faults (camel_case_faults (named_files l.initial.faults) l.file l.path (take l.position l.fields));
}
