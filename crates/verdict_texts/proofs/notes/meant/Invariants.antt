use Rattle.std.proofs.Common.{◌≡◌, is_some, map}
use Rattle.std.specs.List.{find}
use Rattle.proto_types.specs.Names.{join}
use Rattle.verdict_texts.specs.Known.{declaring_file}
use Rattle.verdict_texts.specs.Notes.{meant}
use Rattle.verdict_texts.proofs.notes.meant.Given as goal

-- the scopes that are left have the name that all have
abbrev pub invariant-loop-parent : goal.invariant-loop-parent
invariant-loop-parent l =
    (goal.iterator-loop-parent).can_next l.parent-iterator
    × (goal.iterator-loop-parent).is_finite l.parent-iterator
    × (find (λ n. is_some (declaring_file l.known.0 n)) (map (λ s. join s l.name) l.parent-iterator)
    ≡ meant l.known.0 l.scope l.name)
