use Rattle.std.proofs.Common.{◌≡◌, length}
use Rattle.std.specs.List.{AllZip}
use Rattle.record_walk.specs.Declarations.{declarations}
use Rattle.record_walk.specs.Visitor.{HasSeen}
use Rattle.record_walk.proofs.InTurn.{FirstBecame}
use Rattle.record_walk.proofs.walking.visit_each.Given as goal

-- the visitors before this position have seen all, and each keeps its contents
abbrev pub invariant-loop-position : goal.invariant-loop-position
invariant-loop-position g l =
    record {
      long : length l.visitors.items ≡ l.position-end;
      done : FirstBecame (λ v w. HasSeen ((goal.Visitor-dyn g (v.vtable, v.value)).after v.value) ((goal.Visitor-dyn g (v.vtable, v.value)).ready v.value)
          ((goal.Visitor-dyn g (w.vtable, w.value)).after w.value) ((goal.Visitor-dyn g (w.vtable, w.value)).ready w.value) (declarations l.base l.files))
          l.position l.fn.visitors.items l.visitors.items;
      kept : AllZip (λ v w. (goal.Visitor-dyn g (w.vtable, w.value)).kept w.value ≡ (goal.Visitor-dyn g (v.vtable, v.value)).kept v.value) l.fn.visitors.items l.visitors.items;
    }
