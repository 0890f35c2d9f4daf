use Rattle.std.proofs.Common.{ℕ, List, Bor, [], ◌∷◌, map, take, sym, subst, ap, ◌∙◌}
use Rattle.std.specs.FinMap as finite
use Rattle.std.specs.Cmp.Lexicographic.{slice_cmp}
use Rattle.std.specs.Ordering.{nat_cmp}
use Rattle.proto_types.specs.declared.file.FileDescriptorProto.{FileDescriptorProto}
use Rattle.record_walk.specs.Counts.{no_counts}
use Rattle.record_walk.specs.Declarations.{declarations}
use Rattle.verdict_texts.specs.Known.{type_names}
use Rattle.verdict_texts.specs.Named.{AreDeclared, Enters}
use Rattle.verdict_texts.proofs.Naming.{declared-next, records-length, records-next}
use Rattle.verdict_texts.proofs.known.declared_types.Goals as goal

-- no name is there
pub loop-at-init : goal.loop-at-init
loop-at-init c = record {
  first = λ name. ap (λ m. finite.get m name) c.new.ensures ∙ finite.get-empty (slice_cmp nat_cmp) name;
  names = c.new-2.ensures;
}

-- the names of one more file are added
pub loop-at-preserved : goal.loop-at-preserved
loop-at-preserved c =
    let xs = c.args.files.now in
    let i = c.loop-at.at in
    let f = c.index-files-at.result.now in
    let files : List FileDescriptorProto = map (λ (g : Bor FileDescriptorProto). g.now) (take i xs) in
    let new = c.add_declared.new.types in
    subst (AreDeclared new) (sym (records-next xs i c.index-files-at.result c.loop-at-test.true c.index-files-at.is))
    (declared-next c.loop-at.types new files f c.loop-at.invariant
    (subst (λ (n : ℕ). Enters c.loop-at.types.first new.first n (type_names (declarations no_counts (f ∷ [])))) (records-length xs i c.loop-at-test.true) c.in_ok-add_declared.ensures.first) c.in_ok-add_declared.ensures.names)
