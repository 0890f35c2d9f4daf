-- The second pass, one declaration after another, has the items and the faults of its definition.
use Rattle.std.proofs.Common.{◌≡◌, List, [], ◌∷◌, sym, ◌∙◌}
use Rattle.std.specs.List.{fold}
use Rattle.proto_types.specs.declared.file.FileDescriptorProto.{FileDescriptorProto}
use Rattle.pool_types.specs.declared.contents.extension.ExtensionDescriptorInner.{ExtensionDescriptorInner}
use Rattle.record_walk.specs.declared.counts.Counts.{Counts}
use Rattle.record_walk.specs.Declarations.{declarations}
use Rattle.record_walk.specs.Shown.{Shown}
use Rattle.reference_pass.specs.SecondPass.{owners_faults, second_pass}
use Rattle.reference_pass.specs.Setting.{Setting}
use Rattle.reference_pass.specs.Resolve.{ReferenceState, reference_step, with_declarations}
use Rattle.reference_pass.proofs.Owners.{owners-tell}
use Rattle.reference_pass.proofs.Steps.{with-more, with-none}

module _ (s : Setting) where
  pub fold-seen : (r : ReferenceState) (ds : List Shown) → fold (reference_step s) r ds ≡ with_declarations s r ds
  fold-seen r [] = sym (with-none s r)
  fold-seen r (d ∷ ds) = fold-seen (reference_step s r d) ds ∙ with-more s r (d ∷ []) ds

  -- what owners break is what all declarations of files break
  pub faults-seen : (old : List ExtensionDescriptorInner) (base : Counts) (fs : List FileDescriptorProto) → owners_faults s old (declarations base fs) ≡ second_pass s old (declarations base fs)
  faults-seen old base fs = sym (owners-tell s old base fs)
