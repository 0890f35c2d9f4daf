use Rattle.std.proofs.Common.{◌≡◌, map, take}
use Rattle.pool_contents.proofs.inner.DescriptorPoolInner.records.Given as goal

-- the records so far are copied
abbrev pub invariant-loop-file : goal.invariant-loop-file
invariant-loop-file l = l.records.items ≡ map (λ f. f.raw) (take l.file-index l.file-items)
