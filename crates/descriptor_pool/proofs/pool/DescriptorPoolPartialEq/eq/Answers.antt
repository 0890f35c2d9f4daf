use Rattle.std.proofs.Common.{◌∙◌}
use Rattle.pool_contents.specs.Same.{contents_eq}
use Rattle.descriptor_pool.proofs.pool.DescriptorPoolPartialEq.eq.Goals as goal

pub returns : goal.returns
returns c = c.same.ensures ∙ (λ i. contents_eq (c.self.view_is i) (c.other.view_is i))
