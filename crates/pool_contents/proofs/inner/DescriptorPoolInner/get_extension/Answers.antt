use Rattle.std.proofs.Common.{rules}
use Rattle.pool_contents.proofs.inner.DescriptorPoolInner.get_extension.Goals as goal

pub returns : goal.returns
returns c = search rules

pub returns-in_err-extension : goal.returns-in_err-extension
returns-in_err-extension c = search rules
