use Rattle.std.proofs.Common.{not, is_some, rules}
use Rattle.std.specs.FinMap as finite
use Rattle.std.proofs.lemmas.Fn.{filter_same}
use Rattle.proto_types.specs.Readers.{text_of}
use Rattle.pool_contents.proofs.inner.DescriptorPoolInner.retain_new.Goals as goal

pub returns : goal.returns
returns c = filter_same _ (λ f. not (is_some (finite.get c.args.self.now.file_names (text_of f.name)))) _ (λ x b q r. search rules) _ _ c.retain.ensures.filtered
