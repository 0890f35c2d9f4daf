use Rattle.std.proofs.Common.{refl, subst, sym, arith}
use Rattle.std.proofs.lemmas.List.Elements.{All-nil}
use Rattle.pool_types.specs.Contents.{no_contents}
use Rattle.descriptor_pool.specs.Invariant.{IsPool}
use Rattle.field_rules.specs.NamesBegin.{EnumNamesBegin}
use Rattle.reference_pass.specs.NamesBegin.{ExtensionNameBegins, MessageNamesBegin, ServiceNamesBegin}
use Rattle.descriptor_pool.specs.Pool.{empty}
use Rattle.descriptor_pool.proofs.pool.DescriptorPool.new.Goals as goal

empty_pool : IsPool no_contents
empty_pool = record {
  made = empty refl;
  counts_are = refl;
  within = record { files = omega arith; messages = omega arith; enums = omega arith; services = omega arith; extensions = omega arith };
  names_are = refl;
  file_names_are = refl;
  names_begin = record {
    messages = All-nil MessageNamesBegin;
    enums = All-nil EnumNamesBegin;
    services = All-nil ServiceNamesBegin;
    extensions = All-nil ExtensionNameBegins;
  };
}

-- nothing is made, and nothing is declared
pub invariant_of-result : goal.invariant_of-result
invariant_of-result c = subst IsPool (sym c.new.ensures) empty_pool
