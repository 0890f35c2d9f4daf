-- What the second pass reads declarations against.
use Rattle.std.specs.Prelude.{map}
use Rattle.pool_contents.specs.declared.inner.DescriptorPoolInner.{DescriptorPoolInner}
use Rattle.reference_pass.specs.Setting.{Setting}

-- the setting of the files and the names of a pool, where each file sees what its item says
abbrev pub setting_against : DescriptorPoolInner → Setting
setting_against p = record {
  files = map (λ f. f.raw) p.files.items;
  names = p.names;
  file_names = p.file_names;
  seen = map (λ f. f.transitive_dependencies) p.files.items;
}
