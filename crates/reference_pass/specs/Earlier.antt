-- The extensions before one that is read, as a program borrows them.
use Rattle.std.specs.Prelude.{List, ◌++◌}
use Rattle.pool_types.specs.declared.contents.extension.ExtensionDescriptorInner.{ExtensionDescriptorInner}
use Rattle.reference_pass.specs.declared.earlier.EarlierExtensions.{EarlierExtensions}

-- the extensions before one that is read: those of a pool, and the new ones so far
abbrev pub earlier_in : EarlierExtensions → List ExtensionDescriptorInner
earlier_in e = e.pool.extensions.now ++ e.new.now.extensions.items
