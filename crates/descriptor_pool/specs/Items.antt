-- The items that the second pass makes of declarations, and files that are linked by them.
use Rattle.std.specs.Prelude.{◌≡◌, List, ◌++◌, take, drop}
use Rattle.std.specs.FinMap as finite
use Rattle.std.specs.List.{filter_map}
use Rattle.pool_types.specs.Contents.{Contents}
use Rattle.pool_types.specs.declared.contents.file.FileDescriptorInner.{FileDescriptorInner}
use Rattle.plain_data.specs.Each.{map_enumerated}
use Rattle.record_walk.specs.Declarations.{declarations}
use Rattle.pool_types.specs.Syntaxes.{syntax_of}
use Rattle.pool_contents.specs.Inner.{contents_in}
use Rattle.pool_contents.specs.declared.growing.GrowingPool.{GrowingPool}
use Rattle.pool_contents.specs.Growing.{new_records}
use Rattle.reference_pass.specs.Linking.{ItemsAre, linked_item, lists_in}
use Rattle.record_walk.specs.Shown.{Shown}
use Rattle.reference_pass.specs.Items.{message_items, enum_items, service_items, extension_items}
use Rattle.reference_pass.specs.Setting.{Setting}
use Rattle.reference_pass.specs.declared.items.NewItems.{NewItems}

-- new items are those of declarations
pub record HasItems (items : NewItems) (s : Setting) (ds : List Shown) : Type 0 where
  pub messages : items.messages.items ≡ message_items s ds
  pub enums : items.enums.items ≡ enum_items ds
  pub services : items.services.items ≡ service_items s ds
  pub extensions : items.extensions.items ≡ extension_items s ds

-- a pool with new items behind its own
abbrev pub with_new_items : Contents → NewItems → Contents
with_new_items p items = record p {
  messages = p.messages ++ items.messages.items;
  enums = p.enums ++ items.enums.items;
  services = p.services ++ items.services.items;
  extensions = p.extensions ++ items.extensions.items;
}

-- a new file has its syntax and the files that it imports
pub record HasImports (s : Setting) (f : FileDescriptorInner) : Type 0 where
  pub syntax : f.syntax ≡ syntax_of f.raw
  pub imports : f.dependencies ≡ filter_map (finite.get s.file_names) f.raw.dependency

-- all files, where the records of those that came are linked
abbrev pub with_linked : Setting → GrowingPool → List FileDescriptorInner
with_linked s p = take p.base.files p.inner.files.items
    ++ map_enumerated (linked_item s) p.base.files (drop p.base.files p.inner.files.items)

-- the files that came become linked, where the items are those of what they declare
pub record LinksNew (old new : GrowingPool) : Type 0 where
  pub by : (s : Setting)
      → ItemsAre s (lists_in (contents_in old.inner)) (declarations old.base (new_records old))
      → contents_in new.inner ≡ record (contents_in old.inner) { files = with_linked s old }
