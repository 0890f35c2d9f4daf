-- What a pool holds, as its contents, and what is true of that.
use Rattle.std.specs.Prelude.{length}
use Rattle.pool_types.specs.Contents.{Contents}
use Rattle.name_tables.specs.NameTables.{AllBefore, FileNamesBefore}
use Rattle.pool_contents.specs.declared.inner.DescriptorPoolInner.{DescriptorPoolInner}

-- the contents that the code of a pool holds
abbrev pub contents_in : DescriptorPoolInner → Contents
contents_in p = record {
  files = p.files.items;
  messages = p.messages.items;
  enums = p.enums.items;
  services = p.services.items;
  extensions = p.extensions.items;
  names = p.names;
  file_names = p.file_names;
}

-- what each name means lies in a file of the pool, and each name of a file means one of them
abbrev pub NamesLieIn : Contents → Type 0
NamesLieIn p = AllBefore (length p.files) p.names × FileNamesBefore (length p.files) p.file_names
