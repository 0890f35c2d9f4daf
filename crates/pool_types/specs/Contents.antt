-- The contents of a pool. Two pools are equal where these are.
use Rattle.std.specs.Prelude.{ℕ, List, [], map as each}
use Rattle.std.specs.Ordering.{nat_cmp}
use Rattle.std.specs.Cmp.Lexicographic.{slice_cmp}
use Rattle.std.specs.FinMap as map
use Rattle.pool_types.specs.declared.contents.definition.Definition.{Definition}
use Rattle.pool_types.specs.declared.contents.enumeration.EnumDescriptorInner.{EnumDescriptorInner}
use Rattle.pool_types.specs.declared.contents.extension.ExtensionDescriptorInner.{ExtensionDescriptorInner}
use Rattle.pool_types.specs.declared.contents.file.FileDescriptorInner.{FileDescriptorInner}
use Rattle.pool_types.specs.declared.contents.message.MessageDescriptorInner.{MessageDescriptorInner}
use Rattle.pool_types.specs.declared.contents.service.ServiceDescriptorInner.{ServiceDescriptorInner}
use Rattle.proto_types.specs.declared.file.FileDescriptorProto.{FileDescriptorProto}

-- a finite map from texts
abbrev pub ByText : Type 0 → Type 0
ByText X = map.FinMap (slice_cmp nat_cmp) X

-- what a pool holds: the files, messages, enums, services and extensions, what each full name
-- means, and the index of the file with each name; two pools are equal where these are
pub record Contents : Type 0 where
  pub files : List FileDescriptorInner
  pub messages : List MessageDescriptorInner
  pub enums : List EnumDescriptorInner
  pub services : List ServiceDescriptorInner
  pub extensions : List ExtensionDescriptorInner
  pub names : ByText Definition
  pub file_names : ByText ℕ

-- the contents of a pool without files
abbrev pub no_contents : Contents
no_contents = record {
  files = [];
  messages = [];
  enums = [];
  services = [];
  extensions = [];
  names = map.empty;
  file_names = map.empty;
}

-- the linked records of the files of a pool
abbrev pub files_of : Contents → List FileDescriptorProto
files_of p = each (λ f. f.raw) p.files
