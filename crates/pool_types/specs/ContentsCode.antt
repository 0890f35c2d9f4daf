-- A code of contents, by which two of them are told apart.
use Rattle.std.specs.Prelude.{ℕ, List, refl}
use Rattle.std.specs.Coded.{Coded, code_by, coded×, coded_ℕ, coded_list}
use Rattle.std.specs.FinMap as map
use Rattle.pool_types.specs.Contents.{Contents, ByText}
use Rattle.pool_types.specs.declared.contents.definition.Definition.{Definition}
use Rattle.pool_types.specs.declared.contents.enumeration.EnumDescriptorInner.{EnumDescriptorInner}
use Rattle.pool_types.specs.declared.contents.extension.ExtensionDescriptorInner.{ExtensionDescriptorInner}
use Rattle.pool_types.specs.declared.contents.file.FileDescriptorInner.{FileDescriptorInner}
use Rattle.pool_types.specs.declared.contents.message.MessageDescriptorInner.{MessageDescriptorInner}
use Rattle.pool_types.specs.declared.contents.service.ServiceDescriptorInner.{ServiceDescriptorInner}
use Rattle.pool_types.specs.contracts.contents.definition.Definition as definition
use Rattle.pool_types.specs.contracts.contents.file.FileDescriptorInner as file
use Rattle.pool_types.specs.contracts.contents.message.MessageDescriptorInner as message
use Rattle.pool_types.specs.contracts.contents.enumeration.EnumDescriptorInner as enumeration
use Rattle.pool_types.specs.contracts.contents.service.ServiceDescriptorInner as service
use Rattle.pool_types.specs.contracts.contents.extension.ExtensionDescriptorInner as extension

-- the parts, as pairs
abbrev Items : Type 0
Items = List EnumDescriptorInner × (List ServiceDescriptorInner × List ExtensionDescriptorInner)

abbrev Parts : Type 0
Parts = List FileDescriptorInner
    × (List MessageDescriptorInner × (Items × (ByText Definition × ByText ℕ)))

abbrev parts_of : Contents → Parts
parts_of p =
    (p.files, (p.messages, ((p.enums, (p.services, p.extensions)), (p.names, p.file_names))))

abbrev of_parts : Parts → Contents
of_parts x = let items = x.1.1.0 in record {
  files = x.0;
  messages = x.1.0;
  enums = items.0;
  services = items.1.0;
  extensions = items.1.1;
  names = x.1.1.1.0;
  file_names = x.1.1.1.1;
}

abbrev items_code : Coded Items
items_code = coded× (coded_list enumeration.the_row.coded)
    (coded× (coded_list service.the_row.coded) (coded_list extension.the_row.coded))

-- a code of contents, by which two of them are told apart
abbrev pub contents_code : Coded Contents
contents_code = code_by Parts
    (coded× (coded_list file.the_row.coded) (coded× (coded_list message.the_row.coded)
    (coded× items_code (coded× (map.code (coded_list coded_ℕ) definition.the_row.coded)
    (map.code (coded_list coded_ℕ) coded_ℕ)))))
    parts_of of_parts (λ _. refl)
