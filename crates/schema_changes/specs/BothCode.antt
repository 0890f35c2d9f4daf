-- A code of two pools that are compared, by which two such are told apart.
use Rattle.std.specs.Prelude.{List, refl}
use Rattle.std.specs.Coded.{Coded, code_by, coded×, coded_list}
use Rattle.pool_types.specs.declared.contents.enumeration.EnumDescriptorInner.{EnumDescriptorInner}
use Rattle.pool_types.specs.declared.contents.extension.ExtensionDescriptorInner.{ExtensionDescriptorInner}
use Rattle.pool_types.specs.declared.contents.file.FileDescriptorInner.{FileDescriptorInner}
use Rattle.pool_types.specs.declared.contents.message.MessageDescriptorInner.{MessageDescriptorInner}
use Rattle.pool_types.specs.contracts.contents.file.FileDescriptorInner as file
use Rattle.pool_types.specs.contracts.contents.message.MessageDescriptorInner as message
use Rattle.pool_types.specs.contracts.contents.enumeration.EnumDescriptorInner as enumeration
use Rattle.pool_types.specs.contracts.contents.extension.ExtensionDescriptorInner as extension
use Rattle.schema_changes.specs.Both.{Both}
use Rattle.schema_changes.specs.Parts.{Parts}

-- the items, as pairs
abbrev Items : Type 0
Items = List FileDescriptorInner
    × (List MessageDescriptorInner × (List EnumDescriptorInner × List ExtensionDescriptorInner))

abbrev of_items : Items → Parts
of_items x = record { files = x.0; messages = x.1.0; enums = x.1.1.0; extensions = x.1.1.1 }

-- a code of the items of a pool
abbrev pub parts_code : Coded Parts
parts_code = code_by Items
    (coded× (coded_list file.the_row.coded) (coded× (coded_list message.the_row.coded)
    (coded× (coded_list enumeration.the_row.coded) (coded_list extension.the_row.coded))))
    (λ p. (p.files, (p.messages, (p.enums, p.extensions)))) of_items (λ _. refl)

-- a code of two pools
abbrev pub both_code : Coded Both
both_code = code_by (Parts × Parts) (coded× parts_code parts_code) (λ b. (b.older, b.newer))
    (λ x. record { older = x.0; newer = x.1 }) (λ _. refl)
