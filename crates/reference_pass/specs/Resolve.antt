-- What the second pass makes of further declarations.
use Rattle.std.specs.Prelude.{List, [], ◌∷◌, ◌++◌}
use Rattle.pool_types.specs.declared.contents.enumeration.EnumDescriptorInner.{EnumDescriptorInner}
use Rattle.pool_types.specs.declared.contents.extension.ExtensionDescriptorInner.{ExtensionDescriptorInner}
use Rattle.pool_types.specs.declared.contents.message.MessageDescriptorInner.{MessageDescriptorInner}
use Rattle.pool_types.specs.declared.contents.service.ServiceDescriptorInner.{ServiceDescriptorInner}
use Rattle.pool_types.specs.Contents.{no_contents}
use Rattle.record_walk.specs.Visitor.{Progress}
use Rattle.record_walk.specs.Shown.{Shown}
use Rattle.record_walk.specs.Telling.{Telling, with_faults}
use Rattle.reference_pass.specs.SecondPass.{owners_faults}
use Rattle.reference_pass.specs.Items.{message_items, enum_items, service_items, extension_items}
use Rattle.reference_pass.specs.Setting.{Setting}

-- the state of the second pass: the new items, the extensions of the pool and the new ones, and
-- what is told so far
pub record ReferenceState : Type 0 where
  pub messages : List MessageDescriptorInner
  pub enums : List EnumDescriptorInner
  pub services : List ServiceDescriptorInner
  pub extensions : List ExtensionDescriptorInner
  pub faults : Telling

-- the state with the items of further declarations and what these break
abbrev pub with_declarations : Setting → ReferenceState → List Shown → ReferenceState
with_declarations s state ds = record {
  messages = state.messages ++ message_items s ds;
  enums = state.enums ++ enum_items ds;
  services = state.services ++ service_items s ds;
  extensions = state.extensions ++ extension_items s ds;
  faults = with_faults state.faults (owners_faults s state.extensions ds);
}

-- the state after one more declaration
abbrev pub reference_step : Setting → ReferenceState → Shown → ReferenceState
reference_step s state d = with_declarations s state (d ∷ [])

-- what a visitor shows in a state of the second pass
abbrev pub reference_progress : ReferenceState → Progress
reference_progress state = record {
  contents = record no_contents {
    messages = state.messages;
    enums = state.enums;
    services = state.services;
    extensions = state.extensions;
  };
  faults = state.faults;
  listed = [];
}
