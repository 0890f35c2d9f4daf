-- Linked records are carried to where names come.
use Rattle.std.proofs.Common.{◌≡◌, ◌<◌, [], ◌∷◌, ◌++◌, length, refl, ap, subst, ◌∙◌}
use Rattle.proto_types.specs.declared.records.field.FieldDescriptorProto.{FieldDescriptorProto}
use Rattle.proto_types.specs.declared.tag.field.TheConstants as field
use Rattle.plain_data.specs.Lists.{listed}
use Rattle.proto_types.specs.Readers.{text_of}
use Rattle.record_walk.specs.Shown.{Shown}
use Rattle.name_resolution.specs.declared.filter.ResolveNameFilter.TheVariants.{Message}
use Rattle.name_resolution.specs.References.{reference_fault}
use Rattle.name_resolution.specs.Resolution.{Resolution, found}
use Rattle.reference_pass.specs.Definitions.{message_record}
use Rattle.reference_pass.specs.Extension.{number_faults}
use Rattle.reference_pass.specs.Linked.{linking, resolved}
use Rattle.reference_pass.specs.References.{resolve_message}
use Rattle.reference_pass.specs.Setting.{Setting}
use Rattle.pool_laws.proofs.Settings.{Grows, Rereads}
use Rattle.pool_laws.proofs.Carries.{Carries, CarriesMethods}
use Rattle.pool_laws.proofs.Defaulted.{defaulted-again}
use Rattle.pool_laws.proofs.SettingStays.{field-kept}
use Rattle.pool_laws.proofs.Looked.{IsLooked, looked-named, resolution-looked}
use Rattle.pool_laws.proofs.MessageNames.{message-named-again}
use Rattle.pool_laws.proofs.Numbered.{numbered-by}
use Rattle.pool_laws.proofs.Typed.{found-again, seen, typed-again}

pub linked-methods : (s t : Setting) → Grows s t → CarriesMethods s t (linking s) (length s.files)
linked-methods s t grows = record {
  kept = λ file full_name m. refl;
  inputs = λ d below path m. message-named-again s t grows d below path m.input_type;
  outputs = λ d below path m. message-named-again s t grows d below path m.output_type;
}

module _ (s t : Setting) (again : Rereads s t) where
  module _ (d : Shown) (below : d.file < length s.files) (x y : FieldDescriptorProto) (number : y.number ≡ x.number) where
    numbered : (r : Resolution) → resolve_message s d x.extendee ≡ r
        → listed (reference_fault s.files (text_of x.extendee) d.file (d.path ++ field.EXTENDEE ∷ []) r) ≡ [] → number_faults s d x r ≡ []
        → number_faults t d y (resolve_message t d (resolved r x.extendee)) ≡ []
    numbered (found name def) is named none =
        let now = subst (IsLooked s.names (seen s d.file) Message) is (resolution-looked s.names (seen s d.file) Message d.full_name (text_of x.extendee)) in
        let got = looked-named s.names (seen s d.file) Message name name def now.0 in
        ap (number_faults t d y) (found-again s t again.grows d.file d.full_name d.full_name (text_of x.extendee) Message name def below is)
        ∙ numbered-by s t d d x y number name name def def (message_record s def) (message_record t def) (again.ranges name def got) none
    numbered _ is named none = absurd (cc)

  pub linked-carried : Carries s t (linking s) (length s.files)
  linked-carried = record {
    kept = field-kept s;
    extensions = λ file full_name x. refl;
    methods = linked-methods s t again.grows;
    typed = typed-again s t again.grows;
    defaulted = defaulted-again s t again.grows again.enums;
    extendees = λ d below x. message-named-again s t again.grows d below (d.path ++ field.EXTENDEE ∷ []) x.extendee;
    numbered = λ d below x y number named none. numbered d below x y number (resolve_message s d x.extendee) refl named none;
    syntaxes = again.syntaxes;
    sees = again.grows.sees;
  }
