-- A service that is carried to another setting: its methods break nothing, and its item and what linking makes of it are what they were.
use Rattle.std.proofs.Common.{◌≡◌, ◌<◌, ℕ, [], ◌∷◌, ◌++◌, sym, subst}
use Rattle.proto_types.specs.declared.records.service.MethodDescriptorProto.{MethodDescriptorProto}
use Rattle.proto_types.specs.declared.records.service.ServiceDescriptorProto.{ServiceDescriptorProto}
use Rattle.proto_types.specs.declared.tag.method.TheConstants as method
use Rattle.plain_data.specs.Lists.{listed}
use Rattle.proto_types.specs.Names.{join}
use Rattle.proto_types.specs.Readers.{text_of}
use Rattle.record_walk.specs.Changed.{Changes, changed_service}
use Rattle.record_walk.specs.Shown.{Shown, inside}
use Rattle.name_resolution.specs.References.{reference_fault}
use Rattle.reference_pass.specs.SecondPass.{Faults, method_faults, service_faults}
use Rattle.reference_pass.specs.Items.{method_item, service_item}
use Rattle.reference_pass.specs.Linked.{linked_method, linking}
use Rattle.reference_pass.specs.References.{resolve_message, method_at, index_or_max}
use Rattle.reference_pass.specs.Setting.{Setting}
use Rattle.pool_laws.proofs.Settings.{IsService, service_at_place}
use Rattle.pool_laws.proofs.Carries.{CarriesMethods}
use Rattle.pool_laws.proofs.Told.{made-again, mapped-again, told-changed}
use Rattle.reference_pass.proofs.Unbroken.{both-empty}

module _ {s t : Setting} {c : Changes} {many : ℕ} (carries : CarriesMethods s t c many) (d : Shown) (below : d.file < many) where
  -- a method of the service as it is carried
  abbrev carried : MethodDescriptorProto → MethodDescriptorProto
  carried m = c.method d.file (join d.full_name (text_of m.name)) m

  -- nothing is broken, its item is that of a method, and linking makes of it what it made of that
  record IsMethod (i : ℕ) (m n : MethodDescriptorProto) : Type 0 where
    faults : method_faults t (method_at (inside d) i n) n ≡ []
    item_is : method_item t (method_at (inside d) i n) n ≡ method_item s (method_at (inside d) i m) m
    linked_is : linked_method t d.file (join d.full_name (text_of n.name)) n ≡ linked_method s d.file (join d.full_name (text_of m.name)) m

  by-parts : (i : ℕ) (m : MethodDescriptorProto) → method_faults s (method_at (inside d) i m) m ≡ []
      → IsMethod i m (record m { input_type = (carried m).input_type; output_type = (carried m).output_type })
  by-parts i m none =
      let here = method_at (inside d) i m in
      let parts = both-empty (listed (reference_fault s.files (text_of m.input_type) d.file (here.path ++ method.INPUT_TYPE ∷ []) (resolve_message s here m.input_type)))
      (listed (reference_fault s.files (text_of m.output_type) d.file (here.path ++ method.OUTPUT_TYPE ∷ []) (resolve_message s here m.output_type))) none in
      let input = carries.inputs here below (here.path ++ method.INPUT_TYPE ∷ []) m parts.0 in
      let output = carries.outputs here below (here.path ++ method.OUTPUT_TYPE ∷ []) m parts.1 in
      record {
        faults = λ j. input.faults j ++ output.faults j;
        item_is = λ j. record (method_item s here m) { input = index_or_max (input.index_is j); output = index_or_max (output.index_is j) };
        linked_is = λ j. record m { input_type = input.linked_is j; output_type = output.linked_is j };
      }

  method-carried : (i : ℕ) (m : MethodDescriptorProto) → method_faults s (method_at (inside d) i m) m ≡ [] → IsMethod i m (carried m)
  method-carried i m none = subst (IsMethod i m) (sym (carries.kept d.file (join d.full_name (text_of m.name)) m)) (by-parts i m none)

  abbrev broken : ℕ → MethodDescriptorProto → Faults
  broken i m = method_faults s (method_at (inside d) i m) m

  pub service-carried : (v : ServiceDescriptorProto) → service_faults s d v ≡ []
      → IsService t d (service_item s (service_at_place d v) v) (changed_service (linking s) d.file d.full_name v) (changed_service c d.file d.full_name v)
  service-carried v none =
      record {
        faults = told-changed broken (λ i m. method_faults t (method_at (inside d) i m) m) carried (λ i m none. (method-carried i m none).faults) 0 v.method none;
        item_is = λ j. record (service_item s (service_at_place d v) v) {
          methods = made-again broken (λ i m. method_item t (method_at (inside d) i m) m) (λ i m. method_item s (method_at (inside d) i m) m) carried (λ i m none. (method-carried i m none).item_is) 0 v.method none j;
        };
        linked_is = λ j. record v {
          method = mapped-again broken (λ m. linked_method t d.file (join d.full_name (text_of m.name)) m) (λ m. linked_method s d.file (join d.full_name (text_of m.name)) m) carried
              (λ i m none. (method-carried i m none).linked_is) 0 v.method none j;
        };
      }
