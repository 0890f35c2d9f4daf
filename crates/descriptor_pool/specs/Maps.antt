-- The maps of messages and enums lead from a number or a name to the one part that has it, and
-- oneofs list their fields.
use Rattle.std.specs.Prelude.{◌≡◌, ◌↔◌, ◌==◌, ℕ, false, List, map, if◌then◌else◌, slice_get}
use Rattle.std.specs.FinMap as finite
use Rattle.std.specs.FinMap.{FinMap}
use Rattle.std.specs.List.{enumerate_from, filter_map}
use Rattle.std.specs.Option.{IfSome, option_and_then, option_map_or}
use Rattle.std.specs.declared.cmp.Ordering.{Ordering}
use Rattle.std.specs.declared.option.Option.{Option}
use Rattle.std.specs.declared.option.Option.TheVariants.{None, Some}
use Rattle.field_rules.specs.EnumItems.{sorted}
use Rattle.pool_types.specs.LookUps.{declared_name}
use Rattle.pool_types.specs.declared.contents.enumeration.EnumDescriptorInner.{EnumDescriptorInner}
use Rattle.pool_types.specs.declared.contents.enumeration.EnumValueDescriptorInner.{EnumValueDescriptorInner}
use Rattle.pool_types.specs.declared.contents.field.FieldDescriptorInner.{FieldDescriptorInner}
use Rattle.pool_types.specs.declared.contents.message.MessageDescriptorInner.{MessageDescriptorInner}

-- a map leads from a key to a position exactly where the part there has the key: so no two parts
-- have one key, and from a key that no part has it leads nowhere
abbrev pub LeadsTo : {K X : Type 0} {R : K → K → Ordering} → List X → (X → Option K) → FinMap R ℕ
    → Type 0
LeadsTo {K} parts key positions = (k : K) (position : ℕ)
    → (finite.get positions k ≡ Some position)
    ↔ (option_and_then key (slice_get parts position) ≡ Some k)

-- the positions of the fields that stand in the oneof with a position, in rising order
abbrev pub fields_in : List FieldDescriptorInner → ℕ → List ℕ
fields_in fields oneof =
    filter_map (λ e. if option_map_or (λ o. o == oneof) e.1.oneof false then Some e.0 else None)
    (enumerate_from 0 fields)

-- the maps of a message lead from a number, a name and a given JSON name to the one field that has
-- it, and each of its oneofs lists the fields that stand in it
pub record MapsLead (m : MessageDescriptorInner) : Type 0 where
  pub numbers : LeadsTo m.fields (λ f. Some f.number) m.field_numbers
  pub names : LeadsTo m.fields (λ f. Some (declared_name f.id)) m.field_names
  pub json_names : LeadsTo m.fields (λ f. f.json_name) m.field_json_names
  pub oneofs : (n : ℕ) → IfSome (slice_get m.oneofs n) (λ o. o.fields ≡ fields_in m.fields n)

-- no two values have one number
abbrev pub NumbersDiffer : List EnumValueDescriptorInner → Type 0
NumbersDiffer values = (i j : ℕ) (v w : EnumValueDescriptorInner)
    → slice_get values i ≡ Some v → slice_get values j ≡ Some w → v.number ≡ w.number → i ≡ j

-- the map of an enum leads from a name to the one value that has it, its table has the number of
-- each value with its position, by number and then by position, and two values have one number only
-- where aliases are allowed
pub record ValuesLead (e : EnumDescriptorInner) : Type 0 where
  pub names : LeadsTo e.values (λ v. Some (declared_name v.id)) e.value_names
  pub numbers : e.value_numbers
      ≡ sorted (map (λ v. (v.1.number, v.0)) (enumerate_from 0 e.values))
  pub single : e.allow_alias ≡ false → NumbersDiffer e.values
