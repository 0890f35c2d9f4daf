-- The walk, the counts and the record at a path, computed for a file with every kind of declaration.
use Rattle.std.specs.Prelude.{◌≡◌, ℕ, ℤ, pos, negsuc, List, [], ◌∷◌, refl, map, codes}
use Rattle.std.specs.Option.{option_and_then}
use Rattle.std.specs.declared.option.Option.{Option}
use Rattle.std.specs.declared.option.Option.TheVariants.{None, Some}
use Rattle.std.specs.declared.result.Result.TheVariants.{Ok}
use Rattle.proto_types.specs.Computed.{literals}
use Rattle.proto_types.specs.Names.{join, fronts}
use Rattle.proto_types.specs.Service.{no_service, no_method}
use Rattle.proto_types.specs.Enumeration.{no_enum, no_value}
use Rattle.proto_types.specs.Field.{no_field}
use Rattle.proto_types.specs.Message.{no_oneof}
use Rattle.proto_types.specs.File.{no_file}
use Rattle.record_walk.specs.Shown.{Shown}
use Rattle.record_walk.specs.Declarations.{declarations}
use Rattle.record_walk.specs.Counts.{no_counts, counts_of}
use Rattle.record_walk.specs.Leads.{leads}
use Rattle.record_walk.specs.Protos.{as_message, as_extension}
use Rattle.proto_types.specs.declared.file.FileDescriptorProto.{FileDescriptorProto}
use Rattle.proto_types.specs.declared.message.DescriptorProto.{DescriptorProto, roll-DescriptorProto}

pub joined : join (codes "p") (codes "M") ≡ codes "p.M"
joined = refl

pub fronts_of_three : fronts (codes "p.M.f") ≡ codes "p" ∷ codes "p.M" ∷ []
fronts_of_three = refl

pub fronts_of_leading_dot : fronts (codes ".a") ≡ [] ∷ []
fronts_of_leading_dot = refl

abbrev inner_message : DescriptorProto
inner_message = roll-DescriptorProto (record { name = Some (codes "N"); field = []; nested_type = []; enum_type = []; extension_range = []; extension = []; options = None; oneof_decl = []; reserved_range = []; reserved_name = [] })

abbrev outer_message : DescriptorProto
outer_message = roll-DescriptorProto (record {
  name = Some (codes "M");
  field = record no_field { name = Some (codes "f") } ∷ [];
  nested_type = inner_message ∷ [];
  enum_type = record no_enum { name = Some (codes "E"); value = record no_value { name = Some (codes "V"); number = Some (pos 0) } ∷ [] } ∷ [];
  extension_range = [];
  extension = record no_field { name = Some (codes "e") } ∷ [];
  options = None;
  oneof_decl = record no_oneof { name = Some (codes "o") } ∷ [];
  reserved_range = [];
  reserved_name = [];
})

abbrev whole_file : FileDescriptorProto
whole_file = record no_file {
  name = Some (codes "a.proto");
  «package» = Some (codes "p");
  message_type = outer_message ∷ [];
  service = record no_service { name = Some (codes "S"); method = record no_method { name = Some (codes "m") } ∷ [] } ∷ [];
  extension = record no_field { name = Some (codes "x") } ∷ [];
}

abbrev line : Shown → ℕ × List ℕ × List ℤ × Option ℕ
line d = (d.index, d.full_name, d.path, d.parent)

pub walk_of_each_kind : map line (declarations no_counts (whole_file ∷ [])) ≡
    (0, codes "a.proto", [], None)
    ∷ (0, codes "p.M", pos 4 ∷ pos 0 ∷ [], None)
    ∷ (0, codes "p.M.o", pos 4 ∷ pos 0 ∷ pos 8 ∷ pos 0 ∷ [], Some 0)
    ∷ (0, codes "p.M.f", pos 4 ∷ pos 0 ∷ pos 2 ∷ pos 0 ∷ [], Some 0)
    ∷ (1, codes "p.M.N", pos 4 ∷ pos 0 ∷ pos 3 ∷ pos 0 ∷ [], Some 0)
    ∷ (0, codes "p.M.E", pos 4 ∷ pos 0 ∷ pos 4 ∷ pos 0 ∷ [], Some 0)
    ∷ (0, codes "p.M.V", pos 4 ∷ pos 0 ∷ pos 4 ∷ pos 0 ∷ pos 2 ∷ pos 0 ∷ [], Some 0)
    ∷ (0, codes "p.M.e", pos 4 ∷ pos 0 ∷ pos 6 ∷ pos 0 ∷ [], Some 0)
    ∷ (0, codes "p.S", pos 6 ∷ pos 0 ∷ [], None)
    ∷ (0, codes "p.S.m", pos 6 ∷ pos 0 ∷ pos 2 ∷ pos 0 ∷ [], Some 0)
    ∷ (1, codes "p.x", pos 7 ∷ pos 0 ∷ [], None)
    ∷ []
unfolding literals
walk_of_each_kind = refl

pub counts_of_each_kind : counts_of (declarations no_counts (whole_file ∷ [])) ≡ Ok (record { files = 1; messages = 2; enums = 1; services = 1; extensions = 2 })
unfolding literals
counts_of_each_kind = refl

pub nested_message_at_its_path : option_and_then as_message (leads whole_file (pos 4 ∷ pos 0 ∷ pos 3 ∷ pos 0 ∷ [])) ≡ Some inner_message
unfolding literals
nested_message_at_its_path = refl

pub extension_at_its_path : option_and_then as_extension (leads whole_file (pos 7 ∷ pos 0 ∷ [])) ≡ Some (record no_field { name = Some (codes "x") })
unfolding literals
extension_at_its_path = refl

pub nothing_behind_a_negative_place : leads whole_file (pos 4 ∷ negsuc 0 ∷ []) ≡ None
unfolding literals
nothing_behind_a_negative_place = refl

pub nothing_behind_a_lone_number : leads whole_file (pos 4 ∷ []) ≡ None
unfolding literals
nothing_behind_a_lone_number = refl

pub nothing_past_the_end : leads whole_file (pos 4 ∷ pos 1 ∷ []) ≡ None
unfolding literals
nothing_past_the_end = refl
