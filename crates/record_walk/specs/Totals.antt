-- Counts while they are summed: in 64 bits, where a count past the greatest number stays there.
use Rattle.std.specs.Prelude.{ℕ, ◌-◌, ◌^◌, min, List, [], if◌then◌else◌}
use Rattle.std.specs.List.{list_all}
use Rattle.std.specs.Option.{option_map}
use Rattle.std.specs.declared.option.Option.{Option}
use Rattle.std.specs.declared.option.Option.TheVariants.{None, Some}
use Rattle.record_walk.specs.declared.counts.Counts.{Counts}
use Rattle.record_walk.specs.declared.counts.totals.Totals.{Totals}
use Rattle.record_walk.specs.Counts.{no_counts, counted, plus, lists_fit}
use Rattle.proto_types.specs.declared.message.DescriptorProto.{DescriptorProto}
use Rattle.proto_types.specs.declared.records.enumeration.EnumDescriptorProto.{EnumDescriptorProto}
use Rattle.proto_types.specs.declared.records.service.ServiceDescriptorProto.{ServiceDescriptorProto}
use Rattle.proto_types.specs.declared.file.FileDescriptorProto.{FileDescriptorProto}
use Rattle.proto_types.specs.declared.tag.file.TheConstants.{MESSAGE_TYPE, ENUM_TYPE}
use Rattle.record_walk.specs.Declarations.{enums_walk, services_walk, message_walk, messages_walk}
use Rattle.record_walk.specs.Declarations.{file_walk, declarations}
use Rattle.record_walk.specs.Shown.{Shown, Surrounding}

abbrev greatest : ℕ
greatest = 2 ^ 64 - 1

-- counts in 64 bits, where one that is past the greatest number is that number
abbrev pub saturated : Counts → Totals
saturated c = record {
  files = min c.files greatest;
  messages = min c.messages greatest;
  enums = min c.enums greatest;
  services = min c.services greatest;
  extensions = min c.extensions greatest;
}

-- totals as counts
abbrev pub unsaturated : Totals → Counts
unsaturated t = record {
  files = t.files;
  messages = t.messages;
  enums = t.enums;
  services = t.services;
  extensions = t.extensions;
}

-- the sums of two totals, each at most the greatest number
abbrev pub sums : Totals → Totals → Totals
sums a b = saturated (plus (unsaturated a) (unsaturated b))

-- the sums of two totals, where both are there
abbrev pub both_sums : Option Totals → Option Totals → Option Totals
both_sums (Some a) (Some b) = Some (sums a b)
both_sums (Some _) None = None
both_sums None _ = None

-- how many of each kind there are among declarations, or none where a list is too long
abbrev pub tally : List Shown → Option Counts
tally ds = if list_all (λ d. lists_fit d.proto) ds then Some (counted no_counts ds) else None

-- how many of each kind there are among declarations, in 64 bits, or none where a list is too long
abbrev pub totals : List Shown → Option Totals
totals ds = option_map saturated (tally ds)

-- a surrounding for records of which only counts are asked: they declare as much wherever they
-- stand
abbrev pub nowhere : Surrounding
nowhere = record { file = 0; path = []; scope = []; parent = None }

-- how much enums declare
abbrev pub totals_of_enums : List EnumDescriptorProto → Option Totals
totals_of_enums es = totals (enums_walk nowhere ENUM_TYPE 0 0 es)

-- how much services declare
abbrev pub totals_of_services : List ServiceDescriptorProto → Option Totals
totals_of_services ss = totals (services_walk nowhere 0 0 ss)

-- how much a message declares
abbrev pub totals_of_message : DescriptorProto → Option Totals
totals_of_message m = totals (message_walk nowhere MESSAGE_TYPE 0 no_counts m)

-- how much messages declare
abbrev pub totals_of_messages : List DescriptorProto → Option Totals
totals_of_messages ms = totals (messages_walk nowhere MESSAGE_TYPE 0 no_counts ms)

-- how much a file declares
abbrev pub totals_of_file : FileDescriptorProto → Option Totals
totals_of_file f = totals (file_walk no_counts f)

-- how much files declare
abbrev pub totals_of_files : List FileDescriptorProto → Option Totals
totals_of_files fs = totals (declarations no_counts fs)
