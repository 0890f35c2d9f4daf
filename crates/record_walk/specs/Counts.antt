-- How many of each numbered kind there are, and which counts a pool can hold.
use Rattle.std.specs.Prelude.{ℕ, suc, ◌+◌, ◌-◌, ◌^◌, Bool, true, not, ◌&&◌, nat_le, List, [], ◌∷◌}
use Rattle.std.specs.Prelude.{length, if◌then◌else◌}
use Rattle.std.specs.List.{list_all}
use Rattle.std.specs.declared.result.Result.{Result}
use Rattle.std.specs.declared.result.Result.TheVariants.{Ok, Err}
use Rattle.record_walk.specs.declared.counts.Counts.{Counts}
use Rattle.record_walk.specs.declared.counts.CountKind.{CountKind}
use Rattle.record_walk.specs.declared.counts.CountKind.TheVariants.{ListTooLong, Files, Messages}
use Rattle.record_walk.specs.declared.counts.CountKind.TheVariants.{Enums, Services, Extensions}
use Rattle.proto_types.specs.declared.message.DescriptorProto.{out-DescriptorProto}
use Rattle.record_walk.specs.Protos.{Proto, of_file, of_message, of_service, of_enum, of_extension}
use Rattle.record_walk.specs.Shown.{Shown}
use Rattle.pool_types.specs.Contents.{Contents}

-- the counts of nothing
abbrev pub no_counts : Counts
no_counts = record { files = 0; messages = 0; enums = 0; services = 0; extensions = 0 }

-- the sums of two counts, without a limit
abbrev pub plus : Counts → Counts → Counts
plus a b = record {
  files = a.files + b.files;
  messages = a.messages + b.messages;
  enums = a.enums + b.enums;
  services = a.services + b.services;
  extensions = a.extensions + b.extensions;
}

-- the counts, and one more of the kind of a record: a file, message, enum, service or extension;
-- any other record adds nothing
abbrev pub counting : Counts → Proto → Counts
counting c (of_file _) = record c { files = suc c.files }
counting c (of_message _) = record c { messages = suc c.messages }
counting c (of_enum _) = record c { enums = suc c.enums }
counting c (of_service _) = record c { services = suc c.services }
counting c (of_extension _) = record c { extensions = suc c.extensions }
counting c _ = c

-- the counts, and one more for each of a list of declarations that has such a kind
abbrev pub counted : Counts → List Shown → Counts
counted c [] = c
counted c (d ∷ ds) = counted (counting c d.proto) ds

-- the most that a pool holds of each kind: 4,294,967,295
abbrev pub count_limit : ℕ
count_limit = 2 ^ 32 - 1

-- the most entries of a list: 2,147,483,647
abbrev pub list_limit : ℕ
list_limit = 2 ^ 31 - 1

-- whether a list has no more entries than a list may have
abbrev pub fits_list : {X : Type 0} → List X → Bool
fits_list xs = nat_le (length xs) list_limit

-- whether each list of a record is short enough: a file's imports, messages, enums, services and
-- extensions; a message's fields, nested messages, enums, extensions, oneofs and ranges; an enum's
-- values and ranges; a service's methods
abbrev pub lists_fit : Proto → Bool
lists_fit (of_file f) = fits_list f.dependency && fits_list f.message_type && fits_list f.enum_type
    && fits_list f.service && fits_list f.extension
lists_fit (of_message m) = let m = out-DescriptorProto m in
    fits_list m.field && fits_list m.nested_type && fits_list m.enum_type && fits_list m.extension
    && fits_list m.oneof_decl
    && fits_list m.extension_range && fits_list m.reserved_range
lists_fit (of_enum e) = fits_list e.value && fits_list e.reserved_range
lists_fit (of_service s) = fits_list s.method
lists_fit _ = true

-- the counts, or the first kind that is past the limit, in the order files, messages, enums,
-- services, extensions
abbrev pub within_limit : Counts → Result Counts CountKind
within_limit c =
    if not (nat_le c.files count_limit) then Err Files
    else (if not (nat_le c.messages count_limit) then Err Messages
    else (if not (nat_le c.enums count_limit) then Err Enums
    else (if not (nat_le c.services count_limit) then Err Services
    else (if not (nat_le c.extensions count_limit) then Err Extensions
    else Ok c))))

-- the counts of a finished list of declarations, or what there is too much of; a list that is too
-- long is told before any count
abbrev pub counts_of : List Shown → Result Counts CountKind
counts_of ds = if list_all (λ d. lists_fit d.proto) ds then within_limit (counted no_counts ds)
    else Err ListTooLong

-- counts that are added to others, or what there is too much of; what they alone have too much of
-- comes first
abbrev pub added_to : Counts → Result Counts CountKind → Result Counts CountKind
added_to base (Ok c) = within_limit (plus base c)
added_to base (Err kind) = Err kind

-- how many files, messages, enums, services and extensions the contents of a pool have
abbrev pub counts_in : Contents → Counts
counts_in p = record {
  files = length p.files;
  messages = length p.messages;
  enums = length p.enums;
  services = length p.services;
  extensions = length p.extensions;
}
