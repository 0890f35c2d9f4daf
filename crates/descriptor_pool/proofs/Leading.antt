-- The maps of all messages and enums of a pool lead to their parts.
use Rattle.std.proofs.Common.{◌≡◌, ℕ, ℤ, zero, suc, Option, List, [], ◌∷◌, ◌++◌, drop, length, subst, sym, ◌∙◌}
use Rattle.std.proofs.lemmas.List.Elements.{All-append, All-from_recursion, All-head, All-nil, All-tail}
use Rattle.std.specs.List.{All, AllByRecursion, flat_map}
use Rattle.std.specs.Option.{IfSome}
use Rattle.std.specs.Prelude.{slice_get}
use Rattle.proto_types.specs.declared.file.FileDescriptorProto.{FileDescriptorProto}
use Rattle.pool_types.specs.Contents.{ByText, Contents, files_of, no_contents}
use Rattle.pool_types.specs.declared.contents.definition.Definition.{Definition}
use Rattle.record_walk.specs.Counts.{counts_in}
use Rattle.record_walk.specs.Protos.{Proto, of_file, of_message, of_field, of_oneof, of_service, of_method, of_enum, of_value, of_extension}
use Rattle.record_walk.specs.Shown.{Shown}
use Rattle.name_tables.specs.Entries.{names_with}
use Rattle.name_pass.specs.Names.{entries}
use Rattle.reference_pass.specs.Items.{enum_items, message_items}
use Rattle.reference_pass.specs.SecondPass.{owner_faults}
use Rattle.reference_pass.specs.Setting.{Setting}
use Rattle.reference_pass.proofs.Owners.{owners-tell}
use Rattle.reference_pass.proofs.Unbroken.{both-empty, owners-apart}
use Rattle.pool_contents.specs.Extended.{extended_by}
use Rattle.pool_contents.proofs.Each.{all-each}
use Rattle.descriptor_pool.specs.Build.{declared_with, name_faults, reference_faults, setting_with, with_batch, with_items, with_names}
use Rattle.descriptor_pool.specs.Invariant.{IsPool}
use Rattle.descriptor_pool.specs.Maps.{MapsLead, ValuesLead}
use Rattle.descriptor_pool.specs.Pool.{Made, empty, linked_to, new_files}
use Rattle.descriptor_pool.proofs.MapsLead as messages
use Rattle.descriptor_pool.proofs.Meant.{IsMeant, all-meant}
use Rattle.descriptor_pool.proofs.Owned.{OwnsSuch, declarations-own}
use Rattle.descriptor_pool.proofs.ValuesLead as enums

module _ (s : Setting) (names : ByText Definition) where
  abbrev Such : List Shown → Type 0
  Such ds = AllByRecursion MapsLead (message_items s ds) × AllByRecursion ValuesLead (enum_items ds)

  -- one declaration that breaks nothing, before others
  one-leads : (file : ℕ) (parent : Option ℕ) (index : ℕ) (path : List ℤ) (full_name : List ℕ) (p : Proto) (ds : List Shown)
      → let d : Shown = record { file = file; parent = parent; index = index; path = path; full_name = full_name; proto = p } in
      owner_faults s [] d ≡ [] → OwnsSuch (IsMeant names) d → Such ds → Such (d ∷ ds)
  one-leads file parent index path full_name (of_message m) ds none owns rest =
      let d : Shown = record { file = file; parent = parent; index = index; path = path; full_name = full_name; proto = of_message m } in
      ((messages.item-leads s d m names owns none, rest.0), rest.1)
  one-leads file parent index path full_name (of_enum e) ds none owns rest =
      let d : Shown = record { file = file; parent = parent; index = index; path = path; full_name = full_name; proto = of_enum e } in
      (rest.0, (enums.item-leads s.files d e names owns.0 owns.1 none, rest.1))
  one-leads file parent index path full_name (of_file f) ds none owns rest = rest
  one-leads file parent index path full_name (of_field f) ds none owns rest = rest
  one-leads file parent index path full_name (of_oneof o) ds none owns rest = rest
  one-leads file parent index path full_name (of_service v) ds none owns rest = rest
  one-leads file parent index path full_name (of_method m) ds none owns rest = rest
  one-leads file parent index path full_name (of_value v) ds none owns rest = rest
  one-leads file parent index path full_name (of_extension x) ds none owns rest = rest

  all-lead : (ds : List Shown) → flat_map (owner_faults s []) ds ≡ [] → AllByRecursion (OwnsSuch (IsMeant names)) ds → Such ds
  all-lead [] none owns = (tt, tt)
  all-lead (d ∷ ds) none owns =
      let both = both-empty (owner_faults s [] d) (flat_map (owner_faults s []) ds) none in
      one-leads d.file d.parent d.index d.path d.full_name d.proto ds both.0 owns.0 (all-lead ds both.1 owns.1)

-- what is true of the contents of every pool
record AllLead (p : Contents) : Type 0 where
  messages : All MapsLead p.messages
  enums : All ValuesLead p.enums

nothing-leads : AllLead no_contents
nothing-leads = record { messages = All-nil MapsLead; enums = All-nil ValuesLead }

link-leads : (q : Contents) (new : List FileDescriptorProto) → name_faults q new ≡ [] → reference_faults q new ≡ [] → AllLead q → AllLead (with_batch q new)
link-leads q new none unbroken was =
    let s = setting_with q new in
    let ds = declared_with q new in
    let names = names_with q.names (entries ds) in
    let items = with_items (with_names q ds) s ds in
    let meant = all-meant (files_of q ++ new) q ds none in
    let told = owners-apart s q.extensions ds (sym (owners-tell s q.extensions (counts_in q) new) ∙ unbroken) in
    let came = all-lead s names ds told.0 (declarations-own (IsMeant names) (counts_in q) new meant) in
    record {
      messages = all-each MapsLead MapsLead (extended_by (length q.extensions) (drop (length q.extensions) items.extensions))
          (λ n m here. record { numbers = here.numbers; names = here.names; json_names = here.json_names; oneofs = here.oneofs }) 0 (q.messages ++ message_items s ds)
          (All-append MapsLead q.messages (message_items s ds) was.messages (All-from_recursion MapsLead (message_items s ds) came.0));
      enums = All-append ValuesLead q.enums (enum_items ds) was.enums (All-from_recursion ValuesLead (enum_items ds) came.1);
    }

made-leads : (p : Contents) → Made p → AllLead p
made-leads p (empty is) = subst AllLead (sym is) nothing-leads
made-leads p (linked_to {q = q} batch made accepts fits is) =
    subst AllLead (sym is) (link-leads q (new_files q batch) accepts.0 accepts.1 (made-leads q made))

-- the maps of each message of a pool lead to its fields
pub maps_lead : (p : Contents) → IsPool p → All MapsLead p.messages
maps_lead p pool = (made-leads p pool.made).messages

-- and those of each enum to its values
pub values_lead : (p : Contents) → IsPool p → All ValuesLead p.enums
values_lead p pool = (made-leads p pool.made).enums

-- what holds of all elements of a list holds of one that is there
one-of : {X : Type 0} (P : X → Type 0) (xs : List X) (n : ℕ) → All P xs → IfSome (slice_get xs n) P
one-of P [] n all = tt
one-of P (x ∷ xs) zero all = All-head P x xs all
one-of P (x ∷ xs) (suc n) all = one-of P xs n (All-tail P x xs all)

pub message_leads : (p : Contents) (n : ℕ) → IsPool p → IfSome (slice_get p.messages n) MapsLead
message_leads p n pool = one-of MapsLead p.messages n (maps_lead p pool)

pub enum_leads : (p : Contents) (n : ℕ) → IsPool p → IfSome (slice_get p.enums n) ValuesLead
enum_leads p n pool = one-of ValuesLead p.enums n (values_lead p pool)
