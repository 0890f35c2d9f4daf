-- Sums that stay at the greatest number.
use Rattle.std.proofs.Common.{◌≡◌, ℕ, ◌+◌, ◌-◌, ◌^◌, ◌<◌, ◌≤◌, true, false, min, Option, Some, None, List, length, take, get_or, cond, refl, ap, sym, ◌∙◌, arith}
use Rattle.std.specs.List.{list_all}
use Rattle.std.specs.Option.{option_map}
use Rattle.record_walk.specs.declared.counts.Counts.{Counts}
use Rattle.record_walk.specs.declared.counts.totals.Totals.{Totals}
use Rattle.proto_types.specs.declared.message.DescriptorProto.{DescriptorProto, out-DescriptorProto}
use Rattle.proto_types.specs.declared.records.enumeration.EnumDescriptorProto.{EnumDescriptorProto}
use Rattle.proto_types.specs.declared.records.service.ServiceDescriptorProto.{ServiceDescriptorProto}
use Rattle.proto_types.specs.declared.file.FileDescriptorProto.{FileDescriptorProto}
use Rattle.record_walk.specs.Counts.{no_counts, counting, plus, lists_fit}
use Rattle.record_walk.specs.Protos.{of_message, of_file}
use Rattle.record_walk.specs.Totals.{saturated, sums, both_sums, totals_of_message, totals_of_file, totals_of_enums, totals_of_services, totals_of_messages, nowhere}
use Rattle.proto_types.specs.declared.tag.file.TheConstants.{MESSAGE_TYPE, ENUM_TYPE}
use Rattle.record_walk.proofs.Counted.{both, both-comm, both-assoc, one, summed, summed-next, summed-none}
use Rattle.record_walk.proofs.Tallies.{messages_tally, enums_tally, services_tally, enum_fits, service_fits, so_many_extensions, so_many_enums, so_many_services, message-tally, messages-tally, message-parts, enums-tally, services-tally, file-tally}

pub totals_are : (a b : Totals) → a.files ≡ b.files → a.messages ≡ b.messages → a.enums ≡ b.enums → a.services ≡ b.services → a.extensions ≡ b.extensions → a ≡ b
totals_are a b f m e s x = λ i. record { files = f i; messages = m i; enums = e i; services = s i; extensions = x i }

min-plus : (a b : ℕ) → min (a + b) (2 ^ 64 - 1) ≡ min (min a (2 ^ 64 - 1) + min b (2 ^ 64 - 1)) (2 ^ 64 - 1)
min-plus a b = omega arith

saturated-plus : (a b : Counts) → saturated (plus a b) ≡ sums (saturated a) (saturated b)
saturated-plus a b = totals_are _ _ (min-plus _ _) (min-plus _ _) (min-plus _ _) (min-plus _ _) (min-plus _ _)

-- in 64 bits
abbrev pub in_64 : Option Counts → Option Totals
in_64 c = option_map saturated c

pub saturated-both : (x y : Option Counts) → in_64 (both x y) ≡ both_sums (in_64 x) (in_64 y)
saturated-both (Some a) (Some b) = ap Some (saturated-plus a b)
saturated-both (Some a) None = refl
saturated-both None y = refl

min-assoc : (a b c : ℕ) → min (min (a + b) (2 ^ 64 - 1) + c) (2 ^ 64 - 1) ≡ min (a + min (b + c) (2 ^ 64 - 1)) (2 ^ 64 - 1)
min-assoc a b c = omega arith

pub both_sums-assoc : (x y z : Option Totals) → both_sums (both_sums x y) z ≡ both_sums x (both_sums y z)
both_sums-assoc (Some a) (Some b) (Some c) = ap Some (totals_are _ _ (min-assoc _ _ _) (min-assoc _ _ _) (min-assoc _ _ _) (min-assoc _ _ _) (min-assoc _ _ _))
both_sums-assoc (Some a) (Some b) None = refl
both_sums-assoc (Some a) None z = refl
both_sums-assoc None y z = refl

-- one more is summed
pub saturated-next : {X : Type 0} (f : X → Option Counts) (xs : List X) (i : ℕ) (x : X) → i < length xs → x ≡ get_or xs i x
    → in_64 (summed f (take (i + 1) xs)) ≡ both_sums (in_64 (summed f (take i xs))) (in_64 (f x))
saturated-next f xs i x within is = ap in_64 (summed-next f xs i x within is) ∙ saturated-both (summed f (take i xs)) (f x)

no-counts : (x : Option Counts) → in_64 x ≡ None → x ≡ None
no-counts None none = refl
no-counts (Some c) none = absurd (cc)

pub saturated-none : {X : Type 0} (f : X → Option Counts) (xs : List X) (i : ℕ) (x : X) → i < length xs → x ≡ get_or xs i x → in_64 (f x) ≡ None → in_64 (summed f xs) ≡ None
saturated-none f xs i x within is none = ap in_64 (summed-none f xs i x within is (no-counts (f x) none))

-- a number that fits stays as it is
kept : (n : ℕ) → n ≤ 2 ^ 64 - 1 → min n (2 ^ 64 - 1) ≡ n
kept n small = omega arith

kept-alone : (n : ℕ) → n ≤ 2 ^ 64 - 1 → min (0 + n) (2 ^ 64 - 1) ≡ n
kept-alone n small = omega arith

pub enums-saturated : (es : List EnumDescriptorProto) → length es ≤ 2 ^ 64 - 1
    → totals_of_enums es ≡ cond (list_all enum_fits es) (Some (record { files = 0; messages = 0; enums = length es; services = 0; extensions = 0 })) None
enums-saturated es small =
    ap in_64 (enums-tally nowhere ENUM_TYPE 0 0 es)
    ∙ (elim (list_all enum_fits es) as (λ b. in_64 (cond b (Some (so_many_enums (length es))) None) ≡ cond b (Some (record { files = 0; messages = 0; enums = length es; services = 0; extensions = 0 })) None)
    [ true ↦ ap Some (totals_are _ _ refl refl (kept (length es) small) refl refl) | false ↦ refl ])

pub services-saturated : (ss : List ServiceDescriptorProto) → length ss ≤ 2 ^ 64 - 1
    → totals_of_services ss ≡ cond (list_all service_fits ss) (Some (record { files = 0; messages = 0; enums = 0; services = length ss; extensions = 0 })) None
services-saturated ss small =
    ap in_64 (services-tally nowhere 0 0 ss)
    ∙ (elim (list_all service_fits ss) as (λ b. in_64 (cond b (Some (so_many_services (length ss))) None) ≡ cond b (Some (record { files = 0; messages = 0; enums = 0; services = length ss; extensions = 0 })) None)
    [ true ↦ ap Some (totals_are _ _ refl refl refl (kept (length ss) small) refl) | false ↦ refl ])

-- the sums in the order in which they are made
turned : (a n e x : Option Counts) → both a (both n (both e x)) ≡ both (both (both a x) e) n
turned a n e x =
    ap (both a) (both-comm n (both e x) ∙ ap (λ y. both y n) (both-comm e x))
    ∙ sym (both-assoc a (both x e) n) ∙ ap (λ y. both y n) (sym (both-assoc a x e))

turned-file : (a m e s x : Option Counts) → both a (both (both (both m e) s) x) ≡ both (both (both (both a x) m) e) s
turned-file a m e s x =
    ap (both a) (both-comm (both (both m e) s) x) ∙ sym (both-assoc a x (both (both m e) s))
    ∙ sym (both-assoc (both a x) (both m e) s) ∙ ap (λ y. both y s) (sym (both-assoc (both a x) m e))

-- a message's own counts
abbrev pub own_message : ℕ → Totals
own_message extensions = record { files = 0; messages = 1; enums = 0; services = 0; extensions = extensions }

abbrev pub own_file : ℕ → Totals
own_file extensions = record { files = 1; messages = 0; enums = 0; services = 0; extensions = extensions }

own-message : (m : DescriptorProto) (n : ℕ) → n ≤ 2 ^ 64 - 1 → lists_fit (of_message m) ≡ true → in_64 (both (one (of_message m)) (Some (so_many_extensions n))) ≡ Some (own_message n)
own-message m n small fits =
    ap (λ b. in_64 (both (cond b (Some (counting no_counts (of_message m))) None) (Some (so_many_extensions n)))) fits
    ∙ ap Some (totals_are _ _ refl refl refl refl (kept-alone n small))

own-file : (f : FileDescriptorProto) (n : ℕ) → n ≤ 2 ^ 64 - 1 → lists_fit (of_file f) ≡ true → in_64 (both (one (of_file f)) (Some (so_many_extensions n))) ≡ Some (own_file n)
own-file f n small fits =
    ap (λ b. in_64 (both (cond b (Some (counting no_counts (of_file f))) None) (Some (so_many_extensions n)))) fits
    ∙ ap Some (totals_are _ _ refl refl refl refl (kept-alone n small))

pub message-none : (m : DescriptorProto) → lists_fit (of_message m) ≡ false → totals_of_message m ≡ None
message-none m fits =
    ap in_64 (message-tally nowhere MESSAGE_TYPE 0 no_counts m ∙ message-parts m ∙ ap (λ b. both (cond b (Some (counting no_counts (of_message m))) None) (both (messages_tally (out-DescriptorProto m).nested_type)
    (both (enums_tally (out-DescriptorProto m).enum_type) (Some (so_many_extensions (length (out-DescriptorProto m).extension)))))) fits)

pub message-saturated : (m : DescriptorProto) → length (out-DescriptorProto m).extension ≤ 2 ^ 64 - 1 → lists_fit (of_message m) ≡ true → totals_of_message m
    ≡ both_sums (both_sums (Some (own_message (length (out-DescriptorProto m).extension))) (totals_of_enums (out-DescriptorProto m).enum_type)) (in_64 (messages_tally (out-DescriptorProto m).nested_type))
message-saturated m small fits =
    let nested = messages_tally (out-DescriptorProto m).nested_type in
    let enums = enums_tally (out-DescriptorProto m).enum_type in
    let own = both (one (of_message m)) (Some (so_many_extensions (length (out-DescriptorProto m).extension))) in
    ap in_64 (message-tally nowhere MESSAGE_TYPE 0 no_counts m ∙ message-parts m ∙ turned (one (of_message m)) nested enums (Some (so_many_extensions (length (out-DescriptorProto m).extension))))
    ∙ saturated-both (both own enums) nested
    ∙ ap (λ y. both_sums y (in_64 nested)) (saturated-both own enums
    ∙ (λ i. both_sums (own-message m (length (out-DescriptorProto m).extension) small fits i) (in_64 (sym (enums-tally nowhere ENUM_TYPE 0 0 (out-DescriptorProto m).enum_type) i))))

pub file-none : (f : FileDescriptorProto) → lists_fit (of_file f) ≡ false → totals_of_file f ≡ None
file-none f fits =
    ap in_64 (file-tally no_counts f ∙ ap (λ b. both (cond b (Some (counting no_counts (of_file f))) None) (both (both (both (messages_tally f.message_type)
    (enums_tally f.enum_type)) (services_tally f.service)) (Some (so_many_extensions (length f.extension))))) fits)

pub file-saturated : (f : FileDescriptorProto) → length f.extension ≤ 2 ^ 64 - 1 → lists_fit (of_file f) ≡ true → totals_of_file f
    ≡ both_sums (both_sums (both_sums (Some (own_file (length f.extension))) (totals_of_messages f.message_type)) (totals_of_enums f.enum_type)) (totals_of_services f.service)
file-saturated f small fits =
    let messages = messages_tally f.message_type in
    let enums = enums_tally f.enum_type in
    let services = services_tally f.service in
    let own = both (one (of_file f)) (Some (so_many_extensions (length f.extension))) in
    ap in_64 (file-tally no_counts f ∙ turned-file (one (of_file f)) messages enums services (Some (so_many_extensions (length f.extension))))
    ∙ saturated-both (both (both own messages) enums) services
    ∙ (λ i. both_sums ((saturated-both (both own messages) enums ∙ (λ j. both_sums ((saturated-both own messages
    ∙ (λ k. both_sums (own-file f (length f.extension) small fits k) (in_64 (sym (messages-tally nowhere MESSAGE_TYPE 0 no_counts f.message_type) k)))) j)
    (in_64 (sym (enums-tally nowhere ENUM_TYPE 0 0 f.enum_type) j)))) i) (in_64 (sym (services-tally nowhere 0 0 f.service) i)))
