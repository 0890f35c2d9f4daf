-- The counts behind the parts of a walk.
use Rattle.std.proofs.Common.{true, ◌≡◌, ℕ, ℤ, suc, List, [], ◌∷◌, refl, ap, ◌∙◌}
use Rattle.record_walk.specs.declared.counts.Counts.{Counts}
use Rattle.proto_types.specs.declared.tag.message.TheConstants as message
use Rattle.proto_types.specs.declared.tag.enum_.TheConstants as enumeration
use Rattle.proto_types.specs.declared.tag.file.TheConstants as file
use Rattle.proto_types.specs.declared.tag.service.TheConstants as service
use Rattle.proto_types.specs.declared.message.DescriptorProto.{DescriptorProto, out-DescriptorProto}
use Rattle.proto_types.specs.declared.records.enumeration.EnumDescriptorProto.{EnumDescriptorProto}
use Rattle.proto_types.specs.declared.records.service.ServiceDescriptorProto.{ServiceDescriptorProto}
use Rattle.proto_types.specs.declared.records.field.FieldDescriptorProto.{FieldDescriptorProto}
use Rattle.proto_types.specs.declared.message.OneofDescriptorProto.{OneofDescriptorProto}
use Rattle.record_walk.specs.Protos.{Proto, of_message, of_field, of_oneof, of_service, of_method, of_enum, of_value}
use Rattle.record_walk.specs.Shown.{Shown, Surrounding, shown, row, parts, inside, beside}
use Rattle.record_walk.specs.Counts.{counted, counting, fits_list, lists_fit}
use Rattle.record_walk.specs.Declarations.{enum_walk, enums_walk, service_walk, services_walk, message_front}
use Rattle.record_walk.specs.Walking.{Room}
use Rattle.record_walk.proofs.Counted.{counted-append}
use Rattle.record_walk.proofs.Listings.{first-true, second-true}

-- what no pool numbers changes no count
pub counted-row : {X : Type 0} (of : X → Proto) → ((c : Counts) (x : X) → counting c (of x) ≡ c) → (c : Counts) (here : Surrounding) (tag : ℤ) (i n : ℕ) (xs : List X)
    → counted c (row of here tag i n xs) ≡ c
counted-row of same c here tag i n [] = refl
counted-row of same c here tag i n (x ∷ xs) =
    ap (λ k. counted k (row of here tag (suc i) (suc n) xs)) (same c x) ∙ counted-row of same c here tag (suc i) (suc n) xs

pub counted-enum : (c : Counts) (here : Surrounding) (tag : ℤ) (i n : ℕ) (e : EnumDescriptorProto) → counted c (enum_walk here tag i n e) ≡ counting c (of_enum e)
counted-enum c here tag i n e =
    counted-row of_value (λ _ _. refl) (counting c (of_enum e)) (beside here.scope (shown here tag i n (of_enum e))) enumeration.VALUE 0 0 e.value

pub counted-service : (c : Counts) (here : Surrounding) (i n : ℕ) (s : ServiceDescriptorProto) → counted c (service_walk here i n s) ≡ counting c (of_service s)
counted-service c here i n s =
    counted-row of_method (λ _ _. refl) (counting c (of_service s)) (inside (shown here file.SERVICE i n (of_service s))) service.METHOD 0 0 s.method

-- enums change no other count
pub enums-keep : (c : Counts) (here : Surrounding) (tag : ℤ) (i n : ℕ) (es : List EnumDescriptorProto)
    → ((counted c (enums_walk here tag i n es)).services ≡ c.services) × ((counted c (enums_walk here tag i n es)).extensions ≡ c.extensions)
enums-keep c here tag i n [] = (refl, refl)
enums-keep c here tag i n (e ∷ es) =
    let parts = counted-append c (enum_walk here tag i n e) (enums_walk here tag (suc i) (suc n) es) ∙ ap (λ k. counted k (enums_walk here tag (suc i) (suc n) es)) (counted-enum c here tag i n e) in
    let rest = enums-keep (counting c (of_enum e)) here tag (suc i) (suc n) es in
    (ap (λ (k : Counts). k.services) parts ∙ rest.0, ap (λ (k : Counts). k.extensions) parts ∙ rest.1)

-- nor do services
pub services-keep : (c : Counts) (here : Surrounding) (i n : ℕ) (ss : List ServiceDescriptorProto)
    → (counted c (services_walk here i n ss)).extensions ≡ c.extensions
services-keep c here i n [] = refl
services-keep c here i n (s ∷ ss) =
    ap (λ (k : Counts). k.extensions) (counted-append c (service_walk here i n s) (services_walk here (suc i) (suc n) ss) ∙ ap (λ k. counted k (services_walk here (suc i) (suc n) ss)) (counted-service c here i n s))
    ∙ services-keep (counting c (of_service s)) here (suc i) (suc n) ss

-- the opening of a message counts the message alone
pub counted-front : (c : Counts) (here : Surrounding) (os : List OneofDescriptorProto) (fs : List FieldDescriptorProto) → counted c (message_front here os fs) ≡ c
counted-front c here os fs =
    counted-append c (parts of_oneof here message.ONEOF_DECL os) (parts of_field here message.FIELD fs)
    ∙ ap (λ k. counted k (parts of_field here message.FIELD fs)) (counted-row of_oneof (λ _ _. refl) c here message.ONEOF_DECL 0 0 os)
    ∙ counted-row of_field (λ _ _. refl) c here message.FIELD 0 0 fs

-- the lists of a message that is listed are short
pub short-nested : (m : DescriptorProto) → lists_fit (of_message m) ≡ true → fits_list (out-DescriptorProto m).nested_type ≡ true
short-nested m fits = second-true _ _ (first-true _ _ (first-true _ _ (first-true _ _ (first-true _ _ (first-true _ _ fits)))))

pub short-enums : (m : DescriptorProto) → lists_fit (of_message m) ≡ true → fits_list (out-DescriptorProto m).enum_type ≡ true
short-enums m fits = second-true _ _ (first-true _ _ (first-true _ _ (first-true _ _ (first-true _ _ fits))))

pub short-extensions : (m : DescriptorProto) → lists_fit (of_message m) ≡ true → fits_list (out-DescriptorProto m).extension ≡ true
short-extensions m fits = second-true _ _ (first-true _ _ (first-true _ _ (first-true _ _ fits)))

-- as it does for the first of what there is room for
pub fits-first : {c : Counts} {d : Shown} {ds : List Shown} → Room c (d ∷ ds) → lists_fit d.proto ≡ true
fits-first {c} {d} {ds} room = first-true _ _ room.short
