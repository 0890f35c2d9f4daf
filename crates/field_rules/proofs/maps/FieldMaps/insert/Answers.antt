use Rattle.std.proofs.Common.{◌≡◌, ◌+◌, ◌++◌, ℕ, Option, List, [], Some, take, get_or, ap, refl, sym, ◌∙◌, ℤ, rules, subst, FitsSigned, IfSome, MatchOption, ◌<◌, ◌^◌, append-nil}
use Rattle.std.specs.FinMap as finite
use Rattle.std.specs.Int.{w32}
use Rattle.std.specs.Option.{option_map, option_map_or}
use Rattle.std.proofs.lemmas.Int.{to_z-of_z}
use Rattle.std.proofs.lemmas.List.{get_or_default}
use Rattle.proto_types.specs.declared.records.field.FieldDescriptorProto.{FieldDescriptorProto}
use Rattle.proto_types.specs.Field.{no_field}
use Rattle.plain_data.specs.Lists.{listed}
use Rattle.proto_types.specs.declared.message.DescriptorProto.{out-DescriptorProto}
use Rattle.pool_faults.specs.declared.fault.DescriptorErrorKind.{DescriptorErrorKind}
use Rattle.record_walk.proofs.Listings.{on-ok}
use Rattle.record_walk.specs.Faults.{Tells, named_files}
use Rattle.record_walk.proofs.Tells.{same-files, tells-as, tells-two}
use Rattle.field_rules.specs.Duplicates.{duplicate_faults, number_duplicate, same_number, same_json_name}
use Rattle.field_rules.specs.Maps.{by_json_name, item_number}
use Rattle.field_rules.specs.MapsOf.{JsonNamesDiffer}
use Rattle.field_rules.proofs.Duplicates.{number-told, json_name-told, next-earlier, next-maps, no-json_name, short-numbers, short-json_names}
use Rattle.field_rules.proofs.maps.FieldMaps.insert.Goals as goal

told-alike : (fault : ℕ → DescriptorErrorKind) (first held : Option ℕ) → first ≡ held → listed (option_map fault first) ≡ listed (option_map fault held)
told-alike fault first held same = ap (λ o. listed (option_map fault o)) same

pub check_number-requires-clause-first_short : goal.check_number-requires-clause-first_short
check_number-requires-clause-first_short c =
    subst (λ o. IfSome o (λ first. first < 2 ^ 31)) (sym c.in_ok-first.ensures.earlier)
    (short-numbers c.args.self.now (out-DescriptorProto c.args.owner.now.message.now).field c.args.position c.requires.short c.requires.there c.requires.maps _)

pub enter_json_name-requires-clause-holders_short : goal.enter_json_name-requires-clause-holders_short
enter_json_name-requires-clause-holders_short c =
    let i = c.args.position in
    let fields = (out-DescriptorProto c.args.owner.now.message.now).field in
    let are = subst (λ o. MatchOption o (JsonNamesDiffer fields) (λ earlier. earlier ≡ by_json_name (take i fields))) c.in-Some.is c.requires.maps.earlier in
    λ name. short-json_names c.in-Some.earlier fields i c.requires.short c.requires.there are name

-- the number and the JSON name are entered
pub returns-in-Some-clause-maps : goal.returns-in-Some-clause-maps
returns-in-Some-clause-maps c =
    let number = c.number-number.result in
    let fields = (out-DescriptorProto c.args.owner.now.message.now).field in
    let f = c.index-as_slice-position.result in
    let i = c.args.position in
    let is = subst (λ (fs : List FieldDescriptorProto). f ≡ get_or fs i f) c.as_slice.ensures c.index-as_slice-position.is in
    let fits : FitsSigned w32 number = search rules in
    let held : c.item_number.result ≡ item_number number = c.item_number.ensures ∙ ap item_number (to_z-of_z w32 number fits) in
    let are = subst (λ o. MatchOption o (JsonNamesDiffer fields) (λ earlier. earlier ≡ by_json_name (take i fields))) c.in-Some.is c.requires.maps.earlier in
    on-ok c.enter_json_name.result (λ entered.
    next-maps c.args.self.now fields i f number c.requires.there is c.number-number.ensures fits c.requires.maps
    (record c.args.self.now { numbers = c.replace.new.self; earlier = Some c.enter_json_name.new.json_names })
    (c.in_ok-first.ensures.ok ∙ ap (λ key. finite.insert c.args.self.now.numbers key i) held) refl refl
    (next-earlier fields i f c.requires.there is c.in-Some.earlier c.enter_json_name.new.json_names are entered)) c.enter_json_name.ensures.map

-- what the maps tell of the field's number, and then of its JSON name
pub returns-in-Some-clause-faults : goal.returns-in-Some-clause-faults
returns-in-Some-clause-faults c =
    let files = named_files c.args.faults.now in
    let file = c.args.owner.now.place.file in
    let path = c.args.owner.now.place.path.now in
    let i = c.args.position in
    let fields = (out-DescriptorProto c.args.owner.now.message.now).field in
    let earlier = take i fields in
    let f = c.index-as_slice-position.result in
    let number = c.number-number.result in
    let maps = c.args.self.now in
    let is = subst (λ (fs : List FieldDescriptorProto). f ≡ get_or fs i f) c.as_slice.ensures c.index-as_slice-position.is in
    let fits : FitsSigned w32 number = search rules in
    let are = subst (λ o. MatchOption o (JsonNamesDiffer fields) (λ es. es ≡ by_json_name earlier)) c.in-Some.is c.requires.maps.earlier in
    let numbers = number-told files file path i f earlier maps.numbers c.requires.maps.numbers c.requires.maps.numbers_fit number c.number-number.ensures fits in
    let names = json_name-told files file path i f earlier c.in-Some.earlier are in
    let own : f ≡ get_or fields i no_field = is ∙ get_or_default fields i f no_field c.requires.there in
    let told = λ (n : ℤ). listed (option_map (λ first. same_number files file path n first i) (finite.get maps.numbers (item_number n))) in
    let first : Tells c.args.faults.now c.check_number.new.faults (number_duplicate files file path earlier i f) =
    tells-as (told-alike _ _ _ (c.in_ok-first.ensures.earlier ∙ ap (finite.get maps.numbers) c.item_number.ensures)
    ∙ ap told (to_z-of_z w32 number fits) ∙ numbers) c.in_ok-check_number.ensures in
    on-ok c.enter_json_name.result (λ entered.
    tells-as (ap (duplicate_faults files file path earlier i) own)
    (tells-two first (tells-as ((λ j. option_map_or (λ name. listed (option_map (λ first_i. same_json_name (same-files first j) file path name first_i i)
    (finite.get c.in-Some.earlier name))) f.json_name []) ∙ names) entered))) c.enter_json_name.ensures.faults

-- the number is entered
pub returns-in-None-clause-maps : goal.returns-in-None-clause-maps
returns-in-None-clause-maps c =
    let number = c.number-number.result in
    let fields = (out-DescriptorProto c.args.owner.now.message.now).field in
    let f = c.index-as_slice-position.result in
    let i = c.args.position in
    let is = subst (λ (fs : List FieldDescriptorProto). f ≡ get_or fs i f) c.as_slice.ensures c.index-as_slice-position.is in
    let fits : FitsSigned w32 number = search rules in
    let held : c.item_number.result ≡ item_number number = c.item_number.ensures ∙ ap item_number (to_z-of_z w32 number fits) in
    let differ : JsonNamesDiffer fields = subst (λ o. MatchOption o (JsonNamesDiffer fields) (λ es. es ≡ by_json_name (take i fields))) c.in-None.is c.requires.maps.earlier in
    next-maps c.args.self.now fields i f number c.requires.there is c.number-number.ensures fits c.requires.maps
    (record c.args.self.now { numbers = c.replace.new.self })
    (c.in_ok-first.ensures.ok ∙ ap (λ key. finite.insert c.args.self.now.numbers key i) held) refl refl
    (subst (λ o. MatchOption o (JsonNamesDiffer fields) (λ es. es ≡ by_json_name (take (i + 1) fields))) (sym c.in-None.is) differ)

-- what the map of numbers tells; no JSON name is there twice
pub returns-in-None-clause-faults : goal.returns-in-None-clause-faults
returns-in-None-clause-faults c =
    let files = named_files c.args.faults.now in
    let file = c.args.owner.now.place.file in
    let path = c.args.owner.now.place.path.now in
    let i = c.args.position in
    let fields = (out-DescriptorProto c.args.owner.now.message.now).field in
    let earlier = take i fields in
    let f = c.index-as_slice-position.result in
    let number = c.number-number.result in
    let maps = c.args.self.now in
    let is = subst (λ (fs : List FieldDescriptorProto). f ≡ get_or fs i f) c.as_slice.ensures c.index-as_slice-position.is in
    let fits : FitsSigned w32 number = search rules in
    let differ : JsonNamesDiffer fields = subst (λ o. MatchOption o (JsonNamesDiffer fields) (λ es. es ≡ by_json_name earlier)) c.in-None.is c.requires.maps.earlier in
    let numbers = number-told files file path i f earlier maps.numbers c.requires.maps.numbers c.requires.maps.numbers_fit number c.number-number.ensures fits in
    let own : f ≡ get_or fields i no_field = is ∙ get_or_default fields i f no_field c.requires.there in
    let told = λ (n : ℤ). listed (option_map (λ first. same_number files file path n first i) (finite.get maps.numbers (item_number n))) in
    let none = no-json_name files file path fields i f c.requires.there is differ in
    tells-as (told-alike _ _ _ (c.in_ok-first.ensures.earlier ∙ ap (finite.get maps.numbers) c.item_number.ensures)
    ∙ ap told (to_z-of_z w32 number fits) ∙ numbers
    ∙ sym (append-nil (number_duplicate files file path earlier i f))
    ∙ ap (λ names. number_duplicate files file path earlier i f ++ names) (sym none)
    ∙ ap (duplicate_faults files file path earlier i) own) c.in_ok-check_number.ensures
