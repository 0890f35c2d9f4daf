-- A file is linked alike where files and declarations have other numbers.
use Rattle.std.proofs.Common.{◌≡◌, ◌<◌, ℕ, ℤ, pos, Option, None, Some, List, [], ◌∷◌, refl, ap, sym, ◌∙◌}
use Rattle.std.specs.Option.{option_map, option_map_or, option_or}
use Rattle.proto_types.specs.Computed.{literals}
use Rattle.proto_types.specs.Names.{join}
use Rattle.proto_types.specs.Readers.{text_of, type_of}
use Rattle.proto_types.specs.declared.file.FileDescriptorProto.{FileDescriptorProto}
use Rattle.proto_types.specs.declared.message.DescriptorProto.{DescriptorProto, DescriptorProto', out-DescriptorProto, Row_of-DescriptorProto, end_of-DescriptorProto, more_of-DescriptorProto}
use Rattle.proto_types.specs.declared.records.field.FieldDescriptorProto.{FieldDescriptorProto}
use Rattle.proto_types.specs.declared.records.field.FieldType.{FieldType}
use Rattle.proto_types.specs.declared.records.field.FieldType.TheVariants as written
use Rattle.proto_types.specs.declared.records.service.MethodDescriptorProto.{MethodDescriptorProto}
use Rattle.proto_types.specs.declared.records.service.ServiceDescriptorProto.{ServiceDescriptorProto}
use Rattle.pool_types.specs.declared.contents.definition.Definition.{Definition}
use Rattle.pool_types.specs.declared.contents.definition.DefinitionKind.{DefinitionKind}
use Rattle.pool_types.specs.declared.contents.definition.DefinitionKind.TheVariants as definition
use Rattle.record_walk.specs.declared.declaration.DeclarationKind.{DeclarationKind}
use Rattle.record_walk.specs.declared.declaration.DeclarationKind.TheVariants as declaration
use Rattle.record_walk.specs.Changed.{Changes, changed_fields, changed_file, changed_message, changed_methods, changed_nested, changed_service}
use Rattle.name_resolution.specs.declared.filter.ResolveNameFilter.TheVariants.{Message, FieldType as AnyType}
use Rattle.name_resolution.specs.Resolution.{Resolution, found, name_found, kind_found}
use Rattle.reference_pass.specs.Definitions.{found_as}
use Rattle.reference_pass.specs.Linked.{linked, linked_extension, linked_field, linked_method, linking, resolved, type_number, typed}
use Rattle.reference_pass.specs.Setting.{Setting, resolve}
use Rattle.pool_laws.specs.Order.{kind_alone}
use Rattle.pool_laws.proofs.Renamed.{BothFound, Renames, SameFound, resolve-renamed}
use Rattle.pool_laws.proofs.AllOf.{map-alike}

-- the number of the type that a definition of a kind without number is
abbrev alone_number : FieldType → Option DeclarationKind → Option ℤ → Option ℤ
alone_number written.Group k given = given
alone_number _ (Some declaration.Message) given = Some (pos 11)
alone_number _ (Some declaration.Enum) given = Some (pos 14)
alone_number _ _ given = given

number-alone : (x : FieldType) (k : DefinitionKind) (given : Option ℤ) → type_number x k given ≡ alone_number x (kind_alone k) given
number-alone written.Group definition.Package given = refl
number-alone written.Group _ given = refl
number-alone _ definition.Package given = refl
number-alone _ _ given = refl

-- the name and the kind of what was found
name-as : (r : Resolution) → name_found r ≡ option_map (λ d. d.0) (found_as r)
name-as (found _ _) = refl
name-as _ = refl

kind-as : (r : Resolution) → kind_found r ≡ option_map (λ d. d.1.kind) (found_as r)
kind-as (found _ _) = refl
kind-as _ = refl

module _ (number : ℕ → ℕ) where
  one-name : (o q : Option (List ℕ × Definition)) → BothFound number o q → option_map (λ d. d.0) q ≡ option_map (λ d. d.0) o
  one-name None None both = refl
  one-name (Some d) (Some e) both = ap Some both.0
  one-name _ _ both = absurd both

  one-type : (x : FieldType) (given : Option ℤ) (o q : Option (List ℕ × Definition)) → BothFound number o q
      → option_map_or (λ kind. type_number x kind given) (option_map (λ d. d.1.kind) q) given ≡ option_map_or (λ kind. type_number x kind given) (option_map (λ d. d.1.kind) o) given
  one-type x given None None both = refl
  one-type x given (Some d) (Some e) both = number-alone x e.1.kind given ∙ ap (λ k. alone_number x k given) both.1.0 ∙ sym (number-alone x d.1.kind given)
  one-type x given _ _ both = absurd both

  -- references that find the same are resolved to the same, and make a field of the same type
  resolved-alike : (r q : Resolution) (given : Option (List ℕ)) → SameFound number r q → resolved q given ≡ resolved r given
  resolved-alike r q given same =
      ap (λ name. option_or (option_map (λ (text : List ℕ). 46 ∷ text) name) given) (name-as q ∙ one-name (found_as r) (found_as q) same ∙ sym (name-as r))

  typed-alike : (r q : Resolution) (f : FieldDescriptorProto) → SameFound number r q → typed q f ≡ typed r f
  typed-alike r q f same =
      let type_as : Option DefinitionKind → Option ℤ = λ kind. option_map_or (λ kind. type_number (type_of f.type_) kind f.type_) kind f.type_ in
      let type_alike = ap type_as (kind-as q) ∙ one-type (type_of f.type_) f.type_ (found_as r) (found_as q) same ∙ ap type_as (sym (kind-as r)) in
      λ i. record f { type_name = resolved-alike r q f.type_name same i; type_ = type_alike i }

-- changes that change what is in one file as others change what is in another
record ChangeAlike (b c : Changes) (i j : ℕ) : Type 0 where
  pub fields : (name : List ℕ) (f : FieldDescriptorProto) → c.field j name f ≡ b.field i name f
  pub extensions : (name : List ℕ) (x : FieldDescriptorProto) → c.extension j name x ≡ b.extension i name x
  pub methods : (name : List ℕ) (m : MethodDescriptorProto) → c.method j name m ≡ b.method i name m

module _ (b c : Changes) (i j : ℕ) (alike : ChangeAlike b c i j) where
  fields-alike : (scope : List ℕ) (fs : List FieldDescriptorProto) → changed_fields c.field j scope fs ≡ changed_fields b.field i scope fs
  fields-alike scope fs = map-alike _ _ (λ f. alike.fields (join scope (text_of f.name)) f) fs

  extensions-alike : (scope : List ℕ) (xs : List FieldDescriptorProto) → changed_fields c.extension j scope xs ≡ changed_fields b.extension i scope xs
  extensions-alike scope xs = map-alike _ _ (λ x. alike.extensions (join scope (text_of x.name)) x) xs

  methods-alike : (scope : List ℕ) (ms : List MethodDescriptorProto) → changed_methods c.method j scope ms ≡ changed_methods b.method i scope ms
  methods-alike scope ms = map-alike _ _ (λ m. alike.methods (join scope (text_of m.name)) m) ms

  mutual
    unfolding literals

    message-alike : (full_name : List ℕ) (m : DescriptorProto) → changed_message c j full_name m ≡ changed_message b i full_name m
    message-alike full_name (DescriptorProto' name fields n nested enums ranges extensions options oneofs reserved reserved_names) =
        λ k. DescriptorProto' name (fields-alike full_name fields k) n (nested-alike full_name nested k) enums ranges
        (extensions-alike full_name extensions k) options oneofs reserved reserved_names

    nested-alike : {n : _} (scope : List ℕ) (nested : Row_of-DescriptorProto n) → changed_nested c j scope nested ≡ changed_nested b i scope nested
    nested-alike scope end_of-DescriptorProto = refl
    nested-alike scope (more_of-DescriptorProto m rest) =
        let first = message-alike (join scope (text_of (out-DescriptorProto m).name)) m in
        λ k. more_of-DescriptorProto (first k) (nested-alike scope rest k)

  service-alike : (full_name : List ℕ) (v : ServiceDescriptorProto) → changed_service c j full_name v ≡ changed_service b i full_name v
  service-alike full_name v = λ k. record v { method = methods-alike full_name v.method k }

  -- the files become the same
  file-alike : (f : FileDescriptorProto) → changed_file c j f ≡ changed_file b i f
  file-alike f =
      let scope = text_of f.«package» in
      let messages = map-alike (λ m. changed_message c j (join scope (text_of (out-DescriptorProto m).name)) m)
      (λ m. changed_message b i (join scope (text_of (out-DescriptorProto m).name)) m) (λ m. message-alike (join scope (text_of (out-DescriptorProto m).name)) m) f.message_type in
      let services = map-alike (λ v. changed_service c j (join scope (text_of v.name)) v)
      (λ v. changed_service b i (join scope (text_of v.name)) v) (λ v. service-alike (join scope (text_of v.name)) v) f.service in
      λ k. record f { message_type = messages k; service = services k; extension = extensions-alike scope f.extension k }

-- a file that has another number in another setting, where names mean the same
module _ (s t : Setting) (many : ℕ) (number : ℕ → ℕ) (renames : Renames s t many number) (n : ℕ) (below : n < many) where
  field-renamed : (name : List ℕ) (f : FieldDescriptorProto) → linked_field t (number n) name f ≡ linked_field s n name f
  field-renamed name f =
      let old = resolve s n name AnyType (text_of f.type_name) in
      let new = resolve t (number n) name AnyType (text_of f.type_name) in
      elim (text_of f.type_name) as (λ text.
      let was : FieldDescriptorProto = elim text [ [] ↦ f | _ ∷ _ ↦ typed old f ] in
      let is : FieldDescriptorProto = elim text [ [] ↦ f | _ ∷ _ ↦ typed new f ] in is ≡ was) [
        | [] ↦ refl
        | _ ∷ _ ↦ typed-alike number old new f (resolve-renamed s t many number renames n below name (text_of f.type_name) AnyType)
      ]

  text-renamed : (name : List ℕ) (given : Option (List ℕ)) → resolved (resolve t (number n) name Message (text_of given)) given ≡ resolved (resolve s n name Message (text_of given)) given
  text-renamed name given =
      resolved-alike number (resolve s n name Message (text_of given)) (resolve t (number n) name Message (text_of given)) given
      (resolve-renamed s t many number renames n below name (text_of given) Message)

  extension-renamed : (name : List ℕ) (x : FieldDescriptorProto) → linked_extension t (number n) name x ≡ linked_extension s n name x
  extension-renamed name x = λ i. record (field-renamed name x i) { extendee = text-renamed name x.extendee i }

  method-renamed : (name : List ℕ) (m : MethodDescriptorProto) → linked_method t (number n) name m ≡ linked_method s n name m
  method-renamed name m = λ i. record m { input_type = text-renamed name m.input_type i; output_type = text-renamed name m.output_type i }

  alike-renamed : ChangeAlike (linking s) (linking t) n (number n)
  alike-renamed = record { fields = field-renamed; extensions = extension-renamed; methods = method-renamed }

  pub linked-renamed : (f : FileDescriptorProto) → linked t (number n) f ≡ linked s n f
  linked-renamed = file-alike (linking s) (linking t) n (number n) alike-renamed
