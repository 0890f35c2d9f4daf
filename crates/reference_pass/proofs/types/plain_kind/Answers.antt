use Rattle.std.proofs.Common.{◌≡◌, ◌==◌, ℕ, ℤ, Bool, true, false, List, [], ◌∷◌, length, ◌++◌, is_some, Option, None, Some, refl, ap, sym, ◌∙◌, if◌then◌else◌}
use Rattle.std.specs.Prelude.{IfSome}
use Rattle.std.specs.Option.{option_and_then}
use Rattle.plain_data.specs.Lists.{listed}
use Rattle.proto_types.specs.declared.file.FileDescriptorProto.{FileDescriptorProto}
use Rattle.proto_types.specs.declared.records.field.FieldDescriptorProto.{FieldDescriptorProto}
use Rattle.proto_types.specs.Readers.{text_of, type_of}
use Rattle.pool_types.specs.Kinds.{named_kind}
use Rattle.pool_types.specs.declared.contents.definition.Definition.{Definition}
use Rattle.pool_types.specs.declared.kinds.KindIndex.{KindIndex}
use Rattle.record_walk.specs.Shown.{Shown}
use Rattle.name_resolution.specs.References.{reference_fault}
use Rattle.name_resolution.specs.Resolution.{Resolution, definition_found, has_leading_dot, kind_found}
use Rattle.name_resolution.specs.Resolution.Resolution.{found, invalid_type, not_imported, shadowed, not_found}
use Rattle.name_resolution.specs.declared.filter.ResolveNameFilter.TheVariants.{FieldType}
use Rattle.proto_types.specs.declared.tag.field.TheConstants.{TYPE_NAME}
use Rattle.field_rules.specs.Defaults.{default_faults}
use Rattle.reference_pass.specs.Plain.{IsPlain}
use Rattle.reference_pass.specs.Defaults.{default_by, default_faults_by, type_enum}
use Rattle.reference_pass.specs.Setting.{Setting, resolve}
use Rattle.reference_pass.specs.Types.{resolve_type}
use Rattle.reference_pass.specs.Reading.{setting_of}
use Rattle.reference_pass.proofs.types.plain_kind.Goals as goal

none-where : {X : Type 0} (o : Option X) → is_some o ≡ false → o ≡ None
none-where None absent = refl
none-where (Some x) absent = absurd (cc)

-- what is found has a kind, and breaks nothing
record IsFound (r : Resolution) (def : Definition) : Type 0 where
  kind : kind_found r ≡ Some def.kind
  quiet : (files : List FileDescriptorProto) (written : List ℕ) (file : ℕ) (path : List ℤ) → reference_fault files written file path r ≡ None

found-is : (r : Resolution) (def : Definition) → Some def ≡ definition_found r → IsFound r def
found-is (found name other) def is = record { kind = ap (λ o. option_and_then (λ (x : Definition). Some x.kind) o) (sym is); quiet = λ files written file path. refl }
found-is (invalid_type name other filter) def is = absurd (cc)
found-is (not_imported name file) def is = absurd (cc)
found-is (shadowed name full) def is = absurd (cc)
found-is not_found def is = absurd (cc)

dotted : (b : Bool) (def : Definition) (o : Option Definition) → Some def ≡ (if b then o else None) → Some def ≡ o
dotted true def o is = is
dotted false def o is = absurd (cc)

-- a name that is not empty
by-name : {X : Type 0} (name : List ℕ) (a b : X) → (length name == 0) ≡ false → (elim name [ [] ↦ a | _ ∷ _ ↦ b ]) ≡ b
by-name [] a b named = absurd (cc)
by-name (x ∷ xs) a b named = refl

-- a field whose type is found by its name, and which has no default value
plain-found : (s : Setting) (d : Shown) (f : FieldDescriptorProto) (def : Definition) (kind : KindIndex) → (length (text_of f.type_name) == 0) ≡ false
    → IsFound (resolve_type s d f) def → named_kind (type_of f.type_) def.kind ≡ Some kind → f.default_value ≡ None → IsPlain s d f kind
plain-found s d f def kind named is kept none =
    let kind_is = by-name (text_of f.type_name) _ _ named ∙ ap (option_and_then (named_kind (type_of f.type_))) is.kind ∙ kept in
    record {
      kind_is = kind_is;
      type_told = by-name (text_of f.type_name) _ _ named ∙ ap listed (is.quiet s.files (text_of f.type_name) d.file (d.path ++ TYPE_NAME ∷ []));
      default_is = λ i. default_by (kind_is i) (type_enum s d f) (none i);
      default_told = ap (default_faults_by s d f) kind_is ∙ ap (default_faults s.files d.file d.path kind (type_enum s d f)) none;
    }

if-plain : (o : Option KindIndex) (P : KindIndex → Type 0) → ((kind : KindIndex) → o ≡ Some kind → P kind) → IfSome o P
if-plain None P each = tt
if-plain (Some kind) P each = each kind refl

pub returns : goal.returns
returns c =
    let s = setting_of c.args.reading.now in
    let f = c.args.field.now in
    let def = c.in_ok-def.def.now in
    let name = c.type_name-written.ensures in
    let named : (length (text_of f.type_name) == 0) ≡ false = sym (c.is_empty.ensures ∙ ap (λ (t : List ℕ). length t == 0) name) ∙ c.if-is_empty.false in
    let none : f.default_value ≡ None = none-where f.default_value (sym c.is_some.ensures ∙ c.if-is_some.false) in
    if-plain c.named_kind.result (λ kind. (d : Shown) → d.file ≡ c.args.file → IsPlain s d f kind) (λ kind is d file.
    let found_at : Some def ≡ (if has_leading_dot (text_of f.type_name) then definition_found (resolve_type s d f) else None) =
    c.in_ok-def.ensures d.full_name ∙ (λ i. if has_leading_dot (name i) then definition_found (resolve s (sym file i) d.full_name FieldType (name i)) else None) in
    plain-found s d f def kind named (found-is (resolve_type s d f) def (dotted (has_leading_dot (text_of f.type_name)) def (definition_found (resolve_type s d f)) found_at))
    (ap (λ t. named_kind t def.kind) (sym c.field_type-2.ensures) ∙ sym c.named_kind.ensures ∙ is) none)
