-- The references of an extension, its extendee and then its type name.
use Rattle.std.proofs.Common.{◌≡◌, ℕ, ℤ, List, [], ◌∷◌, ◌++◌, Option, Some, OnOk, Result, codes, ap, sym, ◌∙◌, append_assoc}
use Rattle.proto_types.specs.Readers.{text_of}
use Rattle.proto_types.specs.declared.records.field.FieldDescriptorProto.{FieldDescriptorProto}
use Rattle.record_walk.specs.declared.declaration.Declaration.{Declaration}
use Rattle.record_walk.specs.declared.declaration.DeclarationKind.TheVariants as declared
use Rattle.record_walk.specs.Declaration.{declaration_of}
use Rattle.record_walk.specs.Protos.{Proto, of_file, of_message, of_field, of_oneof, of_service, of_method, of_enum, of_value, of_extension}
use Rattle.record_walk.specs.Shown.{Shown}
use Rattle.record_walk.proofs.Listings.{on-ok}
use Rattle.record_lists.specs.Reference.{Reference, reference, reference_in, references_in}

-- an extendee and a type name behind others, by the declaration of an extension to whose record its path leads
module _ {U E : Type 0} (r : Result U E) (x : Declaration) (led : Option Proto) (extendee type_name : List ℕ) (before middle more : List Reference) where
  pub extension-adds : (file : ℕ) (parent : Option ℕ) (index : ℕ) (path : List ℤ) (full_name : List ℕ) (p : Proto)
      → let d : Shown = record { file = file; parent = parent; index = index; path = path; full_name = full_name; proto = p } in
      x.kind ≡ declared.Extension → x ≡ declaration_of d → led ≡ Some p
      → ((f : FieldDescriptorProto) → led ≡ Some (of_extension f) → extendee ≡ text_of f.extendee)
      → ((f : FieldDescriptorProto) → led ≡ Some (of_extension f) → type_name ≡ text_of f.type_name)
      → middle ≡ before ++ reference d (codes "extendee") extendee ∷ []
      → OnOk r (more ≡ middle ++ reference_in d (codes "type_name") type_name)
      → OnOk r (more ≡ before ++ references_in d)
  extension-adds file parent index path full_name (of_extension f) kind same lead first second mid all =
      let d : Shown = record { file = file; parent = parent; index = index; path = path; full_name = full_name; proto = of_extension f } in
      let one : List ℕ → Reference = reference d (codes "extendee") in
      let other : List ℕ → List Reference = reference_in d (codes "type_name") in
      on-ok r (λ (is : more ≡ middle ++ other type_name). is ∙ ap (λ rs. rs ++ other type_name) mid
      ∙ append_assoc before (one extendee ∷ []) (other type_name) ∙ (λ i. before ++ one (first f lead i) ∷ other (second f lead i))) all
  extension-adds file parent index path full_name (of_file _) kind same lead first second mid all = let no : declared.File ≡ declared.Extension = ap (λ (y : Declaration). y.kind) (sym same) ∙ kind in absurd (cc)
  extension-adds file parent index path full_name (of_message _) kind same lead first second mid all = let no : declared.Message ≡ declared.Extension = ap (λ (y : Declaration). y.kind) (sym same) ∙ kind in absurd (cc)
  extension-adds file parent index path full_name (of_field _) kind same lead first second mid all = let no : declared.Field ≡ declared.Extension = ap (λ (y : Declaration). y.kind) (sym same) ∙ kind in absurd (cc)
  extension-adds file parent index path full_name (of_oneof _) kind same lead first second mid all = let no : declared.Oneof ≡ declared.Extension = ap (λ (y : Declaration). y.kind) (sym same) ∙ kind in absurd (cc)
  extension-adds file parent index path full_name (of_service _) kind same lead first second mid all = let no : declared.Service ≡ declared.Extension = ap (λ (y : Declaration). y.kind) (sym same) ∙ kind in absurd (cc)
  extension-adds file parent index path full_name (of_method _) kind same lead first second mid all = let no : declared.Method ≡ declared.Extension = ap (λ (y : Declaration). y.kind) (sym same) ∙ kind in absurd (cc)
  extension-adds file parent index path full_name (of_enum _) kind same lead first second mid all = let no : declared.Enum ≡ declared.Extension = ap (λ (y : Declaration). y.kind) (sym same) ∙ kind in absurd (cc)
  extension-adds file parent index path full_name (of_value _) kind same lead first second mid all = let no : declared.EnumValue ≡ declared.Extension = ap (λ (y : Declaration). y.kind) (sym same) ∙ kind in absurd (cc)
