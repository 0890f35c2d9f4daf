-- The references of a method, its input and then its output.
use Rattle.std.proofs.Common.{◌≡◌, ℕ, ℤ, List, [], ◌∷◌, ◌++◌, Option, Some, OnOk, Result, codes, ap, sym, ◌∙◌, append_assoc}
use Rattle.proto_types.specs.Readers.{text_of}
use Rattle.proto_types.specs.declared.records.service.MethodDescriptorProto.{MethodDescriptorProto}
use Rattle.record_walk.specs.declared.declaration.Declaration.{Declaration}
use Rattle.record_walk.specs.declared.declaration.DeclarationKind.TheVariants as declared
use Rattle.record_walk.specs.Declaration.{declaration_of}
use Rattle.record_walk.specs.Protos.{Proto, of_file, of_message, of_field, of_oneof, of_service, of_method, of_enum, of_value, of_extension}
use Rattle.record_walk.specs.Shown.{Shown}
use Rattle.record_walk.proofs.Listings.{on-ok}
use Rattle.record_lists.specs.Reference.{Reference, reference, references_in}

-- two references behind others, by the declaration of a method to whose record its path leads
module _ {U E : Type 0} (r : Result U E) (x : Declaration) (led : Option Proto) (input output : List ℕ) (before middle more : List Reference) where
  pub method-adds : (file : ℕ) (parent : Option ℕ) (index : ℕ) (path : List ℤ) (full_name : List ℕ) (p : Proto)
      → let d : Shown = record { file = file; parent = parent; index = index; path = path; full_name = full_name; proto = p } in
      x.kind ≡ declared.Method → x ≡ declaration_of d → led ≡ Some p
      → ((m : MethodDescriptorProto) → led ≡ Some (of_method m) → input ≡ text_of m.input_type)
      → ((m : MethodDescriptorProto) → led ≡ Some (of_method m) → output ≡ text_of m.output_type)
      → middle ≡ before ++ reference d (codes "input_type") input ∷ []
      → OnOk r (more ≡ middle ++ reference d (codes "output_type") output ∷ [])
      → OnOk r (more ≡ before ++ references_in d)
  method-adds file parent index path full_name (of_method m) kind same lead first second mid all =
      let d : Shown = record { file = file; parent = parent; index = index; path = path; full_name = full_name; proto = of_method m } in
      let one : List ℕ → Reference = reference d (codes "input_type") in
      let other : List ℕ → Reference = reference d (codes "output_type") in
      on-ok r (λ (is : more ≡ middle ++ other output ∷ []). is ∙ ap (λ rs. rs ++ other output ∷ []) mid
      ∙ append_assoc before (one input ∷ []) (other output ∷ []) ∙ (λ i. before ++ one (first m lead i) ∷ other (second m lead i) ∷ [])) all
  method-adds file parent index path full_name (of_file _) kind same lead first second mid all = let no : declared.File ≡ declared.Method = ap (λ (y : Declaration). y.kind) (sym same) ∙ kind in absurd (cc)
  method-adds file parent index path full_name (of_message _) kind same lead first second mid all = let no : declared.Message ≡ declared.Method = ap (λ (y : Declaration). y.kind) (sym same) ∙ kind in absurd (cc)
  method-adds file parent index path full_name (of_field _) kind same lead first second mid all = let no : declared.Field ≡ declared.Method = ap (λ (y : Declaration). y.kind) (sym same) ∙ kind in absurd (cc)
  method-adds file parent index path full_name (of_oneof _) kind same lead first second mid all = let no : declared.Oneof ≡ declared.Method = ap (λ (y : Declaration). y.kind) (sym same) ∙ kind in absurd (cc)
  method-adds file parent index path full_name (of_service _) kind same lead first second mid all = let no : declared.Service ≡ declared.Method = ap (λ (y : Declaration). y.kind) (sym same) ∙ kind in absurd (cc)
  method-adds file parent index path full_name (of_enum _) kind same lead first second mid all = let no : declared.Enum ≡ declared.Method = ap (λ (y : Declaration). y.kind) (sym same) ∙ kind in absurd (cc)
  method-adds file parent index path full_name (of_value _) kind same lead first second mid all = let no : declared.EnumValue ≡ declared.Method = ap (λ (y : Declaration). y.kind) (sym same) ∙ kind in absurd (cc)
  method-adds file parent index path full_name (of_extension _) kind same lead first second mid all = let no : declared.Extension ≡ declared.Method = ap (λ (y : Declaration). y.kind) (sym same) ∙ kind in absurd (cc)
