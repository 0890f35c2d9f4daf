-- There is no difference exactly where two files are equal apart from their places.
use Rattle.std.proofs.Common.{◌≡◌, ℕ, ◌+◌, Bool, nat_eq, true, false, cond, List, [], ◌∷◌, Option, None, Some, refl, ap, Decides}
use Rattle.std.specs.Cmp.Lexicographic.{pointwise}
use Rattle.std.specs.Cmp.{signed_Decides}
use Rattle.std.specs.Option.{option_map, option_or}
use Rattle.std.specs.Ordering.{int_eq}
use Rattle.plain_data.specs.Exact.{Exact, text-exact, given-text}
use Rattle.joined_files.specs.Differences.{DifferencesAreExact, declared_difference, difference, differs_from, head_difference, tail_difference, unless_equal}
use Rattle.joined_files.specs.declared.differences.FilePart.{FilePart}
use Rattle.joined_files.specs.declared.differences.FilePart.TheVariants as part
use Rattle.proto_types.specs.contracts.records.field.FieldDescriptorProtoPartialEq.TheImpl as field
use Rattle.proto_types.specs.contracts.records.enumeration.EnumDescriptorProtoPartialEq.TheImpl as enumeration
use Rattle.proto_types.specs.contracts.records.service.ServiceDescriptorProtoPartialEq.TheImpl as service
use Rattle.proto_types.specs.contracts.message.DescriptorProtoPartialEq.TheImpl as message
use Rattle.proto_types.specs.declared.file.FileDescriptorProto.{FileDescriptorProto}
use Rattle.proto_types.specs.Exact.{enum-exact, field-exact, given-unread, message-exact, service-exact}

-- two facts that hold together
abbrev Same : Type 0 → Type 0 → Type 0
Same P Q = (P → Q) × (Q → P)

-- neither of two is there where the first of both isn't
none-of-both : {X : Type 0} (a b : Option X) {P Q : Type 0} → Same (a ≡ None) P → Same (b ≡ None) Q → Same (option_or a b ≡ None) (P × Q)
none-of-both None b p q = (λ none. (p.0 refl, q.0 none), λ both. q.1 both.1)
none-of-both (Some x) b p q = (λ none. absurd (cc), λ both. let none : Some x ≡ None = p.1 both.0 in absurd (cc))

none-mapped : {X Y : Type 0} (f : X → Y) (o : Option X) {P : Type 0} → Same (o ≡ None) P → Same (option_map f o ≡ None) P
none-mapped f None p = (λ _. p.0 refl, λ _. refl)
none-mapped f (Some x) p = (λ none. absurd (cc), λ holds. let none : Some x ≡ None = p.1 holds in absurd (cc))

none-unless : (b : Bool) (p : FilePart) {P : Type 0} → Decides b P → Same (unless_equal b p ≡ None) P
none-unless true p is = (λ _. is.0 refl, λ _. refl)
none-unless false p is = (λ none. absurd (cc), λ holds. let none : false ≡ true = is.1 holds in absurd (cc))

same-lists-here : {X : Type 0} (eq : X → X → Bool) (at : ℕ) (x y : X) (xs ys : List X) → Same (differs_from eq (at + 1) xs ys ≡ None) (xs ≡ ys) → (b : Bool) → Decides b (x ≡ y)
    → Same (cond b (differs_from eq (at + 1) xs ys) (Some at) ≡ None) (x ∷ xs ≡ y ∷ ys)
same-lists-here eq at x y xs ys rest true is =
    let one : x ≡ y = is.0 refl in
    (λ none. let others : xs ≡ ys = rest.0 none in cc, λ all. rest.1 (cc))
same-lists-here eq at x y xs ys rest false is = (λ none. absurd (cc), λ all. let one : x ≡ y = cc in let no : false ≡ true = is.1 one in absurd (cc))

same-lists : {X : Type 0} (eq : X → X → Bool) → Exact eq → (at : ℕ) (xs ys : List X) → Same (differs_from eq at xs ys ≡ None) (xs ≡ ys)
same-lists eq exact at [] [] = (λ _. refl, λ _. refl)
same-lists eq exact at [] (y ∷ ys) = (λ none. absurd (cc), λ is. absurd (cc))
same-lists eq exact at (x ∷ xs) [] = (λ none. absurd (cc), λ is. absurd (cc))
same-lists eq exact at (x ∷ xs) (y ∷ ys) = same-lists-here eq at x y xs ys (same-lists eq exact (at + 1) xs ys) (eq x y) (exact x y)

listed : {X : Type 0} (eq : X → X → Bool) → Exact eq → (part : ℕ → FilePart) (xs ys : List X) → Same (option_map part (differs_from eq 0 xs ys) ≡ None) (xs ≡ ys)
listed eq exact part xs ys = none-mapped part (differs_from eq 0 xs ys) (same-lists eq exact 0 xs ys)

head-exact : (f g : FileDescriptorProto) → Same (head_difference f g ≡ None) ((f.name ≡ g.name) × ((f.«package» ≡ g.«package») × (f.dependency ≡ g.dependency)))
head-exact f g =
    none-of-both _ _ (none-unless _ part.Name (given-text f.name g.name)) (none-of-both _ _ (none-unless _ part.Package (given-text f.«package» g.«package»))
    (listed (pointwise nat_eq) text-exact part.Import f.dependency g.dependency))

declared-exact : (f g : FileDescriptorProto)
    → Same (declared_difference f g ≡ None) ((f.message_type ≡ g.message_type) × ((f.enum_type ≡ g.enum_type) × ((f.service ≡ g.service) × (f.extension ≡ g.extension))))
declared-exact f g =
    none-of-both _ _ (listed message.ghosts.eq message-exact part.Message f.message_type g.message_type)
    (none-of-both _ _ (listed enumeration.ghosts.eq enum-exact part.Enum f.enum_type g.enum_type)
    (none-of-both _ _ (listed service.ghosts.eq service-exact part.Service f.service g.service)
    (listed field.ghosts.eq field-exact part.Extension f.extension g.extension)))

tail-exact : (f g : FileDescriptorProto)
    → Same (tail_difference f g ≡ None) ((f.options ≡ g.options) × ((f.public_dependency ≡ g.public_dependency) × ((f.weak_dependency ≡ g.weak_dependency) × (f.syntax ≡ g.syntax))))
tail-exact f g =
    none-of-both _ _ (none-unless _ part.Options (given-unread f.options g.options))
    (none-of-both _ _ (listed int_eq signed_Decides part.PublicImport f.public_dependency g.public_dependency)
    (none-of-both _ _ (listed int_eq signed_Decides part.WeakImport f.weak_dependency g.weak_dependency)
    (none-unless _ part.Syntax (given-text f.syntax g.syntax))))

parts-exact : (f g : FileDescriptorProto) → Same (difference f g ≡ None)
    (((f.name ≡ g.name) × ((f.«package» ≡ g.«package») × (f.dependency ≡ g.dependency)))
    × (((f.message_type ≡ g.message_type) × ((f.enum_type ≡ g.enum_type) × ((f.service ≡ g.service) × (f.extension ≡ g.extension))))
    × ((f.options ≡ g.options) × ((f.public_dependency ≡ g.public_dependency) × ((f.weak_dependency ≡ g.weak_dependency) × (f.syntax ≡ g.syntax))))))
unfolding difference
parts-exact f g = none-of-both _ _ (head-exact f g) (none-of-both _ _ (declared-exact f g) (tail-exact f g))

pub differences-exact : DifferencesAreExact
differences-exact f g = (
  λ none. let all = (parts-exact f g).0 none in cc,
  λ same. (parts-exact f g).1 (
    (ap (λ (h : FileDescriptorProto). h.name) same, (ap (λ (h : FileDescriptorProto). h.«package») same, ap (λ (h : FileDescriptorProto). h.dependency) same)),
    (
      (ap (λ (h : FileDescriptorProto). h.message_type) same, (ap (λ (h : FileDescriptorProto). h.enum_type) same, (ap (λ (h : FileDescriptorProto). h.service) same, ap (λ (h : FileDescriptorProto). h.extension) same))),
      (ap (λ (h : FileDescriptorProto). h.options) same, (ap (λ (h : FileDescriptorProto). h.public_dependency) same, (ap (λ (h : FileDescriptorProto). h.weak_dependency) same, ap (λ (h : FileDescriptorProto). h.syntax) same))),
    ),
  ),
)
