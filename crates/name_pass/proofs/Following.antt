-- The declarations of files are each named in a scope that is open when they come.
use Rattle.std.proofs.Common.{◌≡◌, ◌<◌, ◌≤◌, ◌-◌, ◌*◌, ◌/◌, ℕ, suc, ℤ, pos, List, [], ◌∷◌, ◌++◌, length, take, get_or, refl, ap, sym, subst, ◌∙◌, arith, length-append}
use Rattle.std.specs.List.{fold}
use Rattle.std.proofs.lemmas.List.{get_or-take, take-take}
use Rattle.std.proofs.lemmas.List.Sums.{fold-append}
use Rattle.proto_types.specs.declared.tag.file.TheConstants as file
use Rattle.proto_types.specs.declared.tag.message.TheConstants as message
use Rattle.proto_types.specs.declared.tag.enum_.TheConstants as enumeration
use Rattle.proto_types.specs.declared.tag.service.TheConstants as service
use Rattle.proto_types.specs.Computed.{literals}
use Rattle.proto_types.specs.Names.{join}
use Rattle.proto_types.specs.Paths.{entry_path}
use Rattle.proto_types.specs.declared.file.FileDescriptorProto.{FileDescriptorProto}
use Rattle.proto_types.specs.declared.message.DescriptorProto.{DescriptorProto, DescriptorProto', Row_of-DescriptorProto, end_of-DescriptorProto, more_of-DescriptorProto}
use Rattle.proto_types.specs.declared.message.OneofDescriptorProto.{OneofDescriptorProto}
use Rattle.proto_types.specs.declared.records.field.FieldDescriptorProto.{FieldDescriptorProto}
use Rattle.proto_types.specs.declared.records.enumeration.EnumDescriptorProto.{EnumDescriptorProto}
use Rattle.proto_types.specs.declared.records.service.ServiceDescriptorProto.{ServiceDescriptorProto}
use Rattle.record_walk.specs.declared.counts.Counts.{Counts}
use Rattle.record_walk.specs.Counts.{counted, counting}
use Rattle.record_walk.specs.Declarations.{in_file, enum_walk, enums_walk, service_walk, services_walk, message_front, message_end, message_walk, nested_walk, messages_walk, file_walk, declarations}
use Rattle.record_walk.specs.Protos.{Proto, of_file, of_message, of_field, of_oneof, of_service, of_method, of_enum, of_value, of_extension, name_of}
use Rattle.record_walk.specs.Shown.{Shown, Surrounding, shown, row, parts, inside, beside}
use Rattle.record_walk.proofs.Walks.{IsInside}
use Rattle.name_pass.proofs.Opened.{opened-kept, opened-last, opened-length}
use Rattle.name_pass.specs.Scopes.{FollowScopes, IsNamedIn, scope_level, scopes_behind}

-- the scopes that are open behind declarations
abbrev behind : List (List ℕ) → List Shown → List (List ℕ)
behind scopes ds = fold scopes_behind scopes ds

-- a list that follows scopes, and one that follows those behind it
follows-append : (scopes : List (List ℕ)) (ds es : List Shown) → FollowScopes scopes ds → FollowScopes (behind scopes ds) es → FollowScopes scopes (ds ++ es)
follows-append scopes [] es first second = second
follows-append scopes (d ∷ ds) es first second = (first.0, follows-append (scopes_behind scopes d) ds es first.1 second)

-- the scope with a level is open and has a text
record IsOpen (level : ℕ) (text : List ℕ) (scopes : List (List ℕ)) : Type 0 where
  pub within : level < length scopes
  pub text_is : get_or scopes level [] ≡ text

-- declarations follow open scopes, and leave those up to a level as they are
record Leaves (level : ℕ) (text : List ℕ) (scopes : List (List ℕ)) (ds : List Shown) : Type 0 where
  pub follow : FollowScopes scopes ds
  pub open_still : IsOpen level text (behind scopes ds)
  pub kept : take (suc level) (behind scopes ds) ≡ take (suc level) scopes

abbrev LeaveOpen : ℕ → List ℕ → List Shown → Type 0
LeaveOpen level text ds = (scopes : List (List ℕ)) → IsOpen level text scopes → Leaves level text scopes ds

none-leave : (level : ℕ) (text : List ℕ) → LeaveOpen level text []
none-leave level text scopes is = record { follow = tt; open_still = is; kept = refl }

both-leave : (level : ℕ) (text : List ℕ) (ds es : List Shown) → LeaveOpen level text ds → LeaveOpen level text es → LeaveOpen level text (ds ++ es)
both-leave level text ds es first second scopes is =
    let a = first scopes is in
    let b = second (behind scopes ds) a.open_still in
    let both : behind scopes (ds ++ es) ≡ behind (behind scopes ds) es = fold-append scopes_behind scopes ds es in
    record {
      follow = follows-append scopes ds es a.follow b.follow;
      open_still = subst (IsOpen level text) (sym both) b.open_still;
      kept = ap (take (suc level)) both ∙ b.kept ∙ a.kept;
    }

-- what a declaration that stands in a file asks of the scopes, and opens
inside-named : (scopes : List (List ℕ)) (d : Shown) → IsInside d.proto → scope_level d < length scopes
    → d.full_name ≡ join (get_or scopes (scope_level d) []) (name_of d.proto) → IsNamedIn scopes d
inside-named scopes d = elim d.proto as (λ q. let e : Shown = record d { proto = q } in IsInside q → scope_level e < length scopes
    → e.full_name ≡ join (get_or scopes (scope_level e) []) (name_of q) → IsNamedIn scopes e) [
      | of_file f ↦ λ stands below is. absurd stands
      | _ ↦ λ stands below is. (below, is)
    ]

inside-behind : (scopes : List (List ℕ)) (d : Shown) → IsInside d.proto → scopes_behind scopes d ≡ take (suc (scope_level d)) scopes ++ d.full_name ∷ []
inside-behind scopes d = elim d.proto as (λ q. let e : Shown = record d { proto = q } in IsInside q
    → scopes_behind scopes e ≡ take (suc (scope_level e)) scopes ++ e.full_name ∷ []) [
      | of_file f ↦ λ stands. absurd stands
      | _ ↦ λ stands. refl
    ]

-- what two lists begin with
front-same : (xs ys : List (List ℕ)) (m n : ℕ) → m ≤ n → take n xs ≡ take n ys → take m xs ≡ take m ys
front-same xs ys m n less same = sym (take-take m n xs less) ∙ ap (take m) same ∙ take-take m n ys less

-- a declaration in an open scope, and what stands in the scope that it opens
with-inner : (level : ℕ) (text : List ℕ) (d : Shown) (ds : List Shown) → IsInside d.proto → scope_level d ≡ level → d.full_name ≡ join text (name_of d.proto)
    → LeaveOpen (suc level) d.full_name ds → LeaveOpen level text (d ∷ ds)
with-inner level text d ds stands level-is name inner scopes is =
    let next = scopes_behind scopes d in
    let next-is : next ≡ take (suc level) scopes ++ d.full_name ∷ [] = inside-behind scopes d stands ∙ ap (λ n. take (suc n) scopes ++ d.full_name ∷ []) level-is in
    let long = ap length next-is ∙ opened-length scopes level d.full_name is.within in
    let last = ap (λ xs. get_or xs (suc level) []) next-is ∙ opened-last scopes level d.full_name is.within in
    let a = inner next (record { within = omega (arith, long); text_is = last }) in
    let kept = front-same (behind next ds) next (suc level) (suc (suc level)) (omega arith) a.kept
    ∙ ap (take (suc level)) next-is ∙ opened-kept scopes level d.full_name is.within in
    let text = ap (λ n. get_or scopes n []) level-is ∙ is.text_is in
    record {
      follow = (inside-named scopes d stands (omega (arith, is.within, level-is)) (name ∙ ap (λ t. join t (name_of d.proto)) (sym text)), a.follow);
      open_still = record {
        within = omega (arith, a.open_still.within);
        text_is = sym (get_or-take (suc level) (behind next ds) level [] (omega arith)) ∙ ap (λ xs. get_or xs level []) kept
            ∙ get_or-take (suc level) scopes level [] (omega arith) ∙ is.text_is;
      };
      kept = kept;
    }

alone : (level : ℕ) (text : List ℕ) (d : Shown) → IsInside d.proto → scope_level d ≡ level → d.full_name ≡ join text (name_of d.proto) → LeaveOpen level text (d ∷ [])
alone level text d stands level-is name = with-inner level text d [] stands level-is name (none-leave (suc level) d.full_name)

-- one entry of a list more on a path
path-longer : (path : List ℤ) (tag : ℤ) (position level : ℕ) → length path ≡ 2 * level → length (entry_path path tag position) ≡ 2 * suc level
path-longer path tag position level is = omega (arith, is, length-append path (tag ∷ pos position ∷ []))

level-of-path : (path : List ℤ) (level : ℕ) → length path ≡ 2 * suc level → length path / 2 - 1 ≡ level
level-of-path path level is = omega (arith, is)

level-beside : (path : List ℤ) (level : ℕ) → length path ≡ 2 * suc (suc level) → length path / 2 - 2 ≡ level
level-beside path level is = omega (arith, is)

-- the records of a list, which are named in the scope with a level
rows-leave : {X : Type 0} (of : X → Proto) → ((x : X) → IsInside (of x)) → (level : ℕ) (here : Surrounding)
    → ((tag : ℤ) (position index : ℕ) (x : X) → scope_level (shown here tag position index (of x)) ≡ level)
    → (tag : ℤ) (position index : ℕ) (xs : List X) → LeaveOpen level here.scope (row of here tag position index xs)
rows-leave of stands level here levels tag position index [] = none-leave level here.scope
rows-leave of stands level here levels tag position index (x ∷ xs) =
    let d = shown here tag position index (of x) in
    both-leave level here.scope (d ∷ []) (row of here tag (suc position) (suc index) xs)
    (alone level here.scope d (stands x) (levels tag position index x) refl)
    (rows-leave of stands level here levels tag (suc position) (suc index) xs)

module _ (level : ℕ) (here : Surrounding) (depth : length here.path ≡ 2 * level) where
  entry-level : (tag : ℤ) (position : ℕ) → length (entry_path here.path tag position) / 2 - 1 ≡ level
  entry-level tag position = level-of-path (entry_path here.path tag position) level (path-longer here.path tag position level depth)

  -- enums, each with its values, which are named beside it
  enums-leave : (tag : ℤ) (position index : ℕ) (es : List EnumDescriptorProto) → LeaveOpen level here.scope (enums_walk here tag position index es)
  enums-leave tag position index [] = none-leave level here.scope
  enums-leave tag position index (e ∷ es) =
      let d = shown here tag position index (of_enum e) in
      let values = parts of_value (beside here.scope d) enumeration.VALUE e.value in
      let longer = path-longer here.path tag position level depth in
      both-leave level here.scope (enum_walk here tag position index e) (enums_walk here tag (suc position) (suc index) es)
      (both-leave level here.scope (d ∷ []) values
      (alone level here.scope d tt (entry-level tag position) refl)
      (rows-leave of_value (λ _. tt) level (beside here.scope d)
      (λ t p i x. level-beside (entry_path d.path t p) level (path-longer d.path t p (suc level) longer))
      enumeration.VALUE 0 0 e.value))
      (enums-leave tag (suc position) (suc index) es)

  -- fields, oneofs, methods or extensions
  parts-leave : {X : Type 0} (of : X → Proto) → ((x : X) → IsInside (of x)) → ((tag : ℤ) (position index : ℕ) (x : X) → let d = shown here tag position index (of x) in scope_level d ≡ length d.path / 2 - 1)
      → (tag : ℤ) (position index : ℕ) (xs : List X) → LeaveOpen level here.scope (row of here tag position index xs)
  parts-leave of stands levels tag position index xs =
      rows-leave of stands level here (λ t p i x. levels t p i x ∙ entry-level t p) tag position index xs

-- what surrounds what stands in a declaration
depth-inside : (level : ℕ) (here : Surrounding) → length here.path ≡ 2 * level → (tag : ℤ) (position index : ℕ) (proto : Proto)
    → length (inside (shown here tag position index proto)).path ≡ 2 * suc level
depth-inside level here depth tag position index proto = path-longer here.path tag position level depth

module _ (level : ℕ) (here : Surrounding) (depth : length here.path ≡ 2 * level) where
  services-leave : (position index : ℕ) (ss : List ServiceDescriptorProto) → LeaveOpen level here.scope (services_walk here position index ss)
  services-leave position index [] = none-leave level here.scope
  services-leave position index (s ∷ ss) =
      let d = shown here file.SERVICE position index (of_service s) in
      let deeper = depth-inside level here depth file.SERVICE position index (of_service s) in
      both-leave level here.scope (service_walk here position index s) (services_walk here (suc position) (suc index) ss)
      (with-inner level here.scope d (parts of_method (inside d) service.METHOD s.method) tt (entry-level level here depth file.SERVICE position) refl
      (parts-leave (suc level) (inside d) deeper of_method (λ _. tt) (λ _ _ _ _. refl) service.METHOD 0 0 s.method))
      (services-leave (suc position) (suc index) ss)

  front-leaves : (oneofs : List OneofDescriptorProto) (fields : List FieldDescriptorProto) → LeaveOpen level here.scope (message_front here oneofs fields)
  front-leaves oneofs fields =
      both-leave level here.scope (parts of_oneof here message.ONEOF_DECL oneofs) (parts of_field here message.FIELD fields)
      (parts-leave level here depth of_oneof (λ _. tt) (λ _ _ _ _. refl) message.ONEOF_DECL 0 0 oneofs)
      (parts-leave level here depth of_field (λ _. tt) (λ _ _ _ _. refl) message.FIELD 0 0 fields)

  end-leaves : (after : Counts) (enums : List EnumDescriptorProto) (extensions : List FieldDescriptorProto) → LeaveOpen level here.scope (message_end here after enums extensions)
  end-leaves after enums extensions =
      both-leave level here.scope (enums_walk here message.ENUM_TYPE 0 after.enums enums) (row of_extension here message.EXTENSION 0 after.extensions extensions)
      (enums-leave level here depth message.ENUM_TYPE 0 after.enums enums)
      (parts-leave level here depth of_extension (λ _. tt) (λ _ _ _ _. refl) message.EXTENSION 0 after.extensions extensions)

-- messages with all that stands in them
mutual
  unfolding literals

  message-leaves : (level : ℕ) (here : Surrounding) → length here.path ≡ 2 * level → (tag : ℤ) (position : ℕ) (base : Counts) (m : DescriptorProto)
      → LeaveOpen level here.scope (message_walk here tag position base m)
  message-leaves level here depth tag position base (DescriptorProto' name fields n nested enums ranges extensions options oneofs reserved reserved_names) =
      let m = DescriptorProto' name fields n nested enums ranges extensions options oneofs reserved reserved_names in
      let d = shown here tag position base.messages (of_message m) in
      let first = counting base (of_message m) in
      let deep = depth-inside level here depth tag position base.messages (of_message m) in
      let front = message_front (inside d) oneofs fields in
      let deeper = nested_walk (inside d) 0 first nested in
      let ending = message_end (inside d) (counted first deeper) enums extensions in
      with-inner level here.scope d (front ++ deeper ++ ending) tt (entry-level level here depth tag position) refl
      (both-leave (suc level) d.full_name (front ++ deeper) ending
      (both-leave (suc level) d.full_name front deeper (front-leaves (suc level) (inside d) deep oneofs fields) (nested-leave (suc level) (inside d) deep 0 first nested))
      (end-leaves (suc level) (inside d) deep (counted first deeper) enums extensions))

  nested-leave : {n : _} (level : ℕ) (here : Surrounding) → length here.path ≡ 2 * level → (position : ℕ) (base : Counts) (nested : Row_of-DescriptorProto n)
      → LeaveOpen level here.scope (nested_walk here position base nested)
  nested-leave level here depth position base end_of-DescriptorProto = none-leave level here.scope
  nested-leave level here depth position base (more_of-DescriptorProto m rest) =
      let first = message_walk here message.NESTED_TYPE position base m in
      both-leave level here.scope first (nested_walk here (suc position) (counted base first) rest)
      (message-leaves level here depth message.NESTED_TYPE position base m) (nested-leave level here depth (suc position) (counted base first) rest)

messages-leave : (level : ℕ) (here : Surrounding) → length here.path ≡ 2 * level → (tag : ℤ) (position : ℕ) (base : Counts) (ms : List DescriptorProto)
    → LeaveOpen level here.scope (messages_walk here tag position base ms)
messages-leave level here depth tag position base [] = none-leave level here.scope
messages-leave level here depth tag position base (m ∷ ms) =
    let first = message_walk here tag position base m in
    both-leave level here.scope first (messages_walk here tag (suc position) (counted base first) ms)
    (message-leaves level here depth tag position base m) (messages-leave level here depth tag (suc position) (counted base first) ms)

-- a file opens the scope of its package
file-follows : (scopes : List (List ℕ)) (base : Counts) (f : FileDescriptorProto) → FollowScopes scopes (file_walk base f)
file-follows scopes base f =
    let here = in_file base.files f in
    let depth : length here.path ≡ 2 * 0 = refl in
    let messages = messages_walk here file.MESSAGE_TYPE 0 base f.message_type in
    let after = counted base messages in
    let enums = enums_walk here file.ENUM_TYPE 0 after.enums f.enum_type in
    let services = services_walk here 0 after.services f.service in
    let extensions = row of_extension here file.EXTENSION 0 after.extensions f.extension in
    let all : LeaveOpen 0 here.scope (messages ++ enums ++ services ++ extensions) =
    both-leave 0 here.scope (messages ++ enums ++ services) extensions
    (both-leave 0 here.scope (messages ++ enums) services
    (both-leave 0 here.scope messages enums
    (messages-leave 0 here depth file.MESSAGE_TYPE 0 base f.message_type)
    (enums-leave 0 here depth file.ENUM_TYPE 0 after.enums f.enum_type))
    (services-leave 0 here depth 0 after.services f.service))
    (parts-leave 0 here depth of_extension (λ _. tt) (λ _ _ _ _. refl) file.EXTENSION 0 after.extensions f.extension) in
    (tt, (all (here.scope ∷ []) (record { within = omega arith; text_is = refl })).follow)

-- and so files follow any scopes
pub declarations-follow : (scopes : List (List ℕ)) (base : Counts) (fs : List FileDescriptorProto) → FollowScopes scopes (declarations base fs)
declarations-follow scopes base [] = tt
declarations-follow scopes base (f ∷ fs) =
    let first = file_walk base f in
    follows-append scopes first (declarations (counted base first) fs) (file-follows scopes base f)
    (declarations-follow (behind scopes first) (counted base first) fs)
