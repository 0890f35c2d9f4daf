-- The full name of each message and of each enum of a pool means it.
use Rattle.std.proofs.Common.{◌≡◌, ◌≤◌, ◌<◌, ◌==◌, ℕ, ℤ, zero, suc, Bool, true, false, Option, Some, None, List, [], ◌∷◌, ◌++◌, length, refl, ap, subst, sym, ◌∙◌, append-nil, append_assoc, arith}
use Rattle.std.proofs.lemmas.Bool.Decides.{nat_tests}
use Rattle.std.specs.FinMap as finite
use Rattle.std.specs.List.{AllByRecursion}
use Rattle.std.specs.Option.{IfSome, option_map}
use Rattle.std.specs.Prelude.{slice_get}
use Rattle.pool_types.specs.Contents.{Contents, files_of}
use Rattle.pool_types.specs.declared.contents.definition.Definition.{Definition}
use Rattle.pool_types.specs.declared.contents.definition.DefinitionKind.TheVariants as definition
use Rattle.pool_types.specs.declared.contents.enumeration.EnumDescriptorInner.{EnumDescriptorInner}
use Rattle.pool_types.specs.declared.contents.message.MessageDescriptorInner.{MessageDescriptorInner}
use Rattle.record_walk.specs.declared.counts.Counts.{Counts}
use Rattle.record_walk.specs.Counts.{counted, counting, no_counts}
use Rattle.record_walk.specs.Declarations.{declarations}
use Rattle.record_walk.specs.Indexes.{HasIndex}
use Rattle.record_walk.specs.Protos.{Proto, of_file, of_message, of_field, of_oneof, of_service, of_method, of_enum, of_value, of_extension}
use Rattle.record_walk.specs.Shown.{Shown}
use Rattle.record_walk.proofs.Counted.{counted-append}
use Rattle.record_walk.proofs.Indexes.{indexes-count-on}
use Rattle.reference_pass.specs.Linking.{IsNamedBy, lists_in}
use Rattle.descriptor_pool.specs.FullNames.{FullNamesMean, Means}
use Rattle.descriptor_pool.specs.Invariant.{IsPool}
use Rattle.descriptor_pool.proofs.Meant.{IsMeant, made-meant}
use Rattle.descriptor_pool.proofs.NamedItems.{made-mean}

-- what holds of the name of an item, where that is a text
item-named : {X : Type 0} (name : X → List ℕ) (P : List ℕ → Type 0) (text : List ℕ) (got : Option X) → option_map name got ≡ Some text → P text → IfSome got (λ x. P (name x))
item-named name P text None is has = tt
item-named name P text (Some x) is has = let same : text ≡ name x = cc in subst P same has

-- what holds of each element of a list
each-within : {X : Type 0} (P : X → Type 0) (xs : List X) (n : ℕ) → (n < length xs → IfSome (slice_get xs n) P) → IfSome (slice_get xs n) P
each-within P [] n has = tt
each-within P (x ∷ xs) zero has = has (omega arith)
each-within P (x ∷ xs) (suc n) has = each-within P xs n (λ below. has (omega (arith, below)))

module _ (p : Contents) (pool : IsPool p) where
  abbrev ds : List Shown
  ds = declarations no_counts (files_of p)

  abbrev MessageMeant : ℕ → Type 0
  MessageMeant n = IfSome (slice_get p.messages n) (λ m. Means p m.id.full_name (definition.Message n))

  abbrev EnumMeant : ℕ → Type 0
  EnumMeant n = IfSome (slice_get p.enums n) (λ e. Means p e.id.full_name (definition.Enum n))

  -- the item of a kind has the name that means it
  mean-own : (name : List ℕ) (def : Definition) → finite.get p.names name ≡ Some def → Means p name def.kind × IsNamedBy (lists_in p) name def.kind
  mean-own name def is = (
    ap (option_map (λ (d : Definition). d.kind)) is,
    subst (λ (got : Option Definition). IfSome got (λ d. IsNamedBy (lists_in p) name d.kind)) is (made-mean p pool.made name),
  )

  message-meant : (n index : ℕ) (name : List ℕ) (def : Definition) → def.kind ≡ definition.Message index → finite.get p.names name ≡ Some def → n ≡ index → MessageMeant n
  message-meant n index name def kind is same =
      let own = mean-own name def is in
      subst MessageMeant (sym same)
      (item-named (λ (m : MessageDescriptorInner). m.id.full_name) (λ text. Means p text (definition.Message index)) name (slice_get p.messages index)
      (subst (IsNamedBy (lists_in p) name) kind own.1) (subst (Means p name) kind own.0))

  enum-meant : (n index : ℕ) (name : List ℕ) (def : Definition) → def.kind ≡ definition.Enum index → finite.get p.names name ≡ Some def → n ≡ index → EnumMeant n
  enum-meant n index name def kind is same =
      let own = mean-own name def is in
      subst EnumMeant (sym same)
      (item-named (λ (e : EnumDescriptorInner). e.id.full_name) (λ text. Means p text (definition.Enum index)) name (slice_get p.enums index)
      (subst (IsNamedBy (lists_in p) name) kind own.1) (subst (Means p name) kind own.0))

  -- the messages and the enums from counts on
  record From (before after : Counts) : Type 0 where
    messages : (n : ℕ) → before.messages ≤ n → n < after.messages → MessageMeant n
    enums : (n : ℕ) → before.enums ≤ n → n < after.enums → EnumMeant n

  at-or-behind : (P : ℕ → Type 0) (index first n end : ℕ) → index ≡ first → (n ≡ index → P n) → ((n : ℕ) → suc first ≤ n → n < end → P n) → first ≤ n → n < end → P n
  at-or-behind P index first n end is here later from below = by (n == index) refl
    where
      by : (b : Bool) → (n == index) ≡ b → P n
      by true same = here (grind (arith, nat_tests, same))
      by false other = later n (grind (arith, nat_tests, other, is, from)) below

  one-more : (before after : Counts) (file : ℕ) (parent : Option ℕ) (index : ℕ) (path : List ℤ) (full_name : List ℕ) (proto : Proto)
      → let d : Shown = record { file = file; parent = parent; index = index; path = path; full_name = full_name; proto = proto } in
      HasIndex before d proto → IsMeant p.names d → From (counting before proto) after → From before after
  one-more before after file parent index path full_name (of_message m) has meant rest = record {
    messages = λ n. at-or-behind MessageMeant index before.messages n after.messages has (message-meant n index full_name _ refl meant) rest.messages;
    enums = rest.enums;
  }
  one-more before after file parent index path full_name (of_enum e) has meant rest = record {
    messages = rest.messages;
    enums = λ n. at-or-behind EnumMeant index before.enums n after.enums has (enum-meant n index full_name _ refl meant) rest.enums;
  }
  one-more before after file parent index path full_name (of_file f) has meant rest = record { messages = rest.messages; enums = rest.enums }
  one-more before after file parent index path full_name (of_field f) has meant rest = rest
  one-more before after file parent index path full_name (of_oneof o) has meant rest = rest
  one-more before after file parent index path full_name (of_service v) has meant rest = record { messages = rest.messages; enums = rest.enums }
  one-more before after file parent index path full_name (of_method m) has meant rest = rest
  one-more before after file parent index path full_name (of_value v) has meant rest = rest
  one-more before after file parent index path full_name (of_extension x) has meant rest = record { messages = rest.messages; enums = rest.enums }

  all-from : (front rest : List Shown) → ds ≡ front ++ rest → AllByRecursion (IsMeant p.names) rest → From (counted no_counts front) (counted no_counts ds)
  all-from front [] parted meant =
      let same : counted no_counts ds ≡ counted no_counts front = ap (counted no_counts) (parted ∙ append-nil front) in
      let messages = ap (λ (c : Counts). c.messages) same in
      let enums = ap (λ (c : Counts). c.enums) same in
      record { messages = λ n from below. absurd (omega (arith, from, below, messages)); enums = λ n from below. absurd (omega (arith, from, below, enums)) }
  all-from front (d ∷ rest) parted meant =
      let later = all-from (front ++ d ∷ []) rest (parted ∙ sym (append_assoc front (d ∷ []) rest)) meant.1 in
      let next = subst (λ c. From c (counted no_counts ds)) (counted-append no_counts front (d ∷ [])) later in
      one-more (counted no_counts front) (counted no_counts ds) d.file d.parent d.index d.path d.full_name d.proto
      (indexes-count-on no_counts (files_of p) front d rest parted) meant.0 next

  -- the full name of each message and of each enum means it
  pub full_names_mean : FullNamesMean p
  full_names_mean =
      let all = all-from [] ds refl (made-meant p pool.made) in
      let messages : length p.messages ≡ (counted no_counts ds).messages = ap (λ (c : Counts). c.messages) pool.counts_are in
      let enums : length p.enums ≡ (counted no_counts ds).enums = ap (λ (c : Counts). c.enums) pool.counts_are in
      record {
        messages = λ n. each-within (λ m. Means p m.id.full_name (definition.Message n)) p.messages n (λ below. all.messages n (omega arith) (omega (arith, below, messages)));
        enums = λ n. each-within (λ e. Means p e.id.full_name (definition.Enum n)) p.enums n (λ below. all.enums n (omega arith) (omega (arith, below, enums)));
      }

  -- so two messages have two full names
  pub messages_apart : (i j : ℕ) (m n : MessageDescriptorInner) → slice_get p.messages i ≡ Some m → slice_get p.messages j ≡ Some n → m.id.full_name ≡ n.id.full_name → i ≡ j
  messages_apart i j m n at-i at-j same =
      let first = subst (λ (got : Option MessageDescriptorInner). IfSome got (λ m. Means p m.id.full_name (definition.Message i))) at-i (full_names_mean.messages i) in
      let second = subst (λ (got : Option MessageDescriptorInner). IfSome got (λ m. Means p m.id.full_name (definition.Message j))) at-j (full_names_mean.messages j) in
      let kinds : Some (definition.Message i) ≡ Some (definition.Message j) = sym first ∙ ap (λ text. option_map (λ (d : Definition). d.kind) (finite.get p.names text)) same ∙ second in
      cc kinds

  -- and two enums
  pub enums_apart : (i j : ℕ) (e f : EnumDescriptorInner) → slice_get p.enums i ≡ Some e → slice_get p.enums j ≡ Some f → e.id.full_name ≡ f.id.full_name → i ≡ j
  enums_apart i j e f at-i at-j same =
      let first = subst (λ (got : Option EnumDescriptorInner). IfSome got (λ e. Means p e.id.full_name (definition.Enum i))) at-i (full_names_mean.enums i) in
      let second = subst (λ (got : Option EnumDescriptorInner). IfSome got (λ e. Means p e.id.full_name (definition.Enum j))) at-j (full_names_mean.enums j) in
      let kinds : Some (definition.Enum i) ≡ Some (definition.Enum j) = sym first ∙ ap (λ text. option_map (λ (d : Definition). d.kind) (finite.get p.names text)) same ∙ second in
      cc kinds
