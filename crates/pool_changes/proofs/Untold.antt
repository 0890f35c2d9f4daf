-- Where nothing is told of messages in a direction, no change of them is told in it.
use Rattle.std.proofs.Common.{◌≡◌, ℕ, suc, Bool, true, false, cond, List, [], ◌∷◌, ◌++◌, Option, Some, None, codes, map, flat_map, option_map, slice_get, unwrap_or, refl, ap, subst, sym, ◌∙◌}
use Rattle.std.proofs.lemmas.Bool.{false≢true}
use Rattle.std.proofs.lemmas.List.Elements.{filter-append}
use Rattle.std.proofs.lemmas.Slice.Eq.{bytes_eq-Decides}
use Rattle.std.specs.FinMap as finite
use Rattle.std.specs.Option.{IfSome}
use Rattle.std.specs.List.{AllByRecursion, filter}
use Rattle.plain_data.specs.Lists.{only_if}
use Rattle.pool_types.specs.Contents.{Contents}
use Rattle.pool_types.specs.declared.contents.message.MessageDescriptorInner.{MessageDescriptorInner}
use Rattle.message_values.specs.Writing.{Besides, IsWritten}
use Rattle.message_values.specs.Values.{Numbered}
use Rattle.descriptor_pool.specs.Invariant.{IsPool}
use Rattle.descriptor_pool.proofs.NamedItems.{made-mean}
use Rattle.pool_types.specs.declared.contents.definition.Definition.{Definition}
use Rattle.pool_types.specs.declared.contents.definition.DefinitionKind.{DefinitionKind}
use Rattle.pool_types.specs.declared.contents.definition.DefinitionKind.TheVariants as definition
use Rattle.reference_pass.specs.Linking.{IsNamedBy, lists_in}
use Rattle.schema_changes.specs.Chains.{NoneChanges}
use Rattle.schema_changes.specs.Changes.{Compared, is_lossy, message_changes}
use Rattle.schema_changes.specs.MapEntries.{is_map_entry}
use Rattle.schema_changes.specs.Pairs.{are_matched}
use Rattle.schema_changes.specs.Parts.{parts_of, one_name, are_named_alike}
use Rattle.schema_changes.specs.Pools.{message_meant, message_named, of_message, changes_with, changes_from, wire_changes, wire_losses}
use Rattle.schema_changes.specs.Unchanged.{LeavesOut}
use Rattle.schema_changes.specs.declared.change.MessageChange.{MessageChange}
use Rattle.schema_changes.specs.declared.change.WireChange.{WireChange}
use Rattle.schema_changes.specs.declared.change.WireChangeKind.{WireChangeKind}
use Rattle.schema_changes.specs.declared.change.WireChangeKind.TheVariants as change
use Rattle.schema_changes.proofs.Keeping.{at-index, each-none, followed, left-none, right-none}
use Rattle.schema_changes.proofs.Named.{no-loss, no-loss-maps}
use Rattle.verdict_texts.specs.declared.telling.ToldFault.{ToldFault}
use Rattle.pool_changes.specs.AtLevels.{at_json, at_source}
use Rattle.pool_changes.specs.Comparing.{told_if, set_changes, message_told, messages_told, at_wire, json_in, source_in, told_at, changes}
use Rattle.pool_changes.specs.Laws.{MapsAlike, NoneIsTold, ReadsAlike, UntoldIsKept, UntoldMapsAreRead}
use Rattle.pool_changes.specs.Members.{by_writer}
use Rattle.pool_changes.specs.Removed.{is_told, message_removed}
use Rattle.pool_changes.specs.Services.{services_changes}
use Rattle.pool_changes.specs.Sides.{Versions, both_of, first_by, writer, reader, removed}
use Rattle.pool_changes.specs.Telling.{told_change}
use Rattle.pool_changes.specs.declared.direction.Direction.{Direction}
use Rattle.pool_changes.specs.declared.direction.Direction.TheVariants.{Backward, Forward}
use Rattle.pool_changes.specs.declared.kinds.ElementChange.TheVariants as element
use Rattle.pool_changes.specs.declared.kinds.Level.{Level}
use Rattle.pool_changes.specs.declared.kinds.Level.TheVariants.{Wire}
use Rattle.pool_changes.proofs.Looking.{look_up, names_mean}

-- the changes of a message that are told in a direction, and those of all messages
abbrev told_of_one : Direction → List WireChange → List WireChange
told_of_one d found = filter (λ w. is_told d w.kind) found

abbrev pub told_of_all : Direction → List MessageChange → List MessageChange
told_of_all d found = filter (λ c. is_told d c.change.kind) found

-- each change of a message that is told in the direction is told
none-found : (v : Versions) (c : Compared) (found : List WireChange) → flat_map (told_if v c) found ≡ [] → told_of_one v.direction found ≡ []
none-found v c [] untold = refl
none-found v c (w ∷ ws) untold = by (is_told v.direction w.kind) (none-found v c ws) untold
  where
    by : (b : Bool) → (flat_map (told_if v c) ws ≡ [] → told_of_one v.direction ws ≡ [])
        → only_if b (told_change v.direction (by_writer v.direction c) w) ++ flat_map (told_if v c) ws ≡ [] → cond b (w ∷ told_of_one v.direction ws) (told_of_one v.direction ws) ≡ []
    by true more h = absurd cc
    by false more h = more h

-- those of a message by themselves
each-of-one : (d : Direction) (m : ℕ) (ws : List WireChange) → told_of_all d (map (of_message m) ws) ≡ map (of_message m) (told_of_one d ws)
each-of-one d m [] = refl
each-of-one d m (w ∷ ws) = by (is_told d w.kind) (each-of-one d m ws)
  where
    by : (b : Bool) → told_of_all d (map (of_message m) ws) ≡ map (of_message m) (told_of_one d ws)
        → cond b (of_message m w ∷ told_of_all d (map (of_message m) ws)) (told_of_all d (map (of_message m) ws)) ≡ map (of_message m) (cond b (w ∷ told_of_one d ws) (told_of_one d ws))
    by true more = ap (λ cs. of_message m w ∷ cs) more
    by false more = more

module _ (v : Versions) where
  -- so where nothing is told of a message, no change of it is told in the direction
  none-of : (m : ℕ) (x : MessageDescriptorInner) (y : Option MessageDescriptorInner) → message_told v x y ≡ [] → told_of_all v.direction (changes_with (writer v) (reader v) m x y) ≡ []
  none-of m x None untold = refl
  none-of m x (Some y) untold =
      let c = both_of v x y in
      let found = flat_map (told_if v c) (message_changes c) in
      each-of-one v.direction m (message_changes c) ∙ ap (map (of_message m)) (none-found v c (message_changes c) (left-none found (set_changes v x y) untold))

  none-from : (m : ℕ) (xs : List MessageDescriptorInner) → flat_map (λ x. message_told v x (message_named (reader v) x.id.full_name)) xs ≡ [] → told_of_all v.direction (changes_from (writer v) (reader v) m xs) ≡ []
  none-from m [] untold = refl
  none-from m (x ∷ xs) untold =
      let here = message_told v x (message_named (reader v) x.id.full_name) in
      let rest = flat_map (λ z. message_told v z (message_named (reader v) z.id.full_name)) xs in
      let first = changes_with (writer v) (reader v) m x (message_named (reader v) x.id.full_name) in
      let more = changes_from (writer v) (reader v) (suc m) xs in
      filter-append (λ (c : MessageChange). is_told v.direction c.change.kind) first more
      ∙ ap (λ (r : List MessageChange). r ++ told_of_all v.direction more) (none-of m x (message_named (reader v) x.id.full_name) (left-none here rest untold))
      ∙ none-from (suc m) xs (right-none here rest untold)

  -- nothing that is told at a level is told at wire
  messages-untold : (level : Level) → told_at v level ≡ [] → messages_told v ≡ []
  messages-untold level untold =
      left-none (messages_told v) (services_changes v) (left-none (at_wire v) (json_in level (at_json v) ++ source_in level (at_source v)) untold)

  pub untold-unchanged : (level : Level) → told_at v level ≡ [] → told_of_all v.direction (wire_changes (writer v) (reader v)) ≡ []
  untold-unchanged level untold = none-from 0 (writer v).messages (messages-untold level untold)

-- a name that means a message is the full name of it
named-message : (p : Contents) → IsPool p → (name : List ℕ) (y : MessageDescriptorInner) → message_named p name ≡ Some y → (n : ℕ) × (slice_get p.messages n ≡ Some y) × (y.id.full_name ≡ name)
unfolding message_named
named-message p pool name y found =
    let d = followed (λ (d : Definition). message_meant p d.kind) (finite.get p.names name) y found in
    by (d.0).kind d.2 (subst (λ (got : Option Definition). IfSome got (λ e. IsNamedBy (lists_in p) name e.kind)) d.1 (made-mean p pool.made name))
  where
    by : (k : DefinitionKind) → message_meant p k ≡ Some y → IsNamedBy (lists_in p) name k → (n : ℕ) × (slice_get p.messages n ≡ Some y) × (y.id.full_name ≡ name)
    by (definition.Message n) at named = (n, at, let same : Some y.id.full_name ≡ Some name = sym (ap (option_map (λ (m : MessageDescriptorInner). m.id.full_name)) at) ∙ named in cc)
    by _ at named = absurd cc

-- the reader has a message with the name of each that is not told as removed, unless it is an entry of a map
present : (v : Versions) (x : MessageDescriptorInner) (got : Option MessageDescriptorInner) → v.direction ≡ Backward → is_map_entry (parts_of (writer v)) x ≡ false → message_told v x got ≡ [] → (y : MessageDescriptorInner) × (got ≡ Some y)
present v x (Some y) backward plain untold = (y, refl)
present v x None backward plain untold =
    let removal = removed v element.MessageRemoved x.id (codes "message") in
    let one : removal ≡ [] = sym (ap (λ d. first_by d (message_removed v x) []) backward ∙ ap (λ b. cond b [] removal) plain) ∙ untold in
    absurd cc

same-name : (old new : Contents) (m n : ℕ) (x y : MessageDescriptorInner) → slice_get old.messages m ≡ Some x → slice_get new.messages n ≡ Some y → y.id.full_name ≡ x.id.full_name → one_name (parts_of old) m (parts_of new) n ≡ true
unfolding one_name
same-name old new m n x y at-x at-y named =
    ap (λ o. unwrap_or (option_map (λ v. unwrap_or (option_map (are_named_alike v) (slice_get new.messages n)) false) o) false) at-x
    ∙ ap (λ o. unwrap_or (option_map (are_named_alike x) o) false) at-y ∙ (bytes_eq-Decides x.id.full_name y.id.full_name).1 (sym named)

-- backward each change is told
all-told : (found : List MessageChange) → told_of_all Backward found ≡ found
all-told [] = refl
all-told (c ∷ cs) = ap (λ ds. c ∷ ds) (all-told cs)

pub untold-backward : (old new : Contents) → changes Wire old new ≡ [] → wire_changes old new ≡ []
untold-backward old new untold = sym (all-told (wire_changes old new)) ∙ untold-unchanged (record { direction = Backward; old = old; new = new }) Wire untold

-- what loses something is told in each direction
lossy-told : (d : Direction) (k : WireChangeKind) → is_lossy k ≡ true → is_told d k ≡ true
lossy-told Backward k lossy = refl
lossy-told Forward change.FreeNumber lossy = absurd cc
lossy-told Forward change.Unreserved lossy = absurd cc
lossy-told Forward _ lossy = refl

none-lost : (d : Direction) (found : List MessageChange) → told_of_all d found ≡ [] → filter (λ c. is_lossy c.change.kind) found ≡ []
none-lost d [] h = refl
none-lost d (c ∷ cs) h = by (is_told d c.change.kind) (is_lossy c.change.kind) (lossy-told d c.change.kind) (none-lost d cs) h
  where
    by : (told lossy : Bool) → (lossy ≡ true → told ≡ true) → (told_of_all d cs ≡ [] → filter (λ c. is_lossy c.change.kind) cs ≡ [])
        → cond told (c ∷ told_of_all d cs) (told_of_all d cs) ≡ [] → cond lossy (c ∷ filter (λ c. is_lossy c.change.kind) cs) (filter (λ c. is_lossy c.change.kind) cs) ≡ []
    by true lossy narrower more none = absurd cc
    by false true narrower more none = absurd (false≢true (narrower refl))
    by false false narrower more none = more none

-- what is written is read where nothing is told
read-by : (w r : Contents) (besides : Besides) → IsPool w → IsPool r → wire_losses w r ≡ [] → LeavesOut (parts_of w) (parts_of r) (λ _. true) besides
    → (m n : ℕ) → one_name (parts_of w) m (parts_of r) n ≡ true → ReadsAlike w r besides m n
read-by w r besides pool-w pool-r none free m n same levels vs written =
    no-loss w r besides (look_up w pool-w) (look_up r pool-r) (names_mean r pool-r) none free levels m n same vs written

pub untold-read : (d : Direction) (old new : Contents) → IsPool old → IsPool new → let v : Versions = record { direction = d; old = old; new = new } in (level : Level) (besides : Besides) → told_at v level ≡ []
    → LeavesOut (parts_of (writer v)) (parts_of (reader v)) (λ _. true) besides → (m n : ℕ) → one_name (parts_of (writer v)) m (parts_of (reader v)) n ≡ true → ReadsAlike (writer v) (reader v) besides m n
untold-read Backward old new pool-old pool-new level besides untold free =
    let v : Versions = record { direction = Backward; old = old; new = new } in
    read-by old new besides pool-old pool-new (none-lost Backward (wire_changes old new) (untold-unchanged v level untold)) free
untold-read Forward old new pool-old pool-new level besides untold free =
    let v : Versions = record { direction = Forward; old = old; new = new } in
    read-by new old besides pool-new pool-old (none-lost Forward (wire_changes new old) (untold-unchanged v level untold)) free

maps-by : (w r : Contents) (besides : Besides) → IsPool w → IsPool r → wire_losses w r ≡ [] → LeavesOut (parts_of w) (parts_of r) (λ _. true) besides
    → (m n : ℕ) → are_matched (parts_of w) m (parts_of r) n ≡ true → MapsAlike w r besides m n
maps-by w r besides pool-w pool-r none free m n pair levels =
    no-loss-maps w r besides (look_up w pool-w) (look_up r pool-r) (names_mean r pool-r) none free levels m n pair

pub untold-maps : (d : Direction) (old new : Contents) → IsPool old → IsPool new → UntoldMapsAreRead (record { direction = d; old = old; new = new })
untold-maps Backward old new pool-old pool-new level besides untold free =
    let v : Versions = record { direction = Backward; old = old; new = new } in
    maps-by old new besides pool-old pool-new (none-lost Backward (wire_changes old new) (untold-unchanged v level untold)) free
untold-maps Forward old new pool-old pool-new level besides untold free =
    let v : Versions = record { direction = Forward; old = old; new = new } in
    maps-by new old besides pool-new pool-old (none-lost Forward (wire_changes new old) (untold-unchanged v level untold)) free

pub untold-kept : (old new : Contents) → IsPool old → IsPool new → UntoldIsKept old new
untold-kept old new pool-old pool-new level untold m x at plain =
    let v : Versions = record { direction = Backward; old = old; new = new } in
    let each = each-none (λ z. message_told v z (message_named new z.id.full_name)) old.messages (messages-untold v level untold) in
    let here = at-index (λ z. message_told v z (message_named new z.id.full_name) ≡ []) old.messages m x each at in
    let y = present v x (message_named new x.id.full_name) refl plain here in
    let n = named-message new pool-new x.id.full_name y.0 y.1 in
    let one = same-name old new m n.0 x y.0 at n.1 n.2 in
    (n.0, one, untold-read Backward old new pool-old pool-new level (λ _ _. false) untold (λ a b k here pair besides. absurd (false≢true besides)) m n.0 one)

-- so nothing changes in a chain of which nothing is told
pub chain-unchanged : (p : Contents) (qs : List Contents) → NoneIsTold p qs → NoneChanges p qs
chain-unchanged p [] untold = tt
chain-unchanged p (q ∷ qs) untold = (untold-backward p q untold.0, chain-unchanged q qs untold.1)
