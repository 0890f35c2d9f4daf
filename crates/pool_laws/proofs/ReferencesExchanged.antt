-- New files that break nothing in either pass break nothing in the second where two parts of them are exchanged.
use Rattle.std.proofs.Common.{◌≡◌, ◌<◌, List, [], ◌++◌, ap, subst, sym, ◌∙◌}
use Rattle.std.proofs.lemmas.Grind.{flat_map-append}
use Rattle.std.specs.List.{AllByRecursion, flat_map}
use Rattle.proto_types.specs.declared.file.FileDescriptorProto.{FileDescriptorProto}
use Rattle.pool_types.specs.Contents.{Contents}
use Rattle.record_walk.specs.Counts.{counts_in}
use Rattle.record_walk.specs.Shown.{Shown}
use Rattle.reference_pass.specs.SecondPass.{Faults, owner_faults, owners_faults}
use Rattle.reference_pass.proofs.Owners.{owners-tell}
use Rattle.reference_pass.proofs.Unbroken.{both-empty, owners-apart, owners-behind}
use Rattle.descriptor_pool.specs.Build.{name_faults, reference_faults}
use Rattle.descriptor_pool.specs.Pool.{Made}
use Rattle.pool_laws.proofs.ExchangedSetting as exchanged
use Rattle.pool_laws.proofs.MessagesApart.{NamesExtendee, messages-apart, old-extendees, old-stays}
use Rattle.pool_laws.proofs.NewExchanged.{ExtendsKnown, new-exchanged}
use Rattle.pool_laws.proofs.RenamedFaults.{all-renamed}
use Rattle.pool_laws.proofs.AllOf.{all-weaker}
use Rattle.pool_laws.proofs.Paired.{paired-four}
use Rattle.pool_laws.proofs.Moved.{Moved}

-- what is nothing of four parts is nothing where two of them have changed places
empty-exchanged : (told : Shown → Faults) (ws xs ys zs : List Shown) → flat_map told (ws ++ xs ++ ys ++ zs) ≡ [] → flat_map told (ws ++ ys ++ xs ++ zs) ≡ []
empty-exchanged told ws xs ys zs none =
    let last = apart (ws ++ xs ++ ys) zs none in
    let second = apart (ws ++ xs) ys last.0 in
    let first = apart ws xs second.0 in
    joined (ws ++ ys ++ xs) zs (joined (ws ++ ys) xs (joined ws ys first.0 second.1) first.1) last.1
  where
    apart : (ds es : List Shown) → flat_map told (ds ++ es) ≡ [] → (flat_map told ds ≡ []) × (flat_map told es ≡ [])
    apart ds es none = both-empty (flat_map told ds) (flat_map told es) (sym (flat_map-append told ds es) ∙ none)

    joined : (ds es : List Shown) → flat_map told ds ≡ [] → flat_map told es ≡ [] → flat_map told (ds ++ es) ≡ []
    joined ds es first second = flat_map-append told ds es ∙ (λ i. first i ++ second i)

module _ (p : Contents) (made : Made p) (front first second rest : List FileDescriptorProto) (names : name_faults p (exchanged.were p front first second rest) ≡ []) where
  abbrev was : List Shown
  was = exchanged.was_front p front first second rest ++ exchanged.was_first p front first second rest ++ exchanged.was_second p front first second rest ++ exchanged.was_rest p front first second rest

  abbrev is : List Shown
  is = exchanged.is_front p front first second rest ++ exchanged.is_second p front first second rest ++ exchanged.is_first p front first second rest ++ exchanged.is_rest p front first second rest

  below : AllByRecursion (λ (d : Shown). d.file < exchanged.many p front first second rest) was
  below = subst (AllByRecursion (λ (d : Shown). d.file < exchanged.many p front first second rest)) (exchanged.declared-were p front first second rest) (exchanged.lie-were p front first second rest)

  -- the extensions of the pool extend messages that mean the same in both
  olds : AllByRecursion (ExtendsKnown (exchanged.before p front first second rest) (exchanged.after p front first second rest)) p.extensions
  olds =
      all-weaker (NamesExtendee p) (ExtendsKnown (exchanged.before p front first second rest) (exchanged.after p front first second rest))
      (λ x known. record {
        name = known.0;
        def = known.1;
        here = old-stays p (exchanged.were p front first second rest) known.0 known.1 known.2;
        there = old-stays p (exchanged.are p front first second rest) known.0 known.1 known.2;
        index = known.3;
      }) p.extensions (old-extendees p made)

  pub references-exchanged : reference_faults p (exchanged.were p front first second rest) ≡ [] → reference_faults p (exchanged.are p front first second rest) ≡ []
  references-exchanged none =
      let s = exchanged.before p front first second rest in
      let t = exchanged.after p front first second rest in
      let number = exchanged.number p front first second rest in
      let many = exchanged.many p front first second rest in
      let renames = exchanged.renames-exchanged p front first second rest made names in
      let ws = exchanged.was_front p front first second rest in
      let xs = exchanged.was_first p front first second rest in
      let ys = exchanged.was_second p front first second rest in
      let zs = exchanged.was_rest p front first second rest in
      let ws2 = exchanged.is_front p front first second rest in
      let xs2 = exchanged.is_first p front first second rest in
      let ys2 = exchanged.is_second p front first second rest in
      let zs2 = exchanged.is_rest p front first second rest in
      let one = exchanged.front-moved p front first second rest in
      let two = exchanged.first-moved p front first second rest in
      let three = exchanged.second-moved p front first second rest in
      let four = exchanged.rest-moved p front first second rest in
      let told =
      owners-apart s p.extensions was
      (sym (ap (owners_faults s p.extensions) (exchanged.declared-were p front first second rest)) ∙ sym (owners-tell s p.extensions (counts_in p) (exchanged.were p front first second rest)) ∙ none) in
      let moved = paired-four (Moved number) ws xs ys zs ws2 xs2 ys2 zs2 one two three four in
      let unbroken = empty-exchanged (owner_faults t []) ws2 xs2 ys2 zs2 (all-renamed s t many number renames was (ws2 ++ xs2 ++ ys2 ++ zs2) moved below told.0) in
      let new = new-exchanged s t many number renames (messages-apart p made (exchanged.are p front first second rest)) p.extensions olds ws xs ys zs ws2 xs2 ys2 zs2 one two three four below told.0 told.1 in
      owners-tell t p.extensions (counts_in p) (exchanged.are p front first second rest)
      ∙ ap (owners_faults t p.extensions) (exchanged.declared-are p front first second rest) ∙ owners-behind t p.extensions is unbroken new
