-- A batch whose files are handed over in another order fits and is accepted as it was, and makes a pool that is the same but for numbers.
use Rattle.std.proofs.Common.{◌≡◌, not, IsOk, List, [], ◌∷◌, ◌++◌, refl, ap, subst, subst₂, sym, ◌∙◌}
use Rattle.std.proofs.lemmas.List.Elements.{filter-append}
use Rattle.proto_types.specs.Readers.{text_of}
use Rattle.proto_types.specs.declared.file.FileDescriptorProto.{FileDescriptorProto}
use Rattle.pool_types.specs.Contents.{Contents}
use Rattle.record_walk.specs.declared.counts.Counts.{Counts}
use Rattle.record_walk.specs.Counts.{added_to, counts_in, no_counts}
use Rattle.record_walk.specs.Declarations.{declarations}
use Rattle.record_walk.specs.Fits.{counts_with}
use Rattle.record_walk.proofs.Counted.{both, both-assoc, both-comm, both-nothing}
use Rattle.record_walk.proofs.Tallies.{declarations-tally, file_tally, files_tally}
use Rattle.descriptor_pool.specs.Build.{with_batch, name_faults, reference_faults}
use Rattle.descriptor_pool.specs.Pool.{Accepts, Batch, Fits, Made, has_file, link, new_files}
use Rattle.pool_laws.specs.Order.{Reorders, SameButNumbers}
use Rattle.pool_laws.proofs.ExchangedBatch.{by-exchanges}
use Rattle.pool_laws.proofs.ExchangedSetting as exchanged
use Rattle.pool_laws.proofs.ReferencesExchanged.{references-exchanged}
use Rattle.pool_laws.proofs.SameLinked.{same-linked}
use Rattle.pool_laws.proofs.Splits.{counts-tally, within-tally}
use Rattle.pool_laws.proofs.AllOf.{made-of-four}

files-tally-append : (fs gs : List FileDescriptorProto) → files_tally (fs ++ gs) ≡ both (files_tally fs) (files_tally gs)
files-tally-append [] gs = sym (both-nothing (files_tally gs))
files-tally-append (f ∷ fs) gs = ap (both (file_tally f)) (files-tally-append fs gs) ∙ sym (both-assoc (file_tally f) (files_tally fs) (files_tally gs))

-- two parts that change places count the same
pub counts-exchanged : (base : Counts) (front first second rest : List FileDescriptorProto)
    → counts_with base (front ++ second ++ first ++ rest) ≡ counts_with base (front ++ first ++ second ++ rest)
counts-exchanged base front first second rest = by (front ++ second ++ first ++ rest) (front ++ first ++ second ++ rest) (parts second first ∙ turned ∙ sym (parts first second))
  where
    parts : (xs ys : List FileDescriptorProto) → files_tally (front ++ xs ++ ys ++ rest) ≡ both (both (both (files_tally front) (files_tally xs)) (files_tally ys)) (files_tally rest)
    parts xs ys =
        files-tally-append (front ++ xs ++ ys) rest
        ∙ ap (λ o. both o (files_tally rest)) (files-tally-append (front ++ xs) ys ∙ ap (λ o. both o (files_tally ys)) (files-tally-append front xs))

    turned : both (both (both (files_tally front) (files_tally second)) (files_tally first)) (files_tally rest)
        ≡ both (both (both (files_tally front) (files_tally first)) (files_tally second)) (files_tally rest)
    turned =
        ap (λ o. both o (files_tally rest)) (both-assoc (files_tally front) (files_tally second) (files_tally first)
        ∙ ap (both (files_tally front)) (both-comm (files_tally second) (files_tally first)) ∙ sym (both-assoc (files_tally front) (files_tally first) (files_tally second)))

    by : (fs gs : List FileDescriptorProto) → files_tally fs ≡ files_tally gs → counts_with base fs ≡ counts_with base gs
    by fs gs same =
        ap (added_to base) (counts-tally (declarations no_counts fs) ∙ ap within-tally (declarations-tally no_counts fs ∙ same ∙ sym (declarations-tally no_counts gs)) ∙ sym (counts-tally (declarations no_counts gs)))

module _ (p : Contents) where
  -- two batches fit behind contents alike, are accepted alike, and make contents that are the same but for numbers
  record Same (b c : Batch) : Type 0 where
    fits : Fits p b → Fits p c
    fits_back : Fits p c → Fits p b
    accepts : Accepts p b → Accepts p c
    accepts_back : Accepts p c → Accepts p b
    makes : Accepts p b → SameButNumbers (link p b) (link p c)

  same-itself : (b : Batch) → Same b b
  same-itself b = record {
    fits = λ is. is;
    fits_back = λ is. is;
    accepts = λ is. is;
    accepts_back = λ is. is;
    makes = λ _. record { records = λ _. refl; names = λ _. refl };
  }

  same-chain : (b c d : Batch) → Same b c → Same c d → Same b d
  same-chain b c d first second = record {
    fits = λ is. second.fits (first.fits is);
    fits_back = λ is. first.fits_back (second.fits_back is);
    accepts = λ is. second.accepts (first.accepts is);
    accepts_back = λ is. first.accepts_back (second.accepts_back is);
    makes = λ is.
        let one = first.makes is in
        let other = second.makes (first.accepts is) in
        record { records = λ name. one.records name ∙ other.records name; names = λ name. one.names name ∙ other.names name };
  }

  abbrev fresh : Batch → List FileDescriptorProto
  fresh = new_files p

  fresh-parts : (front first second rest : Batch) → fresh (front ++ first ++ second ++ rest) ≡ fresh front ++ fresh first ++ fresh second ++ fresh rest
  fresh-parts = made-of-four fresh (filter-append (λ f. not (has_file p (text_of f.name))))

  fits-onward : (front first second rest : Batch) → Fits p (front ++ first ++ second ++ rest) → Fits p (front ++ second ++ first ++ rest)
  fits-onward front first second rest =
      subst IsOk
      (ap (counts_with (counts_in p)) (fresh-parts front first second rest)
      ∙ sym (counts-exchanged (counts_in p) (fresh front) (fresh first) (fresh second) (fresh rest))
      ∙ sym (ap (counts_with (counts_in p)) (fresh-parts front second first rest)))

  -- what comes of new files of which two parts are exchanged
  record Onward (fs gs : List FileDescriptorProto) : Type 0 where
    names : name_faults p gs ≡ []
    references : reference_faults p gs ≡ []
    same : SameButNumbers (with_batch p fs) (with_batch p gs)

  module _ (made : Made p) where
    -- new files of which two parts are exchanged
    new-onward : (front first second rest : List FileDescriptorProto) → name_faults p (front ++ first ++ second ++ rest) ≡ [] → reference_faults p (front ++ first ++ second ++ rest) ≡ []
        → Onward (front ++ first ++ second ++ rest) (front ++ second ++ first ++ rest)
    new-onward front first second rest named none = record {
      names = exchanged.none-are p front first second rest made named;
      references = references-exchanged p made front first second rest named none;
      same =
          same-linked p made (exchanged.were p front first second rest) (exchanged.are p front first second rest) (exchanged.number p front first second rest)
          (exchanged.renames-exchanged p front first second rest made named) (exchanged.number-kept p front first second rest)
          (λ n _ from. exchanged.number-behind p front first second rest n from) (exchanged.file-names-moved p front first second rest made named);
    }

    onward : (front first second rest : Batch) → Accepts p (front ++ first ++ second ++ rest)
        → Onward (fresh (front ++ first ++ second ++ rest)) (fresh (front ++ second ++ first ++ rest))
    onward front first second rest accepts =
        let was = fresh-parts front first second rest in
        let is = fresh-parts front second first rest in
        subst₂ Onward (sym was) (sym is)
        (new-onward (fresh front) (fresh first) (fresh second) (fresh rest) (sym (ap (name_faults p) was) ∙ accepts.0) (sym (ap (reference_faults p) was) ∙ accepts.1))

    accepted-onward : (front first second rest : Batch) → Accepts p (front ++ first ++ second ++ rest) → Accepts p (front ++ second ++ first ++ rest)
    accepted-onward front first second rest accepts = let now = onward front first second rest accepts in (now.names, now.references)

    exchange : (front first second rest : Batch) → Same (front ++ first ++ second ++ rest) (front ++ second ++ first ++ rest)
    exchange front first second rest = record {
      fits = fits-onward front first second rest;
      fits_back = fits-onward front second first rest;
      accepts = accepted-onward front first second rest;
      accepts_back = accepted-onward front second first rest;
      makes = λ accepts. (onward front first second rest accepts).same;
    }

    pub reorders : (b c : Batch) → Reorders p b c
    reorders b c permutation =
        let same = by-exchanges Same same-itself same-chain exchange b c permutation in
        ((same.fits, same.fits_back), (same.accepts, same.accepts_back), same.makes)
