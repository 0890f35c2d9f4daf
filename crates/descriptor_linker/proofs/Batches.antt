-- What a session makes of a batch, by what linking it ended in.
use Rattle.std.proofs.Common.{◌≡◌, ◌≢◌, ◌<◌, ◌+◌, ℕ, List, [], ◌∷◌, ◌++◌, length, IsOk, OnOk, OnErr, Ok, Err, refl, ap, sym, subst, inr, ◌∙◌}
use Rattle.std.specs.declared.result.Result.{Result}
use Rattle.record_walk.specs.declared.counts.Counts.{Counts}
use Rattle.record_walk.specs.declared.counts.CountKind.{CountKind}
use Rattle.record_walk.specs.Counts.{counts_in}
use Rattle.record_walk.proofs.Listings.{on-ok}
use Rattle.pool_types.specs.Contents.{Contents}
use Rattle.pool_faults.specs.declared.error.DescriptorError.{DescriptorError}
use Rattle.reference_pass.specs.SecondPass.{Faults}
use Rattle.descriptor_pool.specs.Build.{first_of_both}
use Rattle.descriptor_pool.specs.Pool.{Batch, faults, faults_of_names, faults_of_references, counts_after}
use Rattle.descriptor_pool.specs.Outcome.{IsLinked, IsRefused, Outcome}
use Rattle.descriptor_pool.specs.declared.error.BuildError.{BuildError}
use Rattle.descriptor_pool.specs.declared.error.BuildError.TheVariants.{Descriptor, TooMany}
use Rattle.descriptor_linker.specs.Report.Lines.{counts_line, refused_lines, too_many_line}
use Rattle.link_script.specs.Records.{Building}
use Rattle.descriptor_linker.specs.Report.Session.{Session, FitsOrLacksRoom, write, accepted_or, linking, link_step}

-- the session with a pool and an empty batch, where a text is told
abbrev behind : Session → Contents × List ℕ → Session
behind s after = record (write s after.1) { pool = after.0; building = record s.building { files = [] } }

told-behind : (s : Session) (batch : Batch) (emptied : Building) (new : Contents) (text told : List ℕ)
    → batch ≡ s.building.files → emptied ≡ record s.building { files = [] } → linking s.pool batch (counts_after s.pool batch) ≡ (new, text) → told ≡ s.text ++ text
    → record s { pool = new; building = emptied; text = told } ≡ link_step s
told-behind s batch emptied new text told same none is more =
    (λ i. record s { pool = new; building = none i; text = more i })
    ∙ ap (behind s) (sym is ∙ ap (λ b. linking s.pool b (counts_after s.pool b)) same)

pub no-faults : (first second : Faults) → first ≡ [] → second ≡ [] → first_of_both first second ≡ []
no-faults first second none nor = ap (λ fs. first_of_both fs second) none ∙ nor

where-it-fits : (p : Contents) (batch : Batch) (counts : Result Counts CountKind) → IsOk counts → linking p batch counts ≡ accepted_or p batch (faults p batch)
where-it-fits p batch (Ok c) fits = refl
where-it-fits p batch (Err kind) fits = absurd (cc)

refusing : (p : Contents) (batch : Batch) (fs : Faults) → fs ≢ [] → accepted_or p batch fs ≡ (p, refused_lines fs)
refusing p batch [] some = absurd (some refl)
refusing p batch (f ∷ fs) some = refl

-- the batch was linked
told-linked : (s : Session) (batch : Batch) (emptied : Building) (new : Contents) (told : List ℕ)
    → batch ≡ s.building.files → emptied ≡ record s.building { files = [] } → IsLinked s.pool batch new → told ≡ s.text ++ counts_line (counts_in new)
    → record s { pool = new; building = emptied; text = told } ≡ link_step s
told-linked s batch emptied new told same none linked more =
    told-behind s batch emptied new (counts_line (counts_in new)) told same none
    (where-it-fits s.pool batch (counts_after s.pool batch) linked.fits
    ∙ ap (accepted_or s.pool batch) (no-faults (faults_of_names s.pool batch) (faults_of_references s.pool batch) linked.accepted.0 linked.accepted.1)
    ∙ ap (λ q. (q, counts_line (counts_in q))) (sym linked.is)) more

pub on-linked : {U E : Type 0} (r : Result U E) (s : Session) (batch : Batch) (emptied : Building) (new : Contents) (told : List ℕ)
    → batch ≡ s.building.files → emptied ≡ record s.building { files = [] } → IsLinked s.pool batch new → OnOk r (told ≡ s.text ++ counts_line (counts_in new))
    → OnOk r (record s { pool = new; building = emptied; text = told } ≡ link_step s)
on-linked r s batch emptied new told same none linked more = on-ok r (told-linked s batch emptied new told same none linked) more

-- the batch was refused
told-refused : (s : Session) (batch : Batch) (emptied : Building) (new : Contents) (error : DescriptorError) (fs : Faults) (told : List ℕ)
    → batch ≡ s.building.files → emptied ≡ record s.building { files = [] } → IsRefused s.pool batch error new → fs ≡ error.errors → told ≡ s.text ++ refused_lines fs
    → record s { pool = new; building = emptied; text = told } ≡ link_step s
told-refused s batch emptied new error fs told same none refused shown more =
    let all = shown ∙ refused.all in
    told-behind s batch emptied new (refused_lines fs) told same none
    (where-it-fits s.pool batch (counts_after s.pool batch) refused.fits
    ∙ ap (accepted_or s.pool batch) (sym all)
    ∙ refusing s.pool batch fs (λ is. error.some (sym shown ∙ is))
    ∙ ap (λ q. (q, refused_lines fs)) (sym refused.unchanged)) more

pub on-refused : {U E : Type 0} (r : Result U E) (s : Session) (batch : Batch) (emptied : Building) (new : Contents) (why : BuildError) (error : DescriptorError) (fs : Faults) (told : List ℕ)
    → batch ≡ s.building.files → emptied ≡ record s.building { files = [] } → why ≡ Descriptor error → Outcome {U = U} s.pool batch (Err why) new → fs ≡ error.errors
    → OnOk r (told ≡ s.text ++ refused_lines fs) → OnOk r (record s { pool = new; building = emptied; text = told } ≡ link_step s)
on-refused {U} r s batch emptied new why error fs told same none is outcome shown more =
    let refused : IsRefused s.pool batch error new = subst (λ e. Outcome {U = U} s.pool batch (Err e) new) is outcome in
    on-ok r (told-refused s batch emptied new error fs told same none refused shown) more

-- the batch has too much of a kind, and the report no room to tell
pub lacks-room : {U E : Type 0} (r : Result U E) (s : Session) (batch : Batch) (new : Contents) (error : BuildError) (kind : CountKind) (len room : ℕ)
    → batch ≡ s.building.files → error ≡ TooMany kind → Outcome {U = Unit {0}} s.pool batch (Err error) new → OnErr r (room < len + length (too_many_line kind))
    → OnErr r (FitsOrLacksRoom s len room)
lacks-room (Ok u) s batch new error kind len room same is outcome full = tt
lacks-room (Err e) s batch new error kind len room same is outcome full =
    inr (kind, ap (counts_after s.pool) (sym same) ∙ (subst (λ e. Outcome {U = Unit {0}} s.pool batch (Err e) new) is outcome).first, full)
