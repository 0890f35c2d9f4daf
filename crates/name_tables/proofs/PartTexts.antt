-- What becomes of texts in one buffer where one comes or goes.
use Rattle.std.proofs.Common.{◌≡◌, ◌<◌, ◌≤◌, ◌+◌, ◌-◌, ℕ, zero, suc, List, [], ◌∷◌, ◌++◌, Some, length, get_or, take, drop, refl, sym, ap, ◌∙◌, arith, length-append, length-drop}
use Rattle.std.specs.List.{slice_get}
use Rattle.std.proofs.Math.Seq.{drop-append_seam}
use Rattle.std.proofs.lemmas.Grind.{get_or_default_zero}
use Rattle.std.proofs.lemmas.List.{drop-append-le, length-take-le, take-append-drop, take-append-le, take_all}
use Rattle.name_tables.specs.PartTexts.{cut_from, RiseFrom}

-- there are as many texts as ends
pub length-cut : (start : ℕ) (bytes ends : List ℕ) → length (cut_from start bytes ends) ≡ length ends
length-cut start bytes [] = refl
length-cut start bytes (end ∷ ends) = ap suc (length-cut end bytes ends)

-- a text begins where the one before it ends
cut-at : (start : ℕ) (bytes ends : List ℕ) (at : ℕ) → at < length ends → slice_get (cut_from start bytes ends) at ≡ Some (take (get_or ends at 0 - get_or (start ∷ ends) at 0) (drop (get_or (start ∷ ends) at 0) bytes))
cut-at start bytes [] at below = absurd (omega arith)
cut-at start bytes (end ∷ ends) zero below = refl
cut-at start bytes (end ∷ ends) (suc at) below = cut-at end bytes ends at (omega arith)

-- the start is within the limit
rise-start : (start : ℕ) (ends : List ℕ) (limit : ℕ) → RiseFrom start ends limit → start ≤ limit
rise-start start [] limit rise = rise
rise-start start (end ∷ ends) limit rise = omega (arith, rise.0, rise-start end ends limit rise.1)

-- a text ends no sooner than it begins, and not past the limit
rise-at : (start : ℕ) (ends : List ℕ) (limit at : ℕ) → RiseFrom start ends limit → at < length ends → (get_or (start ∷ ends) at 0 ≤ get_or ends at 0) × (get_or ends at 0 ≤ limit)
rise-at start [] limit at rise below = absurd (omega arith)
rise-at start (end ∷ ends) limit zero rise below = (rise.0, rise-start end ends limit rise.1)
rise-at start (end ∷ ends) limit (suc at) rise below = rise-at end ends limit at rise.1 (omega arith)

-- the last end is within the limit, and the ends rise up to it
rise-last : (start : ℕ) (ends : List ℕ) (limit : ℕ) → RiseFrom start ends limit → (get_or (start ∷ ends) (length ends) 0 ≤ limit) × RiseFrom start ends (get_or (start ∷ ends) (length ends) 0)
rise-last start [] limit rise = (rise, omega arith)
rise-last start (end ∷ ends) limit rise =
    let more : (get_or (end ∷ ends) (length ends) 0 ≤ limit) × RiseFrom end ends (get_or (end ∷ ends) (length ends) 0) = rise-last end ends limit rise.1 in
    (more.0, (rise.0, more.1))

-- ends rise up to a greater limit too
pub rise-wider : (start : ℕ) (ends : List ℕ) (limit more : ℕ) → RiseFrom start ends limit → limit ≤ more → RiseFrom start ends more
rise-wider start [] limit more rise wider = omega arith
rise-wider start (end ∷ ends) limit more rise wider = (rise.0, rise-wider end ends limit more rise.1 wider)

-- ends rise where one comes that is not below the limit
rise-pushed : (start : ℕ) (ends : List ℕ) (limit end : ℕ) → RiseFrom start ends limit → limit ≤ end → RiseFrom start (ends ++ end ∷ []) end
rise-pushed start [] limit end rise above = (omega arith, omega arith)
rise-pushed start (first ∷ ends) limit end rise above = (rise.0, rise-pushed first ends limit end rise.1 above)

-- ends rise where the last goes
pub rise-popped : (start : ℕ) (ends : List ℕ) (end limit : ℕ) → RiseFrom start (ends ++ end ∷ []) limit → RiseFrom start ends limit
rise-popped start [] end limit rise = omega (arith, rise.0, rise.1)
rise-popped start (first ∷ ends) end limit rise = (rise.0, rise-popped first ends end limit rise.1)

-- one more end cuts one more text
pub cut-pushed : (start : ℕ) (bytes ends : List ℕ) (end : ℕ) → cut_from start bytes (ends ++ end ∷ []) ≡ cut_from start bytes ends ++ take (end - get_or (start ∷ ends) (length ends) 0) (drop (get_or (start ∷ ends) (length ends) 0) bytes) ∷ []
cut-pushed start bytes [] end = refl
cut-pushed start bytes (first ∷ ends) end = ap (λ texts. take (first - start) (drop start bytes) ∷ texts) (cut-pushed first bytes ends end)

-- more bytes at the end change no text
pub cut-more : (start : ℕ) (bytes more ends : List ℕ) → RiseFrom start ends (length bytes) → cut_from start (bytes ++ more) ends ≡ cut_from start bytes ends
cut-more start bytes more [] rise = refl
cut-more start bytes more (end ∷ ends) rise =
    let within : end ≤ length bytes = rise-start end ends (length bytes) rise.1 in
    let begun : start ≤ length bytes = omega (arith, rise.0) in
    let ended : end - start ≤ length (drop start bytes) = simp length-drop (omega arith) in
    let here : take (end - start) (drop start (bytes ++ more)) ≡ take (end - start) (drop start bytes) = rw (drop-append-le, take-append-le) in
    let rest : cut_from end (bytes ++ more) ends ≡ cut_from end bytes ends = cut-more end bytes more ends rise.1 in
    cc

-- a text that is read
pub cut-read : (bytes ends : List ℕ) (texts : List (List ℕ)) (at start end : ℕ) → cut_from 0 bytes ends ≡ texts → RiseFrom 0 ends (length bytes) → at < length texts → start ≡ get_or (0 ∷ ends) at 0 → end ≡ get_or ends at end → (start ≤ end) × (end ≤ length bytes) × (slice_get texts at ≡ Some (take (end - start) (drop start bytes)))
cut-read bytes ends texts at start end are rise below starts is =
    let inside : at < length ends = omega (arith, length-cut 0 bytes ends, ap length are) in
    let ends-at : end ≡ get_or ends at 0 = is ∙ get_or_default_zero ends at end inside in
    let bounds : (get_or (0 ∷ ends) at 0 ≤ get_or ends at 0) × (get_or ends at 0 ≤ length bytes) = rise-at 0 ends (length bytes) at rise inside in
    (omega (arith, bounds.0), omega (arith, bounds.1), rw (← are, cut-at 0 bytes ends at inside, starts, ends-at) refl)

-- bytes without those behind the last end
pub cut-trimmed : (bytes ends kept : List ℕ) (start : ℕ) → RiseFrom 0 ends (length bytes) → start ≡ get_or (0 ∷ ends) (length ends) 0 → kept ≡ take start bytes → (length kept ≡ start) × RiseFrom 0 ends (length kept) × (cut_from 0 kept ends ≡ cut_from 0 bytes ends)
cut-trimmed bytes ends kept start rise starts is =
    let last : (get_or (0 ∷ ends) (length ends) 0 ≤ length bytes) × RiseFrom 0 ends (get_or (0 ∷ ends) (length ends) 0) = rise-last 0 ends (length bytes) rise in
    let long : length kept ≡ start = ap length is ∙ length-take-le start bytes (omega (arith, last.0)) in
    let rises : RiseFrom 0 ends (length kept) = rw (long, starts) last.1 in
    let whole : kept ++ drop start bytes ≡ bytes = rw is (take-append-drop start bytes) in
    (long, rises, sym (cut-more 0 kept (drop start bytes) ends rises) ∙ ap (λ b. cut_from 0 b ends) whole)

-- a text that comes behind the last end
pub cut-inserted : (kept ends text bytes more : List ℕ) (end : ℕ) → length kept ≡ get_or (0 ∷ ends) (length ends) 0 → RiseFrom 0 ends (length kept) → bytes ≡ kept ++ text → end ≡ length bytes → more ≡ ends ++ end ∷ [] → RiseFrom 0 more (length bytes) × (cut_from 0 bytes more ≡ cut_from 0 kept ends ++ text ∷ [])
cut-inserted kept ends text bytes more end long rise are ended adds =
    let ends-at : end ≡ length kept + length text = ended ∙ ap length are ∙ length-append kept text in
    let rises : RiseFrom 0 (ends ++ end ∷ []) end = rise-pushed 0 ends (length kept) end rise (omega arith) in
    let cuts : cut_from 0 bytes (ends ++ end ∷ []) ≡ cut_from 0 bytes ends ++ take (end - length kept) (drop (length kept) bytes) ∷ [] = rw long (cut-pushed 0 bytes ends end) in
    let others : cut_from 0 bytes ends ≡ cut_from 0 kept ends = rw are (cut-more 0 kept text ends rise) in
    let behind : drop (length kept) bytes ≡ text = rw are (drop-append_seam kept text) in
    let here : take (end - length kept) text ≡ text = take_all (end - length kept) text (omega arith) in
    rw (adds, ← ended) (rises, cuts ∙ rw (others, behind, here) refl)
