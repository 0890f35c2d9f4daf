use Rattle.std.proofs.Common.{rules, arith, ◌≡◌, ◌∙◌, ap, subst, ◌++◌, map, string_bytes, ℕ, ◌+◌, ◌<◌, length, List, [], ◌∷◌, take, sym, if◌then◌else◌}
use Rattle.std.proofs.lemmas.List.{map_push, take_more}
use Rattle.std.specs.Str.{bytes_eq}
use Rattle.verdict_texts.specs.Fingerprints as spec
use Rattle.verdict_texts.proofs.Apart.{apart-push, times-push}
use Rattle.verdict_texts.proofs.fingerprints.apart.Goals as goal

pub loop-one-preserved : goal.loop-one-preserved
loop-one-preserved c =
    let at = c.loop-one.one-index in
    let all = c.args.all.now in
    let one = c.one-item.result in
    let so_far = map spec.marked (take at all) in
    let inside : at < length all = omega arith in
    let taken : take (at + 1) all ≡ take at all ++ one ∷ [] = take_more all at one inside ∙ ap (λ x. take at all ++ x ∷ []) (sym c.one-item.is) in
    let more : map spec.marked (take (at + 1) all) ≡ so_far ++ spec.marked one ∷ [] = ap (map spec.marked) taken ∙ map_push spec.marked (take at all) one in
    let mark : c.as_str-mark.result.now ≡ one.mark = search rules in
    let nth : c.in_ok-nth.nth ≡ spec.times one.mark (map (λ m. m.mark) so_far) + 1 =
    subst (λ m. c.in_ok-nth.nth ≡ spec.counted c.loop-one.counts m + 1) mark c.in_ok-nth.ensures.nth ∙ ap (λ n. n + 1) (c.loop-one.invariant.1 one.mark) in
    let print : c.from_string.result ≡ spec.fingerprint one.mark c.in_ok-nth.nth = search rules in
    let pushed : map spec.marked c.push.new.self.items ≡ map spec.marked c.loop-one.told.items ++ record { mark = c.from_string.result; told = one.told.now } ∷ [] =
    ap (map spec.marked) c.in_ok-push.ensures.items ∙ map_push spec.marked c.loop-one.told.items _ in
    let told : map spec.marked c.push.new.self.items ≡ spec.apart (so_far ++ spec.marked one ∷ []) =
    pushed ∙ ap (λ ms. ms ++ record { mark = c.from_string.result; told = one.told.now } ∷ []) c.loop-one.invariant.0
    ∙ ap (λ t. spec.apart so_far ++ record { mark = t; told = one.told.now } ∷ []) print ∙ sym (apart-push so_far (spec.marked one) c.in_ok-nth.nth nth) in
    let Kept : List spec.Marked → Type 0 = λ ms.
    (map spec.marked c.push.new.self.items ≡ spec.apart ms) × ((text : List ℕ) → spec.counted c.count.new.counts text ≡ spec.times text (map (λ m. m.mark) ms)) in
    subst Kept (sym more) (
      told,
      λ text.
          subst (λ m. spec.counted c.count.new.counts text ≡ spec.counted c.loop-one.counts text + (if bytes_eq text m then 1 else 0)) mark (c.in_ok-nth.ensures.all text)
          ∙ ap (λ n. n + (if bytes_eq text one.mark then 1 else 0)) (c.loop-one.invariant.1 text) ∙ sym (times-push text so_far (spec.marked one)),
    )
