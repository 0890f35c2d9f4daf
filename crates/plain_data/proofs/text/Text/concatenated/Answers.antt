use Rattle.std.proofs.Common.{arith, rules, ◌≡◌, ◌≤◌, ◌+◌, ◌++◌, ◌∙◌, ap, length, sym, subst, take}
use Rattle.std.proofs.lemmas.Str.{IsUtf8-append}
use Rattle.std.specs.Str.{IsUtf8}
use Rattle.plain_data.proofs.text.Text.concatenated.Goals as goal

-- texts behind one another are a text
pub invariant_of-result : goal.invariant_of-result
invariant_of-result c =
    let first = c.args.first.now in
    let second = c.args.second.now in
    let third = c.args.third.now in
    let short : c.saturating_add-len.result ≤ 30 = search rules in
    let middle : c.saturating_add-middle.result ≡ length first + length second = grind (arith, c.saturating_add-middle.ensures, c.saturating_add-len.ensures, short) in
    let len : c.saturating_add-len.result ≡ c.saturating_add-middle.result + length third = grind (arith, c.saturating_add-len.ensures, short) in
    let none : 0 + length first ≡ length first = omega arith in
    let one : take (length first) c.put.new.bytes ≡ first = ap (λ n. take n c.put.new.bytes) (sym none) ∙ c.put.ensures in
    let two : take c.saturating_add-middle.result c.put-2.new.bytes ≡ first ++ second = ap (λ n. take n c.put-2.new.bytes) middle ∙ c.put-2.ensures ∙ ap (λ bytes. bytes ++ second) one in
    let three : take c.saturating_add-len.result c.put-3.new.bytes ≡ first ++ second ++ third = ap (λ n. take n c.put-3.new.bytes) len ∙ c.put-3.ensures ∙ ap (λ bytes. bytes ++ third) two in
    let utf8 = IsUtf8-append (first ++ second) third (IsUtf8-append first second c.utf8.first c.utf8.second) c.utf8.third in
    (short, subst (λ bytes. ∥ IsUtf8 bytes ∥₁) (sym three) ∣ utf8 ∣₁)
