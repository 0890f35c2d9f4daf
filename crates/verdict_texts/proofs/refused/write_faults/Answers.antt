use Rattle.std.proofs.Common.{rules, ◌≡◌, ℕ, ◌+◌, ◌++◌, List, false, string_bytes, drop, slice_get, append_assoc, ap, ◌∙◌, arith}
use Rattle.std.specs.Option.{option_copied, option_map_or}
use Rattle.std.specs.Str.{bytes_eq}
use Rattle.verdict_texts.specs.PlainFaults.{fault_lines}
use Rattle.verdict_texts.specs.Refused.{lines_of, repeats_line}
use Rattle.verdict_texts.specs.declared.telling.ToldFault.{ToldFault}
use Rattle.verdict_texts.proofs.Repeats.{is_repeated, lines-end, lines-repeat}
use Rattle.verdict_texts.proofs.refused.write_faults.Goals as goal
use Rattle.verdict_texts.proofs.refused.write_faults.Goals.{then-branch, else-branch+in_ok-push_str+in_ok-repeats+in_ok-push_str-2}

-- a fault is counted where the next one is like it, and written otherwise
pub loop-position-preserved : goal.loop-position-preserved
loop-position-preserved c =
    let told : List ToldFault = c.args.told.now in
    let i = c.loop-position.position in
    let n = c.loop-position.before in
    let f = c.index-told-position.result in
    let below = c.loop-position-test.true in
    let is = c.index-told-position.is in
    let own : c.as_str.result.now ≡ fault_lines f = search rules in
    let next : option_copied c.fault_at.result ≡ slice_get told (i + 1) = c.fault_at.ensures in
    let decided : c.in_ok-has_lines.field-0 ≡ is_repeated told i f =
    c.in_ok-has_lines.ensures ∙ (λ k. option_map_or (λ (g : ToldFault). bytes_eq (own k) (fault_lines g)) (next k) false) in
    elim c.if-branch.branch [
      | then-branch w ↦
          let more : lines_of (n + 1) (drop (i + 1) told) ≡ lines_of n (drop i told) = lines-repeat n told i f below is (search rules) in
          record { left = search rules; few = omega (arith, w.before-is, c.loop-position.invariant.few) }
      | else-branch+in_ok-push_str+in_ok-repeats+in_ok-push_str-2 w ↦
          let done : fault_lines f ++ (repeats_line n ++ lines_of 0 (drop (i + 1) told)) ≡ lines_of n (drop i told) = lines-end n told i f below is (search rules) in
          let before : List ℕ = string_bytes c.loop-position.text in
          let rest = lines_of 0 (drop (i + 1) told) in
          let first : string_bytes w.push_str.new.self ≡ before ++ fault_lines f = search rules in
          let second : string_bytes w.push_str-else-branch.new.self ≡ string_bytes w.push_str.new.self ++ repeats_line n = search rules in
          let third : string_bytes c.if-branch.text ≡ string_bytes w.push_str-else-branch.new.self = search rules in
          let none : c.if-branch.before ≡ 0 = search rules in
          record {
            left = (λ k. third k ++ lines_of (none k) (drop (i + 1) told))
                ∙ ap (λ (ys : List ℕ). ys ++ rest) (second ∙ ap (λ (ys : List ℕ). ys ++ repeats_line n) first)
                ∙ append_assoc (before ++ fault_lines f) (repeats_line n) rest ∙ append_assoc before (fault_lines f) (repeats_line n ++ rest)
                ∙ ap (λ (ys : List ℕ). before ++ ys) done ∙ c.loop-position.invariant.left;
            few = omega (arith, w.before-is);
          }
    ]
