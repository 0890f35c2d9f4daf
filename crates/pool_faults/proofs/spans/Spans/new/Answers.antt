use Rattle.std.proofs.Common.{rules, ◌≡◌, ◌∙◌, ℤ, cond, List, Option, None, Some, is_some, ap, sym, find, take, ◌+◌, ◌++◌, ◌∷◌, []}
use Rattle.std.specs.Cmp.Lexicographic.{pointwise}
use Rattle.std.specs.HashMap.{get_by}
use Rattle.std.specs.Option.{option_map}
use Rattle.std.specs.Ordering.{int_eq}
use Rattle.std.proofs.lemmas.List.{take_more}
use Rattle.pool_faults.specs.Labels.{span_of}
use Rattle.proto_types.specs.declared.records.source.Location.{Location}
use Rattle.pool_faults.proofs.Firsts.{first-kept, first-put, is-there, is-absent}
use Rattle.pool_faults.proofs.spans.Spans.new.Goals.{then-not-contains_key+in_ok-insert, else-not-contains_key}
use Rattle.pool_faults.proofs.spans.Spans.new.Goals as goal

pub loop-location-preserved : goal.loop-location-preserved
loop-location-preserved c =
    let all = c.args.locations.now in
    let i = c.loop-location.location-index in
    let front = take i all in
    let here = c.location-item.result in
    let span : Location → Option (List ℤ) = λ l. span_of l.span in
    let path_of : Location → List ℤ = λ l. l.path in
    let first : List Location → List ℤ → Option Location = λ ls path. find (λ l. pointwise int_eq (path_of l) path) ls in
    let more : take (i + 1) all ≡ front ++ here ∷ [] = take_more all i here (search rules) ∙ ap (λ l. front ++ l ∷ []) (sym c.location-item.is) in
    let key : c.as_slice-path.result.now ≡ here.path = c.as_slice-path.ensures in
    let there : c.contains_key.result ≡ is_some (option_map span (first front here.path)) =
    c.contains_key.ensures ∙ (λ j. is_some (get_by (λ k. pointwise int_eq (key j) k.now) c.loop-location.table)) ∙ ap is_some (c.loop-location.invariant here.path) in
    elim c.if-not-contains_key.branch [
      | then-not-contains_key+in_ok-insert w ↦ λ path.
          let value : w.span_of.result ≡ span here = w.span_of.ensures ∙ ap span_of w.as_slice.ensures in
          let none : first front here.path ≡ None = is-absent span (first front here.path) (sym there ∙ w.if-not-contains_key.true) in
          ap (get_by (λ k. pointwise int_eq path k.now)) w.table-is
          ∙ w.in_ok-insert.ensures.updates.0 (record { ref_ptr = (0, 0); now = path })
          ∙ (λ j. cond (pointwise int_eq (key j) path) (Some (value j)) (c.loop-location.invariant path j))
          ∙ sym (first-put path_of span front here path none)
          ∙ ap (λ ls. option_map span (first ls path)) (sym more)
      | else-not-contains_key w ↦ λ path.
          ap (get_by (λ k. pointwise int_eq path k.now)) w.table-is
          ∙ c.loop-location.invariant path
          ∙ ap (option_map span) (sym (first-kept path_of span front here path (is-there span (first front here.path) (sym there ∙ w.if-not-contains_key.false))))
          ∙ ap (λ ls. option_map span (first ls path)) (sym more)
    ]
