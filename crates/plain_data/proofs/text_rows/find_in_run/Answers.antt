use Rattle.std.proofs.Common.{◌≡◌, ℕ, ◌+◌, ◌-◌, ◌/◌, ◌<◌, ◌≤◌, sym, ◌∙◌, inl, inr, ◌⊎◌, arith}
use Rattle.std.proofs.lemmas.Bool.{cases_lt}
use Rattle.std.specs.declared.cmp.Ordering.TheVariants.{Less, Greater}
use Rattle.plain_data.specs.TextRows.{text_order, text_at}
use Rattle.plain_data.proofs.Rows.{less-below, greater-above, same-text, not-less, not-greater}
use Rattle.plain_data.proofs.text_rows.find_in_run.Goals as goal

pub loop-low-preserved-in-Less : goal.loop-low-preserved-in-Less
loop-low-preserved-in-Less c =
    let was = c.loop-low.invariant in
    let first = was.0 in
    let last = was.2 in
    let mid = c.loop-low.low + (c.loop-low.high - c.loop-low.low) / 2 in
    let less : text_order (text_at c.args.bytes.now c.args.rows.now mid) c.args.key.now ≡ Less =
    sym c.order.ensures ∙ c.in-Less.is in (
      omega arith,
      omega arith,
      last,
      λ i low high. less-below c.args.bytes.now c.args.rows.now c.args.run.start c.args.run.end c.requires.run c.args.key.now i mid low (omega arith) (omega arith) less,
      was.4,
    )

pub returns-in-Equal : goal.returns-in-Equal
returns-in-Equal c =
    let was = c.loop-low.invariant in
    let last = was.2 in
    let end = c.requires.end in
    (omega arith, same-text _ _ (sym c.order.ensures ∙ c.in-Equal.is))

pub loop-low-preserved : goal.loop-low-preserved
loop-low-preserved c =
    let was = c.loop-low.invariant in
    let first = was.0 in
    let last = was.2 in
    let mid = c.loop-low.low + (c.loop-low.high - c.loop-low.low) / 2 in
    let greater : text_order (text_at c.args.bytes.now c.args.rows.now mid) c.args.key.now ≡ Greater =
    sym c.order.ensures ∙ c.in-Greater.is in (
      first,
      omega arith,
      omega arith,
      was.3,
      λ i low high. greater-above c.args.bytes.now c.args.rows.now c.args.run.start c.args.run.end c.requires.run c.args.key.now i mid (omega arith) low high greater,
    )

pub returns : goal.returns
returns c = λ at from to. next c at from to (cases_lt at c.loop-low.low)
  where
    next : (c : goal.After-loop-low) (at : ℕ) → c.args.run.start ≤ at → at < c.args.run.end → (at < c.loop-low.low) ⊎ (c.loop-low.low ≤ at) → text_at c.args.bytes.now c.args.rows.now at ≡ c.args.key.now → ⊥
    next c at from to (inl under) = not-less _ _ (c.loop-low.invariant.3 at from under)
    next c at from to (inr over) = let done = c.loop-low-test.false in let order = c.loop-low.invariant.1 in not-greater _ _ (c.loop-low.invariant.4 at (omega arith) to)
