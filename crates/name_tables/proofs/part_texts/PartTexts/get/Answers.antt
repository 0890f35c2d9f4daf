use Rattle.std.proofs.Common.{◌≡◌, ◌≤◌, ◌-◌, Some, length, take, drop, ap, arith, rules}
use Rattle.std.specs.List.{slice_get}
use Rattle.name_tables.proofs.PartTexts.{length-cut, cut-read}
use Rattle.name_tables.proofs.part_texts.PartTexts.get.Goals as goal

-- the text that is read
read : (c : goal.After-deref-2) → (c.start-start.result ≤ c.index-end.result.now) × (c.index-end.result.now ≤ length c.self.inside.bytes.items) × (slice_get c.args.self.now c.args.at ≡ Some (take (c.index-end.result.now - c.start-start.result) (drop c.start-start.result c.self.inside.bytes.items)))
read c =
    cut-read c.self.inside.bytes.items c.self.inside.ends.items c.args.self.now c.args.at c.start-start.result c.index-end.result.now
    c.self.view_is c.self.invariant c.requires (rw c.deref.ensures.value at c.start-start.ensures) c.index-end.ensures

pub start-start-requires : goal.start-start-requires
start-start-requires c =
    omega (arith, length-cut 0 c.self.inside.bytes.items c.self.inside.ends.items, ap length c.self.view_is, ap length c.deref.ensures.value)

pub index-end-requires : goal.index-end-requires
index-end-requires c =
    omega (arith, length-cut 0 c.self.inside.bytes.items c.self.inside.ends.items, ap length c.self.view_is, ap length c.deref.ensures.value)

pub slice_bounds-result-count : goal.slice_bounds-result-count
slice_bounds-result-count c = (read c).0

pub slice_bounds-result-start : goal.slice_bounds-result-start
slice_bounds-result-start c =
    let rises : c.start-start.result ≤ c.index-end.result.now = (read c).0 in
    let inside : c.start-start.result ≤ length c.deref-2.result.now = omega (arith, (read c).1, ap length c.deref-2.ensures.value) in
    search rules

pub slice_bounds-result-end : goal.slice_bounds-result-end
slice_bounds-result-end c =
    let inside : c.index-end.result.now ≤ length c.deref-2.result.now = omega (arith, (read c).1, ap length c.deref-2.ensures.value) in
    search rules

pub returns : goal.returns
returns c =
    rw c.deref-2.ensures.value
    (cut-read c.self.inside.bytes.items c.self.inside.ends.items c.args.self.now c.args.at c.start-start.result c.index-end.result.now
    c.self.view_is c.self.invariant c.requires (rw c.deref.ensures.value at c.start-start.ensures) c.index-end.ensures).2
