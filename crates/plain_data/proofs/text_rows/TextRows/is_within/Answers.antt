use Rattle.std.proofs.Common.{subst}
use Rattle.std.specs.Prelude.{IsTrue, ◌↔◌}
use Rattle.plain_data.specs.Maps.{IsWithin}
use Rattle.plain_data.proofs.Rows.{told-by-rows}
use Rattle.plain_data.proofs.text_rows.TextRows.is_within.Goals as goal

pub returns : goal.returns
returns c =
    let m = c.self.inside in
    subst (λ own. IsTrue c.covers.result ↔ IsWithin own c.args.other.now) c.self.view_is
    (told-by-rows m.bytes.items m.rows.items c.args.other.now c.covers.result c.self.invariant.distinct
    (rw (← c.as_slice.ensures.value, ← c.as_slice-2.ensures.value) c.covers.ensures))
