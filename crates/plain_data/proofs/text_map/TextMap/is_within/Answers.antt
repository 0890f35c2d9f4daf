use Rattle.std.proofs.Common.{ap, sym, subst, ◌∙◌}
use Rattle.std.specs.Prelude.{IsTrue, ◌↔◌}
use Rattle.plain_data.specs.Maps.{HasAll, IsWithin}
use Rattle.plain_data.specs.TextMaps.{AreSound, map_of}
use Rattle.plain_data.proofs.TextEntries.{told-by-all}
use Rattle.plain_data.proofs.text_map.TextMap.is_within.Goals as goal

pub returns-in-Few : goal.returns-in-Few
returns-in-Few c =
    let other = c.args.other.now in
    subst (λ own. IsTrue c.has_all.result ↔ IsWithin own other) (ap map_of (sym c.in-Few.is) ∙ c.self.view_is)
    (told-by-all c.in-Few.entries.items other c.has_all.result (subst AreSound c.in-Few.is c.self.invariant)
    (subst (λ es. IsTrue c.has_all.result ↔ HasAll es other) c.as_slice.ensures.value c.has_all.ensures))
