use Rattle.std.proofs.Common.{ap, sym, subst, ◌∙◌}
use Rattle.std.specs.FinMap as map
use Rattle.std.specs.List.{IsDistinct}
use Rattle.std.specs.Map.{keys_of, lookup}
use Rattle.std.specs.Str.{bytes_eq}
use Rattle.plain_data.specs.TextMaps.{AreSound, map_of}
use Rattle.plain_data.proofs.TextEntries.{get-entries}
use Rattle.plain_data.proofs.text_map.TextMap.get_bytes.Goals as goal

pub number_of-requires : goal.number_of-requires
number_of-requires c =
    subst (λ es. IsDistinct bytes_eq (keys_of es)) (sym c.as_slice.ensures.value) (subst AreSound c.in-Few.is c.self.invariant)

pub returns-in-Few : goal.returns-in-Few
returns-in-Few c =
    c.number_of.ensures
    ∙ ap (lookup (bytes_eq c.args.key.now)) c.as_slice.ensures.value
    ∙ sym (get-entries c.in-Few.entries.items c.args.key.now)
    ∙ ap (λ made. map.get made c.args.key.now) (ap map_of (sym c.in-Few.is) ∙ c.self.view_is)
