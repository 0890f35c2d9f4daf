use Rattle.std.proofs.Common.{refl, sym, ◌∙◌}
use Rattle.std.proofs.lemmas.Result.{on_ok_weaker}
use Rattle.name_resolution.specs.declared.last_seen.LastSeen.{LastSeen}
use Rattle.name_resolution.proofs.LastSeen.{sees-far}
use Rattle.name_resolution.proofs.last_seen.LastSeen.see.Goals as goal

pub returns-in-None : goal.returns-in-None
returns-in-None c =
    let old = c.args.self.now in
    let new : LastSeen = record old { far = c.insert.new.self } in
    on_ok_weaker c.insert.result (sees-far old new c.args.file c.args.by refl refl (sym c.place.ensures ∙ c.in-None.is) refl) c.insert.ensures.ok
