use Rattle.std.proofs.Common.{None, ap, is_some, sym, ◌∙◌}
use Rattle.std.specs.FinMap as map
use Rattle.name_tables.proofs.Inserted.{found-none, found-some, inserted-absent, inserted-present}
use Rattle.plain_data.proofs.Texts.{get-by_text}
use Rattle.name_tables.proofs.hashed_names.HashedNamesNameTable.insert.Goals as goal

pub add-requires : goal.add-requires
add-requires c =
    let name = c.args.name.now in
    let found = ap is_some (sym (get-by_text c.self.inside.table name) ∙ ap (λ names. map.get names name) c.self.view_is) in
    found-none (map.get c.args.self.now name) (sym found ∙ sym c.contains_key.ensures ∙ c.if-contains_key.false)

pub returns-then-contains_key-clause-ok : goal.returns-then-contains_key-clause-ok
returns-then-contains_key-clause-ok c =
    let names = c.args.self.now in
    let name = c.args.name.now in
    let found = ap is_some (sym (get-by_text c.self.inside.table name) ∙ ap (λ names. map.get names name) c.self.view_is) in
    let present = found-some (map.get names name) (sym found ∙ sym c.contains_key.ensures ∙ c.if-contains_key.true) in
    sym (inserted-present names name c.args.definition present.0 present.1)

pub returns-clause-ok : goal.returns-clause-ok
returns-clause-ok c =
    let name = c.args.name.now in
    let found = ap is_some (sym (get-by_text c.self.inside.table name) ∙ ap (λ names. map.get names name) c.self.view_is) in
    let absent = found-none (map.get c.args.self.now name) (sym found ∙ sym c.contains_key.ensures ∙ c.if-contains_key.false) in
    ap (λ names. (names, None)) c.in_ok-add.ensures.ok ∙ sym (inserted-absent c.args.self.now name c.args.definition absent)
