use Rattle.std.proofs.Common.{◌≡◌, ◌++◌, ℕ, List, IfOk, IfSome, not, subst}
use Rattle.std.specs.List.{flat_map}
use Rattle.proto_types.specs.Names.{join}
use Rattle.proto_types.specs.Readers.{text_of}
use Rattle.field_rules.specs.InnerNames.{dot, names_behind}
use Rattle.field_rules.proofs.NamesBehind.{behind-dot}
use Rattle.field_rules.proofs.inner_names.InnerNames.new.Goals as goal

-- each full name stands behind the scope and its dot
pub returns : goal.returns
returns c =
    let scope = c.args.scope.now in
    let joins : (name : List ℕ) → scope ++ dot (not c.is_empty-has_dot.result) ++ name ≡ join scope name =
    λ name. behind-dot scope name c.is_empty-has_dot.result c.is_empty-has_dot.ensures in
    let same : flat_map (λ f. scope ++ dot (not c.is_empty-has_dot.result) ++ text_of f.name) c.args.fields.now ≡ names_behind scope c.args.fields.now =
    λ j. flat_map (λ f. joins (text_of f.name) j) c.args.fields.now in
    subst (λ texts. IfOk c.behind.result (λ names. IfSome names.shared (λ text. text ≡ texts))) same c.behind.ensures
