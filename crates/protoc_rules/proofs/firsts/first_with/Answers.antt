use Rattle.std.proofs.Common.{rules, ◌≡◌, ℕ, true, List, None, Some}
use Rattle.std.proofs.lemmas.Map.Text.{btree_map_updates_str}
use Rattle.std.proofs.lemmas.Slice.Eq.{bytes_eq-Decides}
use Rattle.std.specs.Cmp.Lexicographic.{nat_list_eq_equiv}
use Rattle.std.specs.Str.{bytes_eq}
use Rattle.protoc_rules.specs.Firsts.{first_of}
use Rattle.protoc_rules.proofs.FirstKeys.{firsts-kept, firsts-put}
use Rattle.protoc_rules.proofs.firsts.first_with.Goals as goal

same : (x y : List ℕ) → bytes_eq x y ≡ true → x ≡ y
same x y = (bytes_eq-Decides x y).0

pub returns-in-Some-clause-firsts : goal.returns-in-Some-clause-firsts
returns-in-Some-clause-firsts c = λ names has many.
    let there : first_of c.args.firsts.now c.args.name.now ≡ Some c.in-Some.first = search rules in
    firsts-kept bytes_eq same nat_list_eq_equiv.symm names c.args.name.now (λ name. first_of c.args.firsts.now name) has c.in-Some.first there

pub returns-in_ok-insert-in-None-clause-firsts : goal.returns-in_ok-insert-in-None-clause-firsts
returns-in_ok-insert-in-None-clause-firsts c = λ names has many.
    let absent : first_of c.args.firsts.now c.args.name.now ≡ None = search rules in
    firsts-put bytes_eq same nat_list_eq_equiv.symm names c.args.name.now (λ name. first_of c.args.firsts.now name) has c.args.position
    (λ name. first_of c.insert.new.self name) absent many
    (btree_map_updates_str c.args.name.now c.args.firsts.now c.insert.new.self _ c.in_ok-insert-in-None.ensures.updates)
