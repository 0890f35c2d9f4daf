use Rattle.std.proofs.Common.{rules, ◌≡◌, ℕ, true, cond, None, Some, nat_eq}
use Rattle.std.proofs.lemmas.Bool.Decides.{Decides-eqb}
use Rattle.std.specs.Cmp.{nat_eq_equiv}
use Rattle.protoc_rules.specs.Firsts.{first_at}
use Rattle.protoc_rules.proofs.FirstKeys.{firsts-kept, firsts-put}
use Rattle.protoc_rules.proofs.firsts.first_numbered.Goals as goal

same : (x y : ℕ) → nat_eq x y ≡ true → x ≡ y
same x y = (Decides-eqb x y).0

pub returns-in-Some-clause-firsts : goal.returns-in-Some-clause-firsts
returns-in-Some-clause-firsts c = λ numbers has many.
    let there : first_at c.args.firsts.now c.args.number ≡ Some c.in-Some.first = search rules in
    firsts-kept nat_eq same nat_eq_equiv.symm numbers c.args.number (λ number. first_at c.args.firsts.now number) has c.in-Some.first there

pub returns-in_ok-insert-in-None-clause-firsts : goal.returns-in_ok-insert-in-None-clause-firsts
returns-in_ok-insert-in-None-clause-firsts c = λ numbers has many.
    let absent : first_at c.args.firsts.now c.args.number ≡ None = search rules in
    let after : (x : ℕ) → first_at c.insert.new.self x ≡ cond (nat_eq c.args.number x) (Some c.args.position) (first_at c.args.firsts.now x) =
    λ x. search rules in
    firsts-put nat_eq same nat_eq_equiv.symm numbers c.args.number (λ number. first_at c.args.firsts.now number) has c.args.position
    (λ number. first_at c.insert.new.self number) absent many after
