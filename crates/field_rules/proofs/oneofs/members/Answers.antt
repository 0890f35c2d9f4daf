use Rattle.std.proofs.Common.{◌≡◌, ◌++◌, ◌∷◌, [], length, take, get_or, set, Some, ap, sym, ◌∙◌, arith}
use Rattle.field_rules.specs.Oneofs.{oneof_of, members}
use Rattle.field_rules.proofs.Listed.{no-members, length-each, named-below, members-unnamed, members-named}
use Rattle.field_rules.proofs.oneofs.members.Goals as goal
use Rattle.field_rules.proofs.oneofs.members.Goals.{in-Some+in_ok-push, in_default}

pub loop-position-init : goal.loop-position-init
loop-position-init c = c.in_ok-lists.ensures ∙ no-members 0 c.args.oneofs.now

-- there is a list for each oneof
pub index_mut-requires : goal.index_mut-requires
index_mut-requires c =
    let f = c.index-fields-position.result in
    let named : oneof_of c.args.oneofs.now f ≡ Some c.in-Some.oneof = sym c.oneof_of.ensures ∙ c.in-Some.is in
    let below = named-below c.args.oneofs.now f c.in-Some.oneof named in
    let count = ap length c.loop-position.invariant ∙ length-each (λ oneof. members (take c.loop-position.position c.args.fields.now) oneof) 0 c.args.oneofs.now in
    omega (arith, below, count)

-- one more field is looked at
pub loop-position-preserved : goal.loop-position-preserved
loop-position-preserved c =
    let i = c.loop-position.position in
    let f = c.index-fields-position.result in
    elim c.match-oneof_of.branch [
      | in-Some+in_ok-push w ↦
          let k = w.in-Some.oneof in
          let d = w.index_mut.result.now in
          let pushed = w.in_ok-push.ensures.ok ∙ ap (λ list. list ++ i ∷ []) (w.index_mut.ensures.value ∙ ap (λ lists. get_or lists k d) c.loop-position.invariant) in
          ap (λ v. v.items) w.lists-is ∙ (λ j. set (c.loop-position.invariant j) k (pushed j))
          ∙ members-named c.args.fields.now i f c.loop-position-test.true c.index-fields-position.is c.args.oneofs.now k (sym c.oneof_of.ensures ∙ w.in-Some.is) d
      | in_default w ↦ ap (λ v. v.items) w.lists-is ∙ c.loop-position.invariant
          ∙ members-unnamed c.args.fields.now i f c.loop-position-test.true c.index-fields-position.is c.args.oneofs.now (sym c.oneof_of.ensures ∙ w.in_default.is)
    ]
