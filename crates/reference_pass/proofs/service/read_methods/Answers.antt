use Rattle.std.proofs.lemmas.Grind.{common_steps}
use Rattle.std.proofs.Common.{◌++◌, ◌∷◌, [], refl, ap, subst, ◌∙◌, sym, arith}
use Rattle.std.proofs.lemmas.List.Elements.{All-push}
use Rattle.std.specs.List.{All}
use Rattle.pool_types.specs.declared.contents.service.MethodDescriptorInner.{MethodDescriptorInner}
use Rattle.reference_pass.specs.SecondPass.{method_faults}
use Rattle.reference_pass.specs.Items.{method_item}
use Rattle.reference_pass.specs.References.{method_at}
use Rattle.reference_pass.specs.Reading.{setting_of}
use Rattle.field_rules.specs.NamesBegin.{BeginsAtBoundary}
use Rattle.record_walk.specs.Place.{inside_of}
use Rattle.field_rules.proofs.Each.{each-next, short-list}
use Rattle.reference_pass.proofs.Readings.{reads-next, same-setting}
use Rattle.reference_pass.proofs.service.read_methods.Goals as goal

pub read_method-requires : goal.read_method-requires
read_method-requires c = short-list c.args.methods.now c.loop-position.position c.requires c.loop-position-test.true

-- one more method is read
pub loop-position-preserved : goal.loop-position-preserved
loop-position-preserved c =
    let s = setting_of c.args.reading.now in
    let here = inside_of c.args.service in
    let i = c.loop-position.position in
    let m = c.index-methods-position.result in
    let so_far = c.loop-position.invariant.faults in
    let item = c.in_ok-read_method.ensures.item ∙ ap (λ t. method_item t (method_at here i m) m) (same-setting so_far) in
    let Begins : MethodDescriptorInner → Type 0 = λ g. BeginsAtBoundary g.id in
    let pushed = c.push_reserved.ensures.items ∙ ap (λ items. items ++ c.in_ok-read_method.field-0 ∷ []) c.reserve.ensures.items in
    record {
      items = pushed ∙ (λ j. c.loop-position.invariant.items j ++ item j ∷ [])
          ∙ sym (each-next (λ n p. method_item s (method_at here n p) p) c.args.methods.now i m c.loop-position-test.true c.index-methods-position.is);
      begin = subst (All Begins) (sym pushed)
          (All-push Begins c.loop-position.items.items c.in_ok-read_method.field-0 c.loop-position.invariant.begin c.in_ok-read_method.ensures.begins);
      faults = reads-next (λ t n p. method_faults t (method_at here n p) p) c.args.methods.now i m c.loop-position-test.true c.index-methods-position.is so_far
          refl c.in_ok-read_method.ensures.faults;
    }

pub returns-clause-items : goal.returns-clause-items
returns-clause-items c = grind (arith, common_steps)
