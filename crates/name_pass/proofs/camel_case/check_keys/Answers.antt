use Rattle.std.proofs.Common.{◌∷◌, [], take, find, string_bytes, None, Some, ap, sym, ◌∙◌, arith}
use Rattle.std.specs.HashMap.{get_by_text}
use Rattle.std.specs.List.{enumerate_from}
use Rattle.std.specs.Option.{option_map}
use Rattle.std.specs.Str.{bytes_eq}
use Rattle.record_walk.specs.Faults.{named_files}
use Rattle.record_walk.proofs.Tells.{same-files, tells-as, tells-from, tells-none, tells-two}
use Rattle.name_pass.specs.CamelCase.{camel_case_fault, camel_case_key, key_at}
use Rattle.name_pass.proofs.CamelCase.{told-next}
use Rattle.name_pass.proofs.Holders.{held-before, none-before, holders-next, short-list}
use Rattle.plain_data.proofs.Enumerated.{entries-next}
use Rattle.name_pass.proofs.camel_case.check_keys.Goals as goal
use Rattle.name_pass.proofs.camel_case.check_keys.Goals.{then-first-position+in_ok-fault+in_ok-push, else-first-position}

-- another field that holds the key stands before this one
pub bounds-fields-first : goal.bounds-fields-first
bounds-fields-first c =
    let key = string_bytes c.in_ok-key.key in
    let held = held-before c.args.fields.now c.loop-position.position c.in_ok-first.first c.loop-position-test.true key_at key
    _ c.in_ok-first.ensures.first (c.loop-position.invariant.holders key) c.if-first-position.true in
    omega (arith, held.below)

pub offset_bounds-fields-first : goal.offset_bounds-fields-first
offset_bounds-fields-first c = let short = short-list c.args.fields.now c.in_ok-first.first c.requires (bounds-fields-first c) in omega arith

pub camel_case_fault-requires-clause-first_short : goal.camel_case_fault-requires-clause-first_short
camel_case_fault-requires-clause-first_short c =
    let key = string_bytes c.in_ok-key.key in
    let held = held-before c.args.fields.now c.loop-position.position c.in_ok-first.first c.loop-position-test.true key_at key
    _ c.in_ok-first.ensures.first (c.loop-position.invariant.holders key) c.if-first-position.true in
    short-list c.args.fields.now c.in_ok-first.first c.requires (omega (arith, held.below))

-- one more field is checked: its key is held, and it has a fault where another holds it
pub loop-position-preserved : goal.loop-position-preserved
loop-position-preserved c =
    let i = c.loop-position.position in
    let fields = c.args.fields.now in
    let f = c.index-fields-position.result in
    let first = c.in_ok-first.first in
    let key = string_bytes c.in_ok-key.key in
    let below = c.loop-position-test.true in
    let b = c.loop-position.faults in
    let so_far = c.loop-position.invariant.faults in
    let key_is = c.in_ok-key.ensures ∙ ap camel_case_key c.name.ensures in
    let first_is = c.in_ok-first.ensures.first in
    let holder_is = c.loop-position.invariant.holders key in
    let told = told-next (named_files c.args.faults.now) c.args.file c.args.path.now fields i f key below c.index-fields-position.is key_is in
    record {
      holders = λ text. holders-next key_at (enumerate_from 0 (take i fields)) (i, f) (λ t. get_by_text c.loop-position.holders t) first (λ t. get_by_text c.first_holder.new.holders t)
          key key_is c.loop-position.invariant.holders first_is c.in_ok-first.ensures.holders text
          ∙ ap (λ es. option_map (λ e. e.0) (find (λ e. bytes_eq text (key_at e)) es)) (sym (entries-next fields i f below c.index-fields-position.is));
      faults = elim c.if-first-position.branch [
        | then-first-position+in_ok-fault+in_ok-push w ↦
            let held = held-before fields i first below key_at key _ first_is holder_is w.if-first-position.true in
            let found = told (Some (first, w.index-fields-first.result)) (held.entry w.index-fields-first.result w.index-fields-first.is) in
            let fault = w.in_ok-fault.ensures.fault ∙ ap (λ fs. camel_case_fault fs c.args.file c.args.path.now (first, w.index-fields-first.result) (i, f)) (same-files so_far) in
            rw w.faults-is (tells-as found (tells-two so_far (tells-from w.in_ok-fault.ensures.stays (tells-as (ap (λ x. x ∷ []) fault) w.in_ok-push.ensures.told))))
        | else-first-position w ↦
            let found = told None (none-before fields i first below key_at key _ first_is holder_is w.if-first-position.false) in
            rw w.faults-is (tells-as found (tells-two so_far (tells-none b)))
      ];
    }
