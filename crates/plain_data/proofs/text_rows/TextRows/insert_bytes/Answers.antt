use Rattle.std.proofs.Common.{◌≡◌, ap, sym, ◌∙◌, subst, slice_index_or, slice_set}
use Rattle.std.proofs.lemmas.List.{get_or_read}
use Rattle.std.specs.FinMap as map
use Rattle.plain_data.specs.TextRows.{made_of, no_row, Holds, Lacks, IsSound}
use Rattle.plain_data.proofs.Rows.{numbered, sound-set, made-set, sound-push, made-push}
use Rattle.plain_data.proofs.text_rows.TextRows.insert_bytes.Goals as goal
use Rattle.plain_data.proofs.text_rows.TextRows.insert_bytes.Goals.{After-self-1}

pub find-requires-clause-within : goal.find-requires-clause-within
find-requires-clause-within c = rw (c.as_slice-bytes.ensures.value, c.as_slice-rows.ensures.value) c.self.invariant.within

pub find-requires-clause-sorted : goal.find-requires-clause-sorted
find-requires-clause-sorted c = rw (c.as_slice-bytes.ensures.value, c.as_slice-rows.ensures.value, c.as_slice.ensures.value) c.self.invariant.sorted

holds : (c : After-self-1) → Holds c.self.inside.bytes.items c.self.inside.rows.items c.args.key.now c.in-Some.at
holds c = rw (← c.as_slice-bytes.ensures.value, ← c.as_slice-rows.ensures.value) c.in-Some.ensures

read : (c : After-self-1) → c.index_mut.result.now ≡ slice_index_or c.self.inside.rows.items c.in-Some.at no_row
read c = get_or_read c.self.inside.rows.items c.in-Some.at c.index_mut.result.now (holds c).0 c.index_mut.ensures.value no_row

pub invariant_of-self : goal.invariant_of-self
invariant_of-self c =
    let m = c.self.inside in
    subst (λ row. IsSound m.bytes.items (slice_set m.rows.items c.in-Some.at (numbered row c.args.number)) m.runs.items) (sym (read c))
    (sound-set m.bytes.items m.rows.items m.runs.items c.args.key.now c.args.number c.in-Some.at c.self.invariant (holds c))

pub returns-in-Some-clause-ok : goal.returns-in-Some-clause-ok
returns-in-Some-clause-ok c =
    let m = c.self.inside in
    ap (λ row. made_of m.bytes.items (slice_set m.rows.items c.in-Some.at (numbered row c.args.number))) (read c)
    ∙ made-set m.bytes.items m.rows.items c.args.key.now c.args.number c.in-Some.at c.self.invariant.distinct (holds c)
    ∙ ap (λ made. map.insert made c.args.key.now c.args.number) c.self.view_is

pub arrange-requires : goal.arrange-requires
arrange-requires c =
    let m = c.self.inside in
    let lacks : Lacks m.bytes.items m.rows.items c.args.key.now =
    rw (← c.as_slice-bytes.ensures.value, ← c.as_slice-rows.ensures.value) c.in-None.ensures in
    let pushed = c.in_ok-push-in-None.ensures in
    rw (c.as_slice-in-None.ensures.value, pushed.bytes, pushed.rows)
    (sound-push m.bytes.items c.args.key.now c.args.number m.rows.items m.runs.items c.self.invariant lacks)

pub invariant_of-self-in-None : goal.invariant_of-self-in-None
invariant_of-self-in-None c =
    subst (λ bytes. IsSound bytes c.arrange.new.rows.items c.arrange.new.runs.items) c.as_slice-in-None.ensures.value c.arrange.ensures.sound

pub returns-in_ok-push-in-None-clause-ok : goal.returns-in_ok-push-in-None-clause-ok
returns-in_ok-push-in-None-clause-ok c =
    let m = c.self.inside in
    let lacks : Lacks m.bytes.items m.rows.items c.args.key.now =
    rw (← c.as_slice-bytes.ensures.value, ← c.as_slice-rows.ensures.value) c.in-None.ensures in
    let pushed = c.in_ok-push-in-None.ensures in
    let made : made_of c.push.new.bytes.items c.push.new.rows.items ≡ map.insert (made_of m.bytes.items m.rows.items) c.args.key.now c.args.number =
    rw (pushed.bytes, pushed.rows)
    (made-push m.bytes.items c.args.key.now c.args.number m.rows.items c.self.invariant.within lacks) in
    subst (λ bytes. made_of bytes c.arrange.new.rows.items ≡ made_of bytes c.push.new.rows.items) c.as_slice-in-None.ensures.value c.arrange.ensures.same
    ∙ made
    ∙ ap (λ made. map.insert made c.args.key.now c.args.number) c.self.view_is
