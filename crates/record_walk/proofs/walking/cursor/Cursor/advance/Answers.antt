use Rattle.std.proofs.Common.{ap, string_bytes, subst, arith, ◌∙◌}
use Rattle.proto_types.specs.Names.{join}
use Rattle.record_walk.specs.Cursor.{AreNested, depth_of, inner_lines, stacked_all}
use Rattle.proto_types.specs.Paths.{entry_path}
use Rattle.record_walk.specs.Walking.{proto_of}
use Rattle.record_walk.proofs.Cursors.{comes, first-within}
use Rattle.record_walk.proofs.walking.cursor.Cursor.advance.Goals as goal

pub step-requires : goal.step-requires
step-requires c = λ l ls is.
    let site = c.args.self.now.site in
    let name = string_bytes site.name in
    let nested = subst (AreNested (depth_of site.path.items name) name) is c.requires.nested in
    omega (arith, nested.0.short)

pub count-index-requires-clause-room : goal.count-index-requires-clause-room
count-index-requires-clause-room c =
    let came = c.in-Some.ensures in
    first-within c.args.self.now c.in-Some.part c.in-Some.at came.0 came.1 c.requires came.2

pub returns : goal.returns
returns c =
    let came = c.in-Some.ensures in
    let part = c.in-Some.part in
    let at = c.in-Some.at in
    let index = c.count-index.result in
    comes c.args.self.now (record { counts = c.count-index.new.counts; site = c.enter.new.self; rows = c.push_inner.new.self }) part at index came.0 came.1 c.requires came.2
    (c.enter.ensures.file ∙ c.cut.ensures.file)
    (c.in_ok-enter.ensures.path ∙ ap (λ path. entry_path path at.tag at.position) c.cut.ensures.path)
    (c.in_ok-enter.ensures.name ∙ (λ j. join (c.cut.ensures.name j) (c.name.ensures j)))
    c.count-index.ensures.counts c.count-index.ensures.index
    (c.in_ok-push_inner.ensures ∙ (λ j. stacked_all (inner_lines (c.depth.ensures j) at.depth.scope index (proto_of part)) (came.3 j)))
