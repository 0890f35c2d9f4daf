use Rattle.std.proofs.Common.{refl}
use Rattle.std.proofs.lemmas.Result.{IfOk-weaker}
use Rattle.record_walk.specs.Cursor.{Advances}
use Rattle.record_walk.specs.Parts.{AdvancesPast}
use Rattle.record_walk.proofs.Passing.{passes}
use Rattle.record_walk.proofs.walking.cursor.Cursor.advance_past.Goals as goal

pub advance-requires : goal.advance-requires
advance-requires c = (passes c.args.wanted c.args.self.now (record c.args.self.now { rows = c.pass_parts.new.self }) c.requires refl refl c.pass_parts.ensures).sound

pub returns : goal.returns
returns c =
    let between = record c.args.self.now { rows = c.pass_parts.new.self } in
    let past = passes c.args.wanted c.args.self.now between c.requires refl refl c.pass_parts.ensures in
    IfOk-weaker c.advance.result (Advances between c.advance.new.self) (AdvancesPast c.args.wanted c.args.self.now c.advance.new.self) (λ next went. (between, past, went)) c.advance.ensures
