use Rattle.std.proofs.Common.{refl}
use Rattle.link_script.proofs.Innermost.{innermost_of}
use Rattle.link_script.proofs.records.RecordBuilderObeys.locate.Goals as goal

pub returns-in_ok-locate : goal.returns-in_ok-locate
returns-in_ok-locate c =
    let records = c.args.self.now.open_records in
    let innermost = innermost_of records.items records.len c.in-Some.innermost.now c.locate.new.self records.ok.0 (c.in-Some.ensures.variant.0 refl) c.in-Some.ensures.value in
    rw (innermost.before, innermost.after, c.in_ok-locate.ensures) refl
