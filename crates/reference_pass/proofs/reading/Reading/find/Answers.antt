use Rattle.reference_pass.proofs.reading.Reading.find.Goals as goal

pub returns : goal.returns
returns c = c.find_in.ensures c.args.place.full_name.now
