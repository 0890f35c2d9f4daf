use Rattle.link_script.proofs.building.options_of.Goals as goal

pub returns : goal.returns
returns g c = λ i. record { encoded = c.new-encoded.ensures i; value = c.args.value }
