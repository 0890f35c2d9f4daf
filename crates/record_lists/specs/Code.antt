-- A reference as the code holds it, as the definitions have it.
use Rattle.record_lists.specs.Reference.{Reference}
use Rattle.record_lists.specs.declared.reference.Reference.{Reference as FoundReference}

-- a reference as the definitions have it, of one that the code borrows
abbrev pub reference_of : FoundReference → Reference
reference_of r = record { full_name = r.full_name; part = r.part.now; text = r.text.now }
