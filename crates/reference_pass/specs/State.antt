-- What the second pass holds, as its definitions have it.
use Rattle.std.specs.Prelude.{◌++◌}
use Rattle.record_walk.specs.Faults.{told_in}
use Rattle.reference_pass.specs.declared.resolve.ResolveVisitor.{ResolveVisitor}
use Rattle.reference_pass.specs.Resolve.{ReferenceState}

-- the state of the second pass that a visitor of the code has reached
abbrev pub state_of : ResolveVisitor → ReferenceState
state_of v = record {
  messages = v.items.messages.items;
  enums = v.items.enums.items;
  services = v.items.services.items;
  extensions = v.pool.extensions.now ++ v.items.extensions.items;
  faults = told_in v.reading.faults;
}
