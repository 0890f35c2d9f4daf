use Rattle.std.proofs.Common.{◌≡◌, ◌<◌, ◌≤◌, [], get_or, length, map, take}
use Rattle.std.specs.Str.{IsCharBoundary}
use Rattle.proto_types.specs.Names.{fronts}
use Rattle.name_pass.specs.Names.{package_entry}
use Rattle.name_pass.specs.State.{records_of, scopes_of, state_of, Stays}
use Rattle.name_pass.specs.Steps.{entered}
use Rattle.name_pass.proofs.Joining.{JoinsOn}
use Rattle.name_pass.proofs.names.NameVisitor.enter_around.Given as goal

-- the packages that end at a dot so far are entered, and the scope of the innermost is open
abbrev pub invariant-loop-end : goal.invariant-loop-end
invariant-loop-end l = record {
  state : state_of l.self ≡ entered (records_of l.initial.self) (state_of l.initial.self) (map (package_entry l.file) (fronts (take l.end l.bytes)));
  stays : Stays l.initial.self l.self;
  within : l.start ≤ l.end;
  cut : IsCharBoundary l.bytes l.start;
  few : l.level ≤ l.end;
  below : l.level < length (scopes_of l.self);
  joins : JoinsOn l.bytes l.start (get_or (scopes_of l.self) l.level []);
}
