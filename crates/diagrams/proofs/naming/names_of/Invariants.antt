use Rattle.std.proofs.Common.{◌≡◌, [], length, map, drop}
use Rattle.diagrams.specs.Diagrams.{participant_view}
use Rattle.diagrams.specs.Naming.{names_from}
use Rattle.diagrams.proofs.naming.names_of.Given as goal

abbrev pub invariant-loop-participant : goal.invariant-loop-participant
invariant-loop-participant l = record {
  count : length l.names ≡ l.participant-index;
  same : l.names ≡ l.given;
  so_far : names_from l.names (map participant_view (drop l.participant-index l.participants)) ≡ names_from [] (map participant_view l.participants);
}
