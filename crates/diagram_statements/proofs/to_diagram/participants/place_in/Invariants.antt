use Rattle.std.proofs.Common.{◌≡◌, ◌+◌, drop, map, option_map}
use Rattle.diagram_statements.specs.ToDiagram.Participants.{named_view, place_in}
use Rattle.diagram_statements.proofs.to_diagram.participants.place_in.Given as goal

abbrev pub invariant-loop-participant : goal.invariant-loop-participant
invariant-loop-participant l = record {
  same : option_map (λ k. l.place + k) (place_in l.word (map named_view (drop l.participant-index l.participants))) ≡ place_in l.word (map named_view l.participants);
  counted : l.place ≡ l.participant-index;
}
