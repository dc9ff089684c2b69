use Rattle.std.proofs.Common.{◌≡◌, ◌+◌, drop}
use Rattle.pictures.specs.ColumnText.{life_text, lifeline}
use Rattle.texts.proofs.PiecesLemmas.Coming.{HasCome}
use Rattle.pictures.proofs.columns.add_lifeline.Given as goal

-- the parts so far were added, and the rest is still to be added
abbrev pub invariant-loop-event : goal.invariant-loop-event
invariant-loop-event g l = record {
  index : l.index ≡ l.event-index + 1;
  come : HasCome g.W.Out.sink l.initial.text l.text (life_text l.picture l.instance l.x l.index l.life (drop l.event-index l.events)) (lifeline l.picture l.instance l.x l.events);
}
