use Rattle.std.proofs.Common.{◌≡◌, [], None, drop}
use Rattle.diagrams.specs.Messages.Opening.{HasRoom, IsOpen}
use Rattle.diagrams.specs.Messages.Regions.{with_ends}
use Rattle.diagrams.proofs.messages.line.line_of.Given as goal

abbrev pub invariant-loop-place : goal.invariant-loop-place
invariant-loop-place l = record {
  instance : l.line.instance ≡ l.fn.instance;
  is_open : IsOpen l.last l.line.events (drop l.place l.own);
  room : HasRoom l.fn.instance l.line.events (drop l.place l.own);
  so_far : with_ends l.last l.line.events (drop l.place l.own) ≡ with_ends None [] l.own;
}
