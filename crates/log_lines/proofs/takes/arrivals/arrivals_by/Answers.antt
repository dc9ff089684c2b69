use Rattle.std.proofs.Common.{[], None}
use Rattle.log_lines.specs.Takes.Arrivals.{arrival_of}
use Rattle.log_lines.specs.Takes.Observations.{arrived_view}
use Rattle.log_lines.specs.declared.takes.observations.Arrived.{Arrived}
use Rattle.log_lines.proofs.TakesLemmas.ListLemmas.{picked_next}
use Rattle.log_lines.proofs.takes.arrivals.arrivals_by.Goals as goal

abbrev nothing : Arrived
nothing = record {
  host = record { ref_ptr = (0, 0); now = [] };
  peer = record { ref_ptr = (0, 0); now = [] };
  name = record { ref_ptr = (0, 0); now = [] };
  id = None;
  at = 0;
}

pub loop-message-preserved : goal.loop-message-preserved
loop-message-preserved c = λ keys numbers holds.
    picked_next (arrival_of keys numbers) arrived_view c.args.arrived.now c.loop-message.message-index nothing c.loop-message.arrivals.items c.add.new.arrivals.items c.loop-message-test.true
    (c.loop-message.invariant keys numbers holds) (c.in_ok-add.ensures keys numbers holds)
