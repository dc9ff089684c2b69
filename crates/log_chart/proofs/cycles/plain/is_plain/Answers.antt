use Rattle.std.proofs.Common.{None, slice_index_or}
use Rattle.log_chart.proofs.cycles.plain.is_plain.Goals as goal

pub returns : goal.returns
returns c = λ its. record {
  senders = λ x. slice_index_or c.in_ok-lanes.lanes.senders.items x None;
  streams = λ q. slice_index_or c.in_ok-lanes.lanes.streams.items q None;
  lines = c.have_all.ensures its;
}
