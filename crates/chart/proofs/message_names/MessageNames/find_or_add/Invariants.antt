use Rattle.std.proofs.Common.{◌≡◌, length, vec_capacity}
use Rattle.chart.proofs.message_names.MessageNames.find_or_add.Given as goal

abbrev pub invariant-loop-place : goal.invariant-loop-place
invariant-loop-place l = (l.self.names.items ≡ l.fn.self.names.items) × (vec_capacity l.self.names ≡ vec_capacity l.fn.self.names) × (l.length ≡ length l.fn.self.names.items)
