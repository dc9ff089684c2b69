use Rattle.std.proofs.Common.{◌≡◌, ◌++◌, drop}
use Rattle.std.specs.List.{flat_map}
use Rattle.log_chart.specs.Items.{items_by, items_of}
use Rattle.log_chart.proofs.host_line.items_of.Given as goal

abbrev pub invariant-loop-line : goal.invariant-loop-line
invariant-loop-line l = l.items.items ++ flat_map (items_by l.given l.host) (drop l.line-index l.lines) ≡ items_of l.hosts l.lines l.given l.host
