-- The lines of the hosts of a log.
use Rattle.std.specs.Prelude.{ℕ, zero, suc, List, [], ◌∷◌}
use Rattle.log_chart.specs.Begun.{begun}
use Rattle.log_chart.specs.Fates.{staying}
use Rattle.log_chart.specs.Items.{items_of}
use Rattle.log_chart.specs.Matching.{matched}
use Rattle.log_chart.specs.NameOrder.{by_name}
use Rattle.log_chart.specs.declared.begun.Begun.{Begun}
use Rattle.log_chart.specs.declared.entry.Entry.{Entry}
use Rattle.log_chart.specs.declared.item.Item.{Item}
use Rattle.log_chart.specs.declared.matching.LogLine.{LogLine}
use Rattle.log_chart.specs.declared.name_order.HostName.{HostName}

-- the lines of k hosts, from p on, of these hosts in the order of their names
unfoldable pub lines_from : List HostName → List LogLine → List Begun → ℕ → ℕ → List (List Item)
lines_from hosts lines given p zero = []
lines_from hosts lines given p (suc k) = items_of hosts lines given p ∷ lines_from hosts lines given (suc p) k

-- the lines of the log that stay
abbrev pub kept : List Entry → List LogLine
kept log = staying (matched log)

-- the lines of its n hosts
abbrev pub host_lines : ℕ → List Entry → List (List Item)
host_lines n log = lines_from (by_name n log) (kept log) (begun (kept log)) 1 n
