use Rattle.std.proofs.Common.{◌≡◌, ◌++◌, ℕ, List, None, get_or, map}
use Rattle.log_chart.specs.BegunTables.{IsRising}
use Rattle.log_chart.specs.Chains.{IsChain}
use Rattle.log_chart.specs.Cursors.{left_from}
use Rattle.log_chart.specs.Items.{invented}
use Rattle.log_chart.proofs.host_line.push_behind.Given as goal

abbrev pub invariant-numbers : goal.invariant-numbers
invariant-numbers l = (rest : List ℕ) × IsChain l.behind.next.items l.next rest × IsRising rest
    × ((xs : List ℕ) → IsChain l.behind.next.items (get_or l.behind.first.items l.line.number None) xs
    → l.items.items ++ map (invented l.line.entry.peer) rest ≡ l.fn.items.items ++ map (invented l.line.entry.peer) xs)

abbrev pub decreases-numbers : goal.decreases-numbers
decreases-numbers l = left_from l.behind.next.items l.next
