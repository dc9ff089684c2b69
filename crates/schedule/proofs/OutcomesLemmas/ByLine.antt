-- Notes in the order of their lines.
use Rattle.std.proofs.Common.{◌≡◌, ℕ, ◌≤◌, ◌==◌, List, filter, AllPairs, arith}
use Rattle.std.specs.List.Sorted.{IsNonDecreasingBy, IsStableByKey}
use Rattle.std.specs.Ordering.{nat_cmp}
use Rattle.schedule.specs.declared.command.Note.{Note}
use Rattle.chart.proofs.StableOrderLemmas.OrderLemmas.{rising_pairs, same_by_key, key_kept}
use Rattle.schedule.specs.Outcomes.Outcomes.{AreByLine}

-- there is only one order of notes by line
pub same_by_line : (xs ys : List Note) → AllPairs (λ (a : Note) (b : Note). a.line ≤ b.line) xs → AllPairs (λ (a : Note) (b : Note). a.line ≤ b.line) ys
    → ((line : ℕ) → filter (λ (note : Note). note.line == line) xs ≡ filter (λ (note : Note). note.line == line) ys) → xs ≡ ys
same_by_line xs ys one other same = same_by_key (λ (note : Note). note.line) xs ys (rising_pairs (λ (note : Note). note.line) xs one) (rising_pairs (λ (note : Note). note.line) ys other) same

-- what a stable sort by line leaves
pub by_line : (came listed : List Note) → IsNonDecreasingBy (λ (note : Note). note.line) listed → IsStableByKey (λ (note : Note). note.line) nat_cmp came listed → AreByLine came listed
by_line came listed rising stable = record {
  rising = λ i j d less within. rising i j d (omega arith) within;
  same = key_kept (λ (note : Note). note.line) came listed stable;
}
