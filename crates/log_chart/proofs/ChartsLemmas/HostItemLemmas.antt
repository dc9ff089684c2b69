-- What holds of all events of hosts: of those of the log's lines, and of invented sends.
use Rattle.std.proofs.Common.{ℕ, zero, suc, ◌<◌, ◌==◌, Bool, true, false, cond, List, [], ◌∷◌, length, map}
use Rattle.std.specs.Prelude.{All}
use Rattle.std.specs.List.{flat_map}
use Rattle.std.proofs.lemmas.List.Elements.{All-nil, All-cons, All-head, All-tail, All-append}
use Rattle.log_chart.specs.Begun.{begun, behind, heads, heads_to}
use Rattle.log_chart.specs.Entries.{is_send}
use Rattle.log_chart.specs.HostLines.{lines_from, kept, host_lines}
use Rattle.log_chart.specs.NameOrder.{by_name}
use Rattle.log_chart.specs.Items.{item_of, invented, items_by, heads_in, items_of}
use Rattle.log_chart.specs.declared.begun.Begun.{Begun}
use Rattle.log_chart.specs.declared.entry.Entry.{Entry}
use Rattle.log_chart.specs.declared.item.Item.{Item}
use Rattle.log_chart.specs.declared.matching.LogLine.{LogLine}
use Rattle.log_chart.specs.declared.name_order.HostName.{HostName}
use Rattle.log_chart.proofs.OrderLemmas.{are_given}
use Rattle.log_chart.proofs.ChartsLemmas.ItemLemmas.{AllBelow, AreBelow, given_below, heads_below, heads_to_below, behind_below}

module _ (P : Item → Type 0) (n : ℕ) (made : (p r : ℕ) → r < n → P (invented p r)) where
  all_invented : (p : ℕ) (numbers : List ℕ) → AllBelow n numbers → All P (map (invented p) numbers)
  all_invented p [] below = All-nil P
  all_invented p (r ∷ numbers) below = All-cons P (invented p r) (map (invented p) numbers) (made p r below.0) (all_invented p numbers below.1)

  all_heads : (given : List Begun) (hosts : List HostName) → AreBelow n given → All P (heads_in given hosts)
  unfolding heads_in
  all_heads given [] below = All-nil P
  all_heads given (x ∷ hosts) below =
      All-append P (map (invented x.host) (heads_to given x.host)) (heads_in given hosts) (all_invented x.host (heads_to given x.host) (heads_to_below n x.host given below)) (all_heads given hosts below)

  of_line : (given : List Begun) (q : ℕ) (x : LogLine) → AreBelow n given → P (item_of x) → All P (items_by given q x)
  of_line given q x below its = go (x.entry.host == q)
    where
      behind_it : (sends : Bool) → All P (cond sends (map (invented x.entry.peer) (behind given x.number)) [])
      behind_it true = all_invented x.entry.peer (behind given x.number) (behind_below n x.number given below)
      behind_it false = All-nil P

      go : (own : Bool) → All P (cond own (item_of x ∷ cond (is_send x.entry.kind) (map (invented x.entry.peer) (behind given x.number)) []) [])
      go true = All-cons P (item_of x) (cond (is_send x.entry.kind) (map (invented x.entry.peer) (behind given x.number)) []) its (behind_it (is_send x.entry.kind))
      go false = All-nil P

  of_lines : (given : List Begun) (q : ℕ) (lines : List LogLine) → AreBelow n given → All (λ x. P (item_of x)) lines → All P (flat_map (items_by given q) lines)
  of_lines given q [] below all = All-nil P
  of_lines given q (x ∷ lines) below all =
      All-append P (items_by given q x) (flat_map (items_by given q) lines) (of_line given q x below (All-head (λ y. P (item_of y)) x lines all))
      (of_lines given q lines below (All-tail (λ y. P (item_of y)) x lines all))

  of_host : (hosts : List HostName) (lines : List LogLine) (given : List Begun) (q : ℕ) → AreBelow n given → All (λ x. P (item_of x)) lines → All P (items_of hosts lines given q)
  unfolding items_of
  of_host hosts lines given q below all =
      All-append P (heads_in (heads given q) hosts) (flat_map (items_by given q) lines) (all_heads (heads given q) hosts (heads_below n q given below)) (of_lines given q lines below all)

  of_hosts : (hosts : List HostName) (lines : List LogLine) (given : List Begun) (p m : ℕ) → AreBelow n given → All (λ x. P (item_of x)) lines → All (All P) (lines_from hosts lines given p m)
  unfolding lines_from
  of_hosts hosts lines given p zero below all = All-nil (All P)
  of_hosts hosts lines given p (suc m) below all =
      All-cons (All P) (items_of hosts lines given p) (lines_from hosts lines given (suc p) m) (of_host hosts lines given p below all) (of_hosts hosts lines given (suc p) m below all)

pub all_items : (P : Item → Type 0) (hosts : ℕ) (log : List Entry) → ((p r : ℕ) → r < length log → P (invented p r)) → All (λ x. P (item_of x)) (kept log) → All (All P) (host_lines hosts log)
all_items P hosts log made all = of_hosts P (length log) made (by_name hosts log) (kept log) (begun (kept log)) 1 hosts (given_below (length log) (begun (kept log)) (are_given log)) all
