-- The events of a host's line that are lines of the log, along it: the numbers of these lines rise.
use Rattle.std.proofs.Common.{◌≡◌, ℕ, ◌<◌, ◌==◌, Bool, true, false, cond, List, [], ◌∷◌, None, Some, map, refl, sym, ◌∙◌, subst, arith}
use Rattle.std.specs.List.{flat_map}
use Rattle.std.proofs.lemmas.Option.{none-some, same_Some}
use Rattle.std.proofs.lemmas.List.{map-append}
use Rattle.chart.specs.Events.{ith}
use Rattle.log_chart.specs.Begun.{behind, heads, heads_to}
use Rattle.log_chart.specs.Entries.{is_send}
use Rattle.log_chart.specs.Items.{item_of, invented, heads_in}
use Rattle.log_chart.specs.declared.begun.Begun.{Begun}
use Rattle.log_chart.specs.declared.matching.LogLine.{LogLine}
use Rattle.log_chart.specs.declared.name_order.HostName.{HostName}
use Rattle.log_chart.proofs.ChartsLemmas.PlacedLemmas.{Placed, at_head, at_line, placed_by, placed, Each, Pairs, each_append, pairs_append, pairs_at}
use Rattle.log_chart.proofs.OrderLemmas.{IsAbove, Rises}

-- an event is a line of the log only with this number
abbrev OwnAt : ℕ → Placed → Type 0
OwnAt k w = (a : ℕ) → w.item.line ≡ Some a → a ≡ k

-- the line of one event is above that of another, if both have one
abbrev OwnLess : Placed → Placed → Type 0
OwnLess w v = (a b : ℕ) → w.item.line ≡ Some a → v.item.line ≡ Some b → a < b

abbrev HasNone : Placed → Type 0
HasNone w = w.item.line ≡ None

-- ---- events without a line

less_any : (w : Placed) → HasNone w → (vs : List Placed) → Each (OwnLess w) vs
less_any w none [] = tt
less_any w none (v ∷ vs) = (λ a b is other. absurd (none-some a (sym none ∙ is)), less_any w none vs)

pairs_none : (ws : List Placed) → Each HasNone ws → Pairs OwnLess ws
pairs_none [] all = tt
pairs_none (w ∷ ws) all = (less_any w all.0 ws, pairs_none ws all.1)

across_none : (ws vs : List Placed) → Each HasNone ws → Each (λ w. Each (OwnLess w) vs) ws
across_none [] vs all = tt
across_none (w ∷ ws) vs all = (less_any w all.0 vs, across_none ws vs all.1)

heads_none : (given : List Begun) (hosts : List HostName) → Each HasNone (map at_head (heads_in given hosts))
unfolding heads_in
heads_none given [] = tt
heads_none given (x ∷ hosts) =
    subst (Each HasNone) (sym (map-append at_head (map (invented x.host) (heads_to given x.host)) (heads_in given hosts)))
    (each_append HasNone (map at_head (map (invented x.host) (heads_to given x.host))) (map at_head (heads_in given hosts)) (all (heads_to given x.host)) (heads_none given hosts))
  where
    all : (numbers : List ℕ) → Each HasNone (map at_head (map (invented x.host) numbers))
    all [] = tt
    all (r ∷ numbers) = (refl, all numbers)

-- ---- the events of a line of the log

invented_at : (k p : ℕ) (numbers : List ℕ) → Each (OwnAt k) (map (at_line k) (map (invented p) numbers))
invented_at k p [] = tt
invented_at k p (r ∷ numbers) = (λ a is. absurd (none-some a is), invented_at k p numbers)

less_invented : (w : Placed) (k p : ℕ) (numbers : List ℕ) → Each (OwnLess w) (map (at_line k) (map (invented p) numbers))
less_invented w k p [] = tt
less_invented w k p (r ∷ numbers) = (λ a b is other. absurd (none-some b other), less_invented w k p numbers)

pairs_invented : (k p : ℕ) (numbers : List ℕ) → Pairs OwnLess (map (at_line k) (map (invented p) numbers))
pairs_invented k p [] = tt
pairs_invented k p (r ∷ numbers) = (less_invented (at_line k (invented p r)) k p numbers, pairs_invented k p numbers)

module _ (given : List Begun) (q : ℕ) where
  own_at : (x : LogLine) → Each (OwnAt x.number) (placed_by given q x)
  own_at x = go (x.entry.host == q) (is_send x.entry.kind)
    where
      go : (its sends : Bool) → Each (OwnAt x.number) (map (at_line x.number) (cond its (item_of x ∷ cond sends (map (invented x.entry.peer) (behind given x.number)) []) []))
      go true true = (λ a is. sym (same_Some x.number a is), invented_at x.number x.entry.peer (behind given x.number))
      go true false = (λ a is. sym (same_Some x.number a is), tt)
      go false sends = tt

  line_pairs : (x : LogLine) → Pairs OwnLess (placed_by given q x)
  line_pairs x = go (x.entry.host == q) (is_send x.entry.kind)
    where
      go : (its sends : Bool) → Pairs OwnLess (map (at_line x.number) (cond its (item_of x ∷ cond sends (map (invented x.entry.peer) (behind given x.number)) []) []))
      go true true = (less_invented (at_line x.number (item_of x)) x.number x.entry.peer (behind given x.number), pairs_invented x.number x.entry.peer (behind given x.number))
      go true false = (tt, tt)
      go false sends = tt

  -- ---- those of later lines

  above_all : (k m : ℕ) (w : Placed) → OwnAt k w → k < m → (vs : List Placed) → Each (OwnAt m) vs → Each (OwnLess w) vs
  above_all k m w here less [] all = tt
  above_all k m w here less (v ∷ vs) all = (λ a b is other. (let one = here a is in let two = all.0 b other in omega (arith, one, two, less)), above_all k m w here less vs all.1)

  later_less : (k : ℕ) (w : Placed) → OwnAt k w → (lines : List LogLine) → IsAbove k lines → Each (OwnLess w) (flat_map (placed_by given q) lines)
  later_less k w here [] above = tt
  later_less k w here (x ∷ lines) above =
      each_append (OwnLess w) (placed_by given q x) (flat_map (placed_by given q) lines) (above_all k x.number w here above.0 (placed_by given q x) (own_at x)) (later_less k w here lines above.1)

  all_less : (k : ℕ) (ws : List Placed) → Each (OwnAt k) ws → (lines : List LogLine) → IsAbove k lines → Each (λ w. Each (OwnLess w) (flat_map (placed_by given q) lines)) ws
  all_less k [] here lines above = tt
  all_less k (w ∷ ws) here lines above = (later_less k w here.0 lines above, all_less k ws here.1 lines above)

  lines_pairs : (lines : List LogLine) → Rises lines → Pairs OwnLess (flat_map (placed_by given q) lines)
  lines_pairs [] rises = tt
  lines_pairs (x ∷ lines) rises =
      pairs_append OwnLess (placed_by given q x) (flat_map (placed_by given q) lines) (line_pairs x) (lines_pairs lines rises.1) (all_less x.number (placed_by given q x) (own_at x) lines rises.0)

pub own_lines_rise : (hosts : List HostName) (lines : List LogLine) (given : List Begun) (q i j : ℕ) (w v : Placed) (a b : ℕ) → Rises lines → ith (placed hosts lines given q) i ≡ Some w → ith (placed hosts lines given q) j ≡ Some v → i < j
    → w.item.line ≡ Some a → v.item.line ≡ Some b → a < b
own_lines_rise hosts lines given q i j w v a b rises w_is v_is less one other =
    pairs_at OwnLess (placed hosts lines given q) i j w v
    (pairs_append OwnLess (map at_head (heads_in (heads given q) hosts)) (flat_map (placed_by given q) lines) (pairs_none (map at_head (heads_in (heads given q) hosts)) (heads_none (heads given q) hosts)) (lines_pairs given q lines rises)
    (across_none (map at_head (heads_in (heads given q) hosts)) (flat_map (placed_by given q) lines) (heads_none (heads given q) hosts))) w_is v_is less a b one other
