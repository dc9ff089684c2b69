-- Searching backwards from a send: for each line the last send that is this send or before it. The order is that of
-- Alur, Holzmann and Peled 1996, in this project's profile.
use Rattle.std.specs.Prelude.{◌≡◌, ℕ, suc, ◌+◌, ◌<◌, ◌≤◌, ◌↔◌, ◌⊎◌, List, length, slice_index}
use Rattle.chart.specs.Words.{Counts}
use Rattle.chart.specs.Charts.{Chart, Place, at, LineView, IsSendTo, IsReceiveFrom, BelongsTo, chart_lines}
use Rattle.chart.specs.Order.{IsEarlier}
use Rattle.chart.specs.Knowing.{IsUpTo, IsKnown}
use Rattle.closure.specs.Rows.{entry, AreRows}

-- the event at s is a send
abbrev pub IsSend : Chart → Place → Type 0
IsSend c s = (q : ℕ) × IsSendTo c q s

-- the first events of each line, up to its front, are the send s or before it
abbrev pub IsReached : Chart → Place → Counts → Type 0
IsReached c s fronts = (e : Place) → 1 ≤ e.index → IsUpTo c s e ↔ (e.index ≤ entry fronts e.instance)

-- each front is 0, or a send that is s or before it; this many events of each line were seen, and the sends of the
-- receives among these are within the fronts
pub record IsSearch (c : Chart) (n : ℕ) (s : Place) (fronts seen : Counts) : Type 0 where
  pub fronts_whole : length fronts ≡ n
  pub seen_whole : length seen ≡ n
  pub sound : (p : ℕ) → (entry fronts p ≡ 0) ⊎ (IsSend c (at p (entry fronts p)) × IsUpTo c s (at p (entry fronts p)))
  pub behind : (p : ℕ) → entry seen p ≤ entry fronts p
  pub followed : (t r : Place) → BelongsTo c t r → r.index ≤ entry seen r.instance → t.index ≤ entry fronts t.instance

-- all events before the fronts were seen; the fronts themselves are sends
abbrev pub AreSeen : Counts → Counts → Type 0
AreSeen fronts seen = (p : ℕ) → p < length fronts → slice_index fronts p ≤ slice_index seen p + 1

-- no front became smaller
abbrev pub HaveGrown : Counts → Counts → Type 0
HaveGrown fronts after = (p : ℕ) → entry fronts p ≤ entry after p

-- e is an earlier receive of r's line, from this sender
abbrev pub IsEarlierReceive : Chart → ℕ → Place → Place → Type 0
IsEarlierReceive c q e r = IsEarlier e r × IsReceiveFrom c q e

-- the search can go on for each send of the line at p after its first k events
abbrev pub IsSearchAfter : Chart → ℕ → ℕ → ℕ → Counts → Counts → Type 0
IsSearchAfter c n p k fronts seen = (i : ℕ) → k ≤ i → IsSend c (at (suc p) (suc i))
    → IsSearch c n (at (suc p) (suc i)) fronts seen

-- if s is a send, it knows k events of its receiver's line
abbrev pub IsKnowledge : Chart → Place → ℕ → Type 0
IsKnowledge c s k = (q : ℕ) → IsSendTo c q s → IsKnown c s q k

-- what each send of the chart with these lines knows of its receiver's line
abbrev pub HasKnowledge : List LineView → List Counts → Type 0
HasKnowledge lines known = AreRows (IsKnowledge (chart_lines lines)) (chart_lines lines) (length lines) known
