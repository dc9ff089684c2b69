-- What the sends of a line know, found by one search.
use Rattle.std.proofs.Common.{◌≡◌, ℕ, suc, ◌-◌, ◌<◌, List, length, replicate, Some, refl, sym, subst, arith}
use Rattle.std.specs.Prelude.{slice_index}
use Rattle.chart.specs.Events.{is_send_to}
use Rattle.chart.specs.Charts.{Chart, Place, at, LineView, IsSendTo, BelongsTo, chart_lines}
use Rattle.chart.specs.Knowing.{IsUpTo, IsKnown}
use Rattle.chart.proofs.Belongs.{IsEvent-from_passes, not_both, one_receiver}
use Rattle.chart.proofs.Counts.{count_from_front}
use Rattle.closure.specs.Rows.{entry, value_at, AreRows}
use Rattle.closure.specs.Searches.{IsReached, IsSearch, IsSearchAfter, IsKnowledge}
use Rattle.closure.proofs.RowLemmas.{AreRows-at}
use Rattle.closure.proofs.SearchLemmas.{IsSearch-none, IsSearch-later, front_within}

-- a search that has reached nothing serves each send
pub IsSearchAfter-none : (c : Chart) (n p k : ℕ) → IsSearchAfter c n p k (replicate n 0) (replicate n 0)
IsSearchAfter-none c n p k i le sends = IsSearch-none c n (at (suc p) (suc i))

-- a search for a send serves the later ones
pub IsSearchAfter-reached : (c : Chart) (n p k : ℕ) (fronts seen : List ℕ) → IsSearch c n (at (suc p) (suc k)) fronts seen → IsSearchAfter c n p (suc k) fronts seen
IsSearchAfter-reached c n p k fronts seen search i le sends = IsSearch-later c n (at (suc p) (suc k)) (at (suc p) (suc i)) fronts seen (record { line = refl; begun = omega arith; less = omega arith }) sends search

-- a search for the sends from here on serves those further on
pub IsSearchAfter-more : (c : Chart) (n p k : ℕ) (fronts seen : List ℕ) → IsSearchAfter c n p k fronts seen → IsSearchAfter c n p (suc k) fronts seen
IsSearchAfter-more c n p k fronts seen search i le sends = search i (omega arith) sends

-- the front of a line is what is known of it
pub IsKnown-from_reached : (c : Chart) (n : ℕ) (s : Place) (fronts seen : List ℕ) (p : ℕ) → IsSearch c n s fronts seen → IsReached c s fronts → IsKnown c s p (entry fronts p)
IsKnown-from_reached c n s fronts seen p search reached = count_from_front (λ j. IsUpTo c s (at p j)) (length (c p)) (entry fronts p) (front_within c n s fronts seen p search) (λ j low high. reached (at p j) low)

-- of the receiver's line
pub IsKnowledge-from_reached : (c : Chart) (n : ℕ) (s : Place) (fronts seen : List ℕ) (q k : ℕ) → IsSendTo c (suc q) s → IsSearch c n s fronts seen → IsReached c s fronts → k ≡ slice_index fronts q → IsKnowledge c s k
IsKnowledge-from_reached c n s fronts seen q k sends search reached is x to_x =
    subst (λ y. IsKnown c s y k) (one_receiver c (suc q) x s sends to_x) (subst (λ y. IsKnown c s (suc q) y) (sym is) (IsKnown-from_reached c n s fronts seen (suc q) search reached))

-- any number is right for a receive
pub IsKnowledge-receive : (c : Chart) (s r : Place) (k : ℕ) → BelongsTo c s r → IsKnowledge c r k
IsKnowledge-receive c s r k belongs q sends = absurd (not_both c q s.instance r sends belongs.received)

-- what the send of a receive knows of the receive's line
pub known_entry : (lines : List LineView) (rows : List (List ℕ)) → AreRows (IsKnowledge (chart_lines lines)) (chart_lines lines) (length lines) rows → (q j : ℕ) (r : Place) (k : ℕ) → q < length lines → BelongsTo (chart_lines lines) (at (suc q) j) r → value_at rows q (j - 1) ≡ Some k → IsKnown (chart_lines lines) (at (suc q) j) r.instance k
known_entry lines rows known q j r k q_in belongs is =
    let event = IsEvent-from_passes (chart_lines lines) (is_send_to r.instance) (at (suc q) j) belongs.sent in
    let e : suc (j - 1) ≡ j = omega (arith, event.0) in
    let right = AreRows-at (IsKnowledge (chart_lines lines)) (chart_lines lines) (length lines) rows q (j - 1) k known q_in is in
    subst (λ i. IsKnowledge (chart_lines lines) (at (suc q) i) k) e right r.instance belongs.sent
