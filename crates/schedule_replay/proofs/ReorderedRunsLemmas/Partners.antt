-- The partners and the names of the events of a possible chart.
use Rattle.std.proofs.Common.{◌≡◌, ℕ, suc, ◌+◌, ◌≤◌, ◌==◌, inl, inr, Bool, true, false, cond, List, [], ◌∷◌, length, count_by, Some, refl, sym, ap, ◌∙◌, subst, arith, eq-eqb}
use Rattle.std.proofs.Math.Path.{fun_ext}
use Rattle.std.proofs.lemmas.Option.{same_Some}
use Rattle.chart.specs.declared.history.Occurrence.{Occurrence}
use Rattle.chart.specs.declared.history.Occurrence.TheVariants as occurrences
use Rattle.chart.specs.declared.event.Event.{Event}
use Rattle.chart.specs.declared.event.Event.TheVariants.{Receive}
use Rattle.chart.specs.Messages.{Content}
use Rattle.chart.specs.Events.{ith, tally, is_send_to, is_receive_from, partner_of, name_of, send_event, receive_event}
use Rattle.chart.specs.Histories.{waiting, receive_of, line_gets, chart_of, MayFollow, IsLegal}
use Rattle.chart.specs.Charts.{Chart, Place, at, IsReceiveFrom, IsPossible}
use Rattle.chart.proofs.Tally.{ith_nil, ith_single, ith_from_append, same_from_tally, tally-append, tally_all}
use Rattle.chart.proofs.Belongs.{IsEvent-from_event}
use Rattle.chart.proofs.Growing.{GrowsTo, chart_event_grown, tally_grown, passes_grown}
use Rattle.chart.proofs.Lanes.{received_count, send_of_first}
use Rattle.chart.proofs.Sends.{HasItsSend, has_its_send}
use Rattle.closure.proofs.LinkLemmas.{tally_pass}

-- in a legal history the numbers of partners are at least 1
partner-first : (n k : ℕ) (h : List Occurrence) → IsLegal n k h → (p i : ℕ) (m : Event) → ith (chart_of h p) i ≡ Some m → 1 ≤ partner_of m
partner-first n k [] legal p i m is = absurd (ith_nil i m is)
partner-first n k (e ∷ h) legal p i m is =
    elim (ith_from_append (chart_of h p) (line_gets h p e) i m is) [
      | inl old ↦ partner-first n k h legal.1 p i m old
      | inr new ↦ gets e legal.0 new.0 new.2
    ]
  where
    gets : (x : Occurrence) → MayFollow n k h x → (j : ℕ) → ith (line_gets h p x) j ≡ Some m → 1 ≤ partner_of m
    gets (occurrences.Send a b x) may j found = go (a == p) found
      where
        go : (mine : Bool) → ith (cond mine (send_event b x.name ∷ []) []) j ≡ Some m → 1 ≤ partner_of m
        go true it = subst (λ z. 1 ≤ partner_of z) (ith_single (send_event b x.name) j m it).1 may.0.2
        go false it = absurd (ith_nil j m it)
    gets (occurrences.Receive a b c) may j found = go (waiting h b a) (a == p) found
      where
        go : (ms : List Content) (mine : Bool) → ith (cond mine (receive_of ms b c) []) j ≡ Some m → 1 ≤ partner_of m
        go [] true it = absurd (ith_nil j m it)
        go (x ∷ ms) true it = subst (λ z. 1 ≤ partner_of z) (ith_single (receive_event b x.name c) j m it).1 may.0.2
        go ms false it = absurd (ith_nil j m it)
    gets (occurrences.Close a b) may j found = absurd (ith_nil j m found)

-- up to the end of a history's line, the chart's line has as many events of a kind as the history's own line
pub tally_come : {c : Chart} (h : List Occurrence) → GrowsTo (chart_of h) c → (test : Event → Bool) (p : ℕ) → tally test (c p) (length (chart_of h p)) ≡ count_by test (chart_of h p)
tally_come h grows test p =
    let w = grows p in
    let all : length (chart_of h p) ≤ length (chart_of h p) = omega arith in
    ap (λ l. tally test l (length (chart_of h p))) w.1 ∙ tally-append test (chart_of h p) w.0 (length (chart_of h p)) all ∙ tally_all test (chart_of h p) (length (chart_of h p)) all

module _ (n : ℕ) (c : Chart) (possible : IsPossible n c) where
  -- in a possible chart too
  pub partner-begun : (p i : ℕ) (m : Event) → ith (c p) i ≡ Some m → 1 ≤ partner_of m
  partner-begun p i m is = partner-first n possible.1 possible.0 possible.2 p i m (ap (λ l. ith l i) (possible.3 p) ∙ is)

  -- in a possible chart each receive has its send
  its_send : (q : ℕ) (r : Place) → IsReceiveFrom c q r → HasItsSend c q r
  its_send q r from =
      subst (λ d. HasItsSend d q r) (fun_ext possible.3)
      (has_its_send n possible.1 possible.0 possible.2 q r (subst (λ d. IsReceiveFrom d q r) (sym (fun_ext possible.3)) from))

  -- the name of the first message that waits, if the next event of the line receives it
  pub first_named : (h : List Occurrence) (k : ℕ) → IsLegal n k h → GrowsTo (chart_of h) c → (q p : ℕ) (name : List ℕ) (region : ℕ) → ith (c p) (suc (length (chart_of h p))) ≡ Some (Receive q name region) → (x : Content) (rest : List Content) → waiting h q p ≡ x ∷ rest → x.name ≡ name
  first_named h k legal grows q p name region is x rest first =
      let r : Place = at p (suc (length (chart_of h p))) in
      let w = send_of_first h q p x rest first in
      let here = IsEvent-from_event (chart_of h) (at q w.0) (send_event p x.name) w.2 in
      let there = chart_event_grown (chart_of h) c grows (at q w.0) here ∙ w.2 in
      let turn = tally_grown (chart_of h) c grows (is_send_to p) (at q w.0) here ∙ w.1.1 in
      let from : IsReceiveFrom c q r = (Receive q name region, is, eq-eqb q q refl) in
      let its = its_send q r from in
      let got = tally_come h grows (is_receive_from q) p ∙ received_count n k h legal q p in
      let turn_r = tally_pass (is_receive_from q) (c p) (length (chart_of h p)) from ∙ ap (λ j. j + 1) got in
      let one = same_from_tally (is_send_to p) (c q) w.0 its.0 (passes_grown (chart_of h) c grows (is_send_to p) (at q w.0) w.1.0) its.3.sent (turn ∙ sym turn_r ∙ sym its.3.turn) in
      let a_same = same_Some its.1 (send_event p x.name) (sym its.4 ∙ ap (λ j. ith (c q) j) (sym one) ∙ there) in
      let b_same = same_Some its.2 (Receive q name region) (sym its.5 ∙ is) in
      ap name_of (sym a_same) ∙ its.6 ∙ ap name_of b_same
