-- What one more occurrence adds to a legal history's chart: what a new send knows, what a new receive hears and
-- reports.
use Rattle.std.proofs.Common.{◌≡◌, ℕ, ◌+◌, inl, cond, max, List, [], ◌∷◌, ◌++◌, take, length, refl, sym, ap, ◌∙◌, subst, arith, append-nil, ne_eqb}
use Rattle.std.proofs.lemmas.List.{length_push, take_at}
use Rattle.chart.specs.declared.history.Occurrence.{Occurrence}
use Rattle.chart.specs.declared.history.Occurrence.TheVariants.{Send, Receive, Close}
use Rattle.chart.specs.Messages.{Content}
use Rattle.chart.specs.Events.{ith, is_send_to, send_event, receive_event}
use Rattle.chart.specs.Histories.{by, received, waiting, receive_of, chart_of, IsLegal}
use Rattle.chart.specs.Charts.{at, BelongsTo}
use Rattle.chart.specs.Places.{IsSendAfter}
use Rattle.chart.specs.Order.{AreLineRaces, IsReport, region_of_event}
use Rattle.chart.specs.Knowing.{IsKnown, IsGreatestHeard}
use Rattle.chart.proofs.Tally.{ith_push}
use Rattle.chart.proofs.Belongs.{IsEvent-from_passes}
use Rattle.chart.proofs.Knowledge.{known_own, known_other, heard_from_send, heard_at_send}
use Rattle.chart.proofs.Reports.{report_from_races}
use Rattle.chart.proofs.Growing.{known_grown, heard_grown}
use Rattle.chart.proofs.Lanes.{newest_is_send}
use Rattle.chart.proofs.Sends.{grows_by_event, line_after_send, line_after_receive, newest_belongs, sends_of}

-- an occurrence of another instance leaves a line as it is
pub line_of_other : (h : List Occurrence) (e : Occurrence) (p : ℕ) → (by e ≡ p → ⊥) → chart_of (e ∷ h) p ≡ chart_of h p
line_of_other h (Send a b x) p differs = ap (λ mine. chart_of h p ++ cond mine (send_event b x.name ∷ []) []) (ne_eqb a p differs) ∙ append-nil (chart_of h p)
line_of_other h (Receive a b c) p differs = ap (λ mine. chart_of h p ++ cond mine (receive_of (waiting h b a) b c) []) (ne_eqb a p differs) ∙ append-nil (chart_of h p)
line_of_other h (Close a b) p differs = append-nil (chart_of h p)

-- a close leaves each line as it is
pub line_after_close : (h : List Occurrence) (p q r : ℕ) → chart_of (Close p q ∷ h) r ≡ chart_of h r
line_after_close h p q r = append-nil (chart_of h r)

-- a new send knows all events of its own line, including itself
pub new_send_knows_own : (h : List Occurrence) (p q : ℕ) (x : Content) → IsKnown (chart_of (Send p q x ∷ h)) (at p (length (chart_of h p) + 1)) p (length (chart_of h p) + 1)
new_send_knows_own h p q x = known_own (chart_of (Send p q x ∷ h)) q p (length (chart_of h p) + 1) (newest_is_send h p q x).0 (inl (ap length (line_after_send h p q x) ∙ length_push (chart_of h p) (send_event q x.name)))

module _ (n k : ℕ) (h : List Occurrence) (legal : IsLegal n k h) where
  -- the greatest heard of the earlier events of a line stays the same with a new event
  still_heard : (e : Occurrence) (p r m : ℕ) → IsGreatestHeard (chart_of h) p (length (chart_of h p)) r m → IsGreatestHeard (chart_of (e ∷ h)) p (length (chart_of h p)) r m
  still_heard e p r m heard = heard_grown (chart_of h) (chart_of (e ∷ h)) (grows_by_event h e) (sends_of n k h legal) p (length (chart_of h p)) r m (omega arith) heard

  -- a new send knows of another line the greatest heard of it
  pub new_send_knows_other : (p q : ℕ) (x : Content) (r m : ℕ) → (r ≡ p → ⊥) → IsGreatestHeard (chart_of h) p (length (chart_of h p)) r m → IsKnown (chart_of (Send p q x ∷ h)) (at p (length (chart_of h p) + 1)) r m
  new_send_knows_other p q x r m other heard = known_other (chart_of (Send p q x ∷ h)) q p (length (chart_of h p)) r m (newest_is_send h p q x).0 other (still_heard (Send p q x) p r m heard)

  -- a new send hears nothing
  pub new_send_hears : (p q : ℕ) (x : Content) (r m : ℕ) → IsGreatestHeard (chart_of h) p (length (chart_of h p)) r m → IsGreatestHeard (chart_of (Send p q x ∷ h)) p (length (chart_of h p) + 1) r m
  new_send_hears p q x r m heard = heard_at_send (chart_of (Send p q x ∷ h)) q p (length (chart_of h p)) r m (still_heard (Send p q x) p r m heard) (newest_is_send h p q x).0

  module _ (p q c : ℕ) (x : Content) (rest : List Content) (first : waiting h q p ≡ x ∷ rest) (j : ℕ) (sends : IsSendAfter (chart_of h q) p (received h q p) j) where
    -- the receive belongs to that send
    belongs : BelongsTo (chart_of (Receive p q c ∷ h)) (at q j) (at p (length (chart_of h p) + 1))
    belongs = newest_belongs n k h legal p q c x rest first j sends

    -- the send knows what it knew
    known : (r m : ℕ) → IsKnown (chart_of h) (at q j) r m → IsKnown (chart_of (Receive p q c ∷ h)) (at q j) r m
    known r m = known_grown (chart_of h) (chart_of (Receive p q c ∷ h)) (grows_by_event h (Receive p q c)) (sends_of n k h legal) (at q j) r m (IsEvent-from_passes (chart_of h) (is_send_to p) (at q j) sends.0)

    -- a new receive hears what the send of the first message that waited knows
    pub new_receive_hears : (r l m : ℕ) → IsGreatestHeard (chart_of h) p (length (chart_of h p)) r l → IsKnown (chart_of h) (at q j) r m → IsGreatestHeard (chart_of (Receive p q c ∷ h)) p (length (chart_of h p) + 1) r (max l m)
    new_receive_hears r l m heard knows = heard_from_send (chart_of (Receive p q c ∷ h)) (at q j) p (length (chart_of h p)) r l m (still_heard (Receive p q c) p r l heard) belongs (known r m knows)

    -- its report is the races of the line later than what that send knows of it
    pub new_receive_reports : (m : ℕ) (races : List ℕ) → IsKnown (chart_of h) (at q j) p m → AreLineRaces (chart_of h p) m q c races → IsReport (chart_of (Receive p q c ∷ h)) (at p (length (chart_of h p) + 1)) races
    new_receive_reports m races knows above =
        let line_event = receive_event q x.name c in
        let line = line_after_receive h p q c x rest first in
        let front = ap (λ l. take (length (chart_of h p)) l) line ∙ take_at (chart_of h p) (line_event ∷ []) (length (chart_of h p)) refl in
        let region = ap (λ l. region_of_event (ith l (length (chart_of h p) + 1))) line ∙ ap region_of_event (ith_push (chart_of h p) line_event) in
        report_from_races (chart_of (Receive p q c ∷ h)) (at q j) p (length (chart_of h p)) m c races belongs region (known p m knows) (subst (λ l. AreLineRaces l m q c races) (sym front) above)
