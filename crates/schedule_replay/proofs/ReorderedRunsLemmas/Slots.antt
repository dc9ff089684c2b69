-- More slots allow what fewer do, and no more are needed than the most events of a line.
use Rattle.std.proofs.Common.{◌≡◌, ℕ, ◌+◌, ◌<◌, ◌≤◌, ◌^◌, List, [], ◌∷◌, length, ◌⊎◌, inl, inr, subst, sym, arith, length-drop}
use Rattle.std.proofs.lemmas.List.Sums.{count_by-le-length}
use Rattle.chart.specs.declared.history.Occurrence.{Occurrence}
use Rattle.chart.specs.declared.history.Occurrence.TheVariants.{Send, Receive, Close}
use Rattle.chart.specs.declared.line.TheConstants.{MAX_EVENTS}
use Rattle.chart.specs.Events.{is_send_to, is_receive_from}
use Rattle.chart.specs.Histories.{sent, received, chart_of, IsLegal}
use Rattle.chart.specs.Charts.{Chart, Place, IsPossible}
use Rattle.chart.proofs.Lanes.{sent_count, received_count}
use Rattle.reordering.specs.OtherRuns.OtherRuns.{HasCome, IsRunWithin, BeforeWithin, IsPossibleWithin, CanBeOvertaken, CanBeOvertakenWithin}
use Rattle.reordering.proofs.OtherRunsLemmas.Counted.{acts_legal}
use Rattle.reordering.proofs.OtherRunsLemmas.Slots.{order_within}

-- a history that is legal over lanes of k slots is legal over lanes of more
pub legal-more : (n k l : ℕ) → k ≤ l → (h : List Occurrence) → IsLegal n k h → IsLegal n l h
legal-more n k l le [] legal = tt
legal-more n k l le (Send a b m ∷ h) legal =
    let free = legal.0.2 in
    ((legal.0.0, legal.0.1, omega (arith, le, free), legal.0.3), legal-more n k l le h legal.1)
legal-more n k l le (Receive a b c ∷ h) legal = (legal.0, legal-more n k l le h legal.1)
legal-more n k l le (Close a b ∷ h) legal = (legal.0, legal-more n k l le h legal.1)

-- no more messages wait than were sent, and no more were sent than a line has events
pub legal-most : (n k : ℕ) (h : List Occurrence) → IsLegal n k h → IsLegal n MAX_EVENTS h
legal-most n k [] legal = tt
legal-most n k (Send a b m ∷ h) legal =
    let waits = length-drop (received h a b) (sent h a b) in
    let many = count_by-le-length (is_send_to b) (chart_of h a) in
    let room = legal.0.3 in
    ((legal.0.0, legal.0.1, omega (arith, waits, many, sent_count h a b, room), legal.0.3), legal-most n k h legal.1)
legal-most n k (Receive a b c ∷ h) legal = (legal.0, legal-most n k h legal.1)
legal-most n k (Close a b ∷ h) legal = (legal.0, legal-most n k h legal.1)

-- the numbers of messages sent and received on each lane are within 64 bits
pub lanes-short : (n k : ℕ) (h : List Occurrence) → IsLegal n k h → (q p : ℕ) → (length (sent h q p) + 1 < 2 ^ 64) × (received h q p + 1 < 2 ^ 64)
lanes-short n k h legal q p =
    let from = acts_legal n k h legal q in
    let to = acts_legal n k h legal p in
    let sends = count_by-le-length (is_send_to p) (chart_of h q) in
    let receives = count_by-le-length (is_receive_from q) (chart_of h p) in
    (omega (arith, from.0, from.1, sends, sent_count h q p), omega (arith, to.0, to.1, receives, received_count n k h legal q p))

-- a possible chart is possible with as many slots as the most events of a line
pub possible-most : (n : ℕ) (c : Chart) → IsPossible n c → IsPossibleWithin n MAX_EVENTS c
possible-most n c (h, k, legal, same) = (h, legal-most n k h legal, same)

pub possible-more : (n k l : ℕ) (c : Chart) → k ≤ l → IsPossibleWithin n k c → IsPossibleWithin n l c
possible-more n k l c le (h, legal, same) = (h, legal-more n k l le h legal, same)

-- a run over k slots is a run over more
pub run-more : (n k l : ℕ) (c : Chart) (g : List Occurrence) → k ≤ l → IsRunWithin n k c g → IsRunWithin n l c g
run-more n k l c g le run = record { legal = legal-more n k l le g run.legal; events = run.events; causes = run.causes }

pub overtaken-more : (n k l : ℕ) (c : Chart) (e r : Place) → k ≤ l → CanBeOvertakenWithin n k c e r → CanBeOvertakenWithin n l c e r
overtaken-more n k l c e r le (g, run, over) = (g, run-more n k l c g le run, over)

-- if no run with as many slots as the most events of a line reverses the pair, none does
pub overtaken-most : (n : ℕ) (c : Chart) (e r : Place) → CanBeOvertaken n c e r → CanBeOvertakenWithin n MAX_EVENTS c e r
overtaken-most n c e r (g, (k, run), over) =
    (g, record { legal = legal-most n k g run.legal; events = run.events; causes = run.causes }, over)

-- r, and an event before r, are overtaken by r in no run
pub never_overtaken : (n k : ℕ) (c : Chart) (e r : Place) → (e ≡ r) ⊎ BeforeWithin k c e r → CanBeOvertakenWithin n k c e r → ⊥
never_overtaken n k c e r (inl same) (g, run, (h, begins, come, not)) = not (subst (HasCome c h) (sym same) come)
never_overtaken n k c e r (inr before) (g, run, (h, begins, come, not)) = not (order_within n k c g run h begins before come)
