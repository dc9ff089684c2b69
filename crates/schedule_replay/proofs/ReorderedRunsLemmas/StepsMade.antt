-- The events that the steps of a legal history make.
use Rattle.std.proofs.Common.{◌≡◌, ◌≢◌, ℕ, ◌+◌, ◌<◌, List, [], ◌∷◌, length, take, Some, refl, sym, ap, ◌∙◌, arith}
use Rattle.std.specs.Prelude.{slice_get}
use Rattle.std.proofs.lemmas.List.{length_push}
use Rattle.chart.specs.declared.history.Occurrence.{Occurrence}
use Rattle.chart.specs.declared.history.Occurrence.TheVariants as occurrences
use Rattle.chart.specs.Events.{send_event, receive_event}
use Rattle.chart.specs.Messages.{Content}
use Rattle.chart.specs.Histories.{by, waiting, chart_of, IsLegal}
use Rattle.chart.specs.Charts.{IsReceiveFrom}
use Rattle.chart.proofs.Begun.{legal_begun}
use Rattle.chart.proofs.Belongs.{not_both}
use Rattle.chart.proofs.Sends.{line_after_send, line_after_receive}
use Rattle.chart.proofs.Steps.{line_of_other}
use Rattle.reordering.proofs.OtherRunsLemmas.Newest.{newest_send}
use Rattle.chart.specs.declared.run_steps.step.Step.{Step}
use Rattle.chart.specs.declared.run_steps.step.Step.TheVariants.{Send, Receive}
use Rattle.chart.specs.RunSteps.Steps.{occurrence_of, history_of, maker_of, place_after, IsReceive}
use Rattle.chart.proofs.RunStepsLemmas.StepLemmas.{history-next}
use Rattle.reordering.proofs.WitnessLemmas.FoundLemmas.{begins-at}

-- the maker of a step is the instance of its occurrence
pub by-step : (x : Step) → by (occurrence_of x) ≡ maker_of x
by-step (Send a b name) = refl
by-step (Receive a b region) = refl

-- each step of a legal history makes one event of its maker's line
line-grows : (n k : ℕ) (h : List Occurrence) (x : Step) → IsLegal n k (occurrence_of x ∷ h) → length (chart_of (occurrence_of x ∷ h) (maker_of x)) ≡ length (chart_of h (maker_of x)) + 1
line-grows n k h (Send a b name) legal =
    let m : Content = record { name = name; body = [] } in
    ap length (line_after_send h a b m) ∙ length_push (chart_of h a) (send_event b name)
line-grows n k h (Receive a b region) legal = go (waiting h b a) refl legal.0.1
  where
    go : (ms : List Content) → waiting h b a ≡ ms → 0 < length ms → length (chart_of (occurrences.Receive a b region ∷ h) a) ≡ length (chart_of h a) + 1
    go [] none some = absurd (omega arith)
    go (m ∷ rest) first some = ap length (line_after_receive h a b region m rest first) ∙ length_push (chart_of h a) (receive_event b m.name region)

module _ (n k : ℕ) (steps : List Step) (legal : IsLegal n k (history_of steps)) (i : ℕ) (x : Step) (is : slice_get steps i ≡ Some x) where
  pub made-own : length (chart_of (history_of (take (i + 1) steps)) (maker_of x)) ≡ length (chart_of (history_of (take i steps)) (maker_of x)) + 1
  made-own =
      ap (λ h. length (chart_of h (maker_of x))) (history-next steps i x is) ∙ line-grows n k (history_of (take i steps)) x (legal_begun n k (occurrence_of x ∷ history_of (take i steps)) (history_of steps) (begins-at steps i x is) legal)

  pub made-other : (p : ℕ) → maker_of x ≢ p → length (chart_of (history_of (take (i + 1) steps)) p) ≡ length (chart_of (history_of (take i steps)) p)
  made-other p other = ap (λ h. length (chart_of h p)) (history-next steps i x is) ∙ ap length (line_of_other (history_of (take i steps)) (occurrence_of x) p (λ same. other (sym (by-step x) ∙ same)))

-- a step that makes a receive is a receive
pub receive-by : (steps : List Step) (i q : ℕ) (x : Step) → slice_get steps i ≡ Some x → IsReceiveFrom (chart_of (history_of steps)) q (place_after steps i x) → IsReceive steps i
receive-by steps i q (Send a b name) is from =
    let m : Content = record { name = name; body = [] } in
    let its = newest_send (history_of (take i steps)) (history_of steps) a b m (begins-at steps i (Send a b name) is) in
    absurd (not_both (chart_of (history_of steps)) b q (place_after steps i (Send a b name)) its.0 from)
receive-by steps i q (Receive a b region) is from = (a, b, region, is)
