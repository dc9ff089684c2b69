-- Lanes are first in, first out.
use Rattle.std.proofs.Common.{◌≡◌, ℕ, ◌≤◌, List, ◌++◌, None, map, sym, ap, ap₂, ◌∙◌, subst}
use Rattle.log_chart.specs.Begun.{begun}
use Rattle.log_chart.specs.BegunTables.{IsRising}
use Rattle.log_chart.specs.Fates.{fate_of, stays}
use Rattle.log_chart.specs.HostLines.{kept}
use Rattle.log_chart.specs.Laws.{AreOfLanes, sent_to, received_from, line_of}
use Rattle.log_chart.specs.Matching.{sends_from, matched}
use Rattle.log_chart.specs.NameOrder.{by_name}
use Rattle.log_chart.specs.declared.entry.Entry.{Entry}
use Rattle.log_chart.specs.declared.item.MessageNo.{MessageNo}
use Rattle.log_chart.specs.declared.item.MessageNo.TheVariants.{Sent, Begun as BegunMessage}
use Rattle.log_chart.proofs.LaneLists.{Taking, sends_of, staying_receives}
use Rattle.log_chart.proofs.StayingSends.{waiting_sends, sends_stay}
use Rattle.log_chart.proofs.BegunLanes.{behind_lane, begun_lane, sent_messages, received_messages, in_order}
use Rattle.log_chart.proofs.LogLanes.{Fits, sends_on, takes_on, sends_left, takes_left}
use Rattle.log_chart.proofs.GivenLanes.{given_on, given_lane, given_fits, heads_on}
use Rattle.log_chart.proofs.ItemLanes.{line_sent, line_received}
use Rattle.log_chart.proofs.NameOrderLemmas.{times_once}
use Rattle.log_chart.proofs.OrderLemmas.{matched_rises, kept_rises}
use Rattle.log_chart.proofs.TakenLanes.{stream_at, all_left, taken_apart, matched_fit, taken_logged, lane_rises, fits_some}

pub lane_in_order : (n : ℕ) (from to : ℕ → ℕ) (log : List Entry) → AreOfLanes from to log → (q p : ℕ) → 1 ≤ p → p ≤ n
    → (rest : List ℕ) × (sent_to p (line_of n log q) ≡ received_from q (line_of n log p) ++ map Sent rest)
lane_in_order n from to log lanes q p low high = (
  waiting_sends rs sends,
  line_sent f t (by_name n log) (kept log) (begun (kept log)) q p (times_once n p log low high) kept_fit (given_fits f t (λ a b. None) (kept log) kept_fit (λ a b s is. absurd (cc is)))
      ∙ ap₂ (λ (a b : List MessageNo). a ++ b) (ap (map BegunMessage) (heads_on q p (begun (kept log)) ∙ ap (behind_lane None) given)) (ap₂ sent_messages given stay)
      ∙ in_order None (staying_receives rs) (waiting_sends rs sends) (subst IsRising stay (lane_rises q p (kept log) (kept_rises log))) tt
      ∙ ap (λ l. received_messages l ++ map Sent (waiting_sends rs sends)) (sym taken)
      ∙ ap (λ l. l ++ map Sent (waiting_sends rs sends)) (sym (line_received (by_name n log) (kept log) (begun (kept log)) q p)),
)
  where
    f : ℕ → ℕ
    f s = from (stream_at log s)

    t : ℕ → ℕ
    t s = to (stream_at log s)

    fits : Fits (λ s. from (stream_at log s)) (λ s. to (stream_at log s)) (matched log)
    fits = matched_fit from to log lanes

    kept_fit : Fits (λ s. from (stream_at log s)) (λ s. to (stream_at log s)) (kept log)
    kept_fit = fits_some (λ s. from (stream_at log s)) (λ s. to (stream_at log s)) (λ x. stays (fate_of (matched log) x)) (matched log) fits

    rs : List Taking
    rs = takes_on q p (matched log)

    sends : List ℕ
    sends = sends_on q p (matched log)

    taken : takes_on q p (kept log) ≡ staying_receives (takes_on q p (matched log))
    taken = takes_left (λ s. from (stream_at log s)) (λ s. to (stream_at log s)) q p (matched log) fits (matched log) fits

    stay : sends_on q p (kept log) ≡ sends_of (staying_receives (takes_on q p (matched log))) ++ waiting_sends (takes_on q p (matched log)) (sends_on q p (matched log))
    stay = sends_left (λ s. from (stream_at log s)) (λ s. to (stream_at log s)) q p (matched log) fits (matched log) fits
        ∙ sends_stay (takes_on q p (matched log)) (sends_on q p (matched log)) (lane_rises q p (matched log) (matched_rises log)) (taken_apart (stream_at log) q p (sends_from 0 log) 0 log (all_left log))
        (λ s has. taken_logged from to log lanes q p s has)

    given : given_on q p (begun (kept log)) ≡ begun_lane None (staying_receives (takes_on q p (matched log)))
    given = given_lane (λ s. from (stream_at log s)) (λ s. to (stream_at log s)) q p (λ a b. None) (kept log) kept_fit ∙ ap (begun_lane None) taken
