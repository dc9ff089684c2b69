-- What comes before a receive, as a number for each line (over the order of Alur, Holzmann and Peled 1996, in this
-- project's profile).
use Rattle.std.specs.Prelude.{◌≡◌, ℕ, ◌≤◌, ◌↔◌, ◌⊎◌, length}
use Rattle.chart.specs.Words.{Counts}
use Rattle.chart.specs.Charts.{Chart, Place, IsReceiveFrom, BelongsTo}
use Rattle.chart.specs.Order.{Before}
use Rattle.closure.specs.Rows.{entry}
use Rattle.closure.specs.Searches.{IsReached, IsEarlierReceive}

-- For each of n lines, how many first events are the send of the receive r, or come before that send. Before r are
-- these events, and earlier receives of its line from its sender. The field `before` alone wouldn't determine a number
-- if such a receive comes directly after the first events.
pub record IsPast (n : ℕ) (c : Chart) (r : Place) (counts : Counts) : Type 0 where
  pub whole : length counts ≡ n
  pub reached : (s : Place) × BelongsTo c s r × IsReached c s counts
  pub before : (q : ℕ) → IsReceiveFrom c q r → (e : Place) → 1 ≤ e.index
      → Before c e r ↔ ((e.index ≤ entry counts e.instance) ⊎ IsEarlierReceive c q e r)

-- a receive has only one past
abbrev pub OnePastLaw : Type 0
OnePastLaw = (n : ℕ) (c : Chart) (r : Place) (a b : Counts) → IsPast n c r a → IsPast n c r b → a ≡ b
