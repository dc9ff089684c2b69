-- One lane of a log, as lists: the numbers of its sends, and the numbers of its receives with the sends that they take.
use Rattle.std.proofs.Common.{◌≡◌, ℕ, ◌⊎◌, cond, List, [], ◌∷◌, Option, None, Some, filter}
use Rattle.std.specs.Prelude.{unwrap_or}
use Rattle.log_chart.specs.Fates.{earlier, later_one, overtaking, unreceived, is_sent_at, stays}
use Rattle.log_chart.specs.declared.fate.Fate.{Fate}
use Rattle.log_chart.specs.declared.fate.Fate.TheVariants.{Stays}

-- a receive: its number, and the send that it takes
pub record Taking : Type 0 where
  pub number : ℕ
  pub send : Option ℕ

-- the sends that these receives take
abbrev pub with_send : Option ℕ → List ℕ → List ℕ
with_send None sends = sends
with_send (Some s) sends = s ∷ sends

abbrev pub sends_of : List Taking → List ℕ
sends_of [] = []
sends_of (r ∷ rs) = with_send r.send (sends_of rs)

abbrev pub lane_first : List Taking → Option ℕ
lane_first [] = None
lane_first (r ∷ rs) = earlier r.send (lane_first rs)

abbrev pub lane_last : List Taking → Option ℕ
lane_last [] = None
lane_last (r ∷ rs) = later_one r.send (lane_last rs)

abbrev pub lane_fate : ℕ → List Taking → Option Fate
lane_fate s [] = None
lane_fate s (r ∷ rs) = cond (is_sent_at s r.send) (Some (overtaking (lane_first rs) s)) (lane_fate s rs)

-- the fate of a receive with this send, and of a send
abbrev pub taken_fate : List Taking → Option ℕ → Fate
taken_fate rs None = Stays
taken_fate rs (Some s) = unwrap_or (lane_fate s rs) Stays

abbrev pub sent_fate : List Taking → ℕ → Fate
sent_fate rs s = unwrap_or (lane_fate s rs) (unreceived s (lane_last rs))

abbrev pub staying_receives : List Taking → List Taking
staying_receives rs = filter (λ r. stays (taken_fate rs r.send)) rs

abbrev pub staying_sends : List Taking → List ℕ → List ℕ
staying_sends rs sends = filter (λ s. stays (sent_fate rs s)) sends

-- the number is in a list
abbrev pub Has : List ℕ → ℕ → Type 0
Has [] s = ⊥
Has (x ∷ xs) s = (x ≡ s) ⊎ Has xs s

-- no two receives take the same send
abbrev pub IsApart : Option ℕ → List ℕ → Type 0
IsApart None xs = Unit {0}
IsApart (Some s) xs = Has xs s → ⊥

abbrev pub AreApart : List Taking → Type 0
AreApart [] = Unit {0}
AreApart (r ∷ rs) = IsApart r.send (sends_of rs) × AreApart rs
