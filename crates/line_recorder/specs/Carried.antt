-- What the recorders of several instances know after a history, and the clocks that the messages of its lanes carry.
-- This is vector time (Fidge 1988, Mattern 1989) along a history of this project's profile.
use Rattle.std.specs.Prelude.{ℕ, ◌+◌, ◌==◌, List, [], ◌∷◌, ◌++◌, length, drop, replicate, if◌then◌else◌}
use Rattle.chart.specs.Words.{Instance, Clock}
use Rattle.chart.specs.declared.history.Occurrence.{Occurrence}
use Rattle.chart.specs.declared.history.Occurrence.TheVariants.{Send, Receive, Close}
use Rattle.chart.specs.Histories.{is_lane, received, chart_of}
use Rattle.clock.specs.Clocks.{with_entry, merged}

-- what each instance knows, and the clocks of the messages that were sent on each lane, the oldest first
pub record Carried : Type 0 where
  pub knowledge : ℕ → Clock
  pub clocks : ℕ → ℕ → List Clock

-- the first of these clocks
abbrev pub first_clock : List Clock → Clock
first_clock [] = []
first_clock (clock ∷ clocks) = clock

-- what is carried before the first event
abbrev pub nothing_carried : ℕ → Carried
nothing_carried n = record { knowledge = λ p. replicate n 0; clocks = λ q p. [] }

-- after p's send to q, which has this index on its line: the message carries what p knows then
abbrev pub carried_by_send : Carried → ℕ → ℕ → ℕ → Carried
carried_by_send w p q index = record {
  knowledge = λ r. if r == p then with_entry (w.knowledge r) r index else w.knowledge r;
  clocks = λ a b. if is_lane p q a b then w.clocks a b ++ with_entry (w.knowledge a) a index ∷ [] else w.clocks a b;
}

-- after p's receive of a message with this clock
abbrev pub carried_by_receive : Carried → Instance → Clock → Carried
carried_by_receive w p clock = record {
  knowledge = λ r. if r == p then merged (w.knowledge r) clock else w.knowledge r;
  clocks = w.clocks;
}

-- what is carried after the history, among n instances
abbrev pub carried : ℕ → List Occurrence → Carried
carried n [] = nothing_carried n
carried n (Send p q m ∷ h) = carried_by_send (carried n h) p q (length (chart_of h p) + 1)
carried n (Receive p q c ∷ h) =
    carried_by_receive (carried n h) p (first_clock (drop (received h q p) ((carried n h).clocks q p)))
carried n (Close p q ∷ h) = carried n h

-- what p knows
abbrev pub knowledge_of : ℕ → List Occurrence → ℕ → Clock
knowledge_of n h p = (carried n h).knowledge p

-- the clocks of the messages that q sent to p
abbrev pub clocks_of : ℕ → List Occurrence → ℕ → ℕ → List Clock
clocks_of n h q p = (carried n h).clocks q p

-- the clocks of the waiting messages from q to p
abbrev pub waiting_clocks : ℕ → List Occurrence → ℕ → ℕ → List Clock
waiting_clocks n h q p = drop (received h q p) (clocks_of n h q p)
