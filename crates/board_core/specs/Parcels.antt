-- What passes through the lanes of a board: messages, each with the clock of its send (vector time: after Fidge 1988
-- and Mattern 1989). What the lanes carry is a function of the history (this project's profile).
use Rattle.std.specs.Prelude.{ℕ, ◌+◌, List, [], ◌∷◌, ◌++◌, length, map, if◌then◌else◌}
use Rattle.chart.specs.Words.{Name, Clock}
use Rattle.chart.specs.declared.history.Occurrence.{Occurrence}
use Rattle.chart.specs.declared.history.Occurrence.TheVariants.{Send, Receive, Close}
use Rattle.chart.specs.Messages.{Content}
use Rattle.chart.specs.Histories.{is_lane, chart_of}
use Rattle.clock.specs.Clocks.{with_entry}
use Rattle.line_recorder.specs.Carried.{knowledge_of}

-- a message, and the clock of its send
pub record Parcel : Type 0 where
  pub message : Content
  pub clock : Clock

-- the names of the messages of these parcels
abbrev pub names : List Parcel → List Name
names parcels = map (λ (x : Parcel). x.message.name) parcels

-- their clocks
abbrev pub clocks : List Parcel → List Clock
clocks parcels = map (λ (x : Parcel). x.clock) parcels

-- the clock of p's next event, if it is a send: what p knows then, with this event itself
abbrev pub next_clock : ℕ → List Occurrence → ℕ → Clock
next_clock n h p = with_entry (knowledge_of n h p) p (length (chart_of h p) + 1)

-- the parcels that q sent to p, in order
abbrev pub goods : ℕ → List Occurrence → ℕ → ℕ → List Parcel
goods n [] q p = []
goods n (Send a b m ∷ h) q p =
    if is_lane a b q p then goods n h q p ++ record { message = m; clock = next_clock n h a } ∷ [] else goods n h q p
goods n (Receive a b c ∷ h) q p = goods n h q p
goods n (Close a b ∷ h) q p = goods n h q p
