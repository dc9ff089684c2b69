-- What a line of a chart's text may mean in each state, and its words.
use Rattle.std.proofs.Common.{◌≢◌, ℕ, ◌+◌, ◌<◌, List, [], ◌∷◌}
use Rattle.chart.specs.Keywords.{spelled}
use Rattle.chart.specs.declared.keyword.Keyword.TheVariants as keywords
use Rattle.chart.specs.Names.{IsName}
use Rattle.chart.specs.declared.line.TheConstants.{MAX_EVENTS}
use Rattle.msc_text.specs.ChartText.{chart_name}
use Rattle.msc_text.specs.Reader.LastWords.{semi}
use Rattle.msc_text.specs.Reader.Steps.{after_receive}
use Rattle.msc_text.specs.declared.reader.state.State.{State}
use Rattle.msc_text.specs.declared.reader.state.State.TheVariants as states
use Rattle.msc_text.specs.declared.reader.state.Region.{Region}
use Rattle.msc_text.specs.declared.reader.state.Region.TheVariants as regions
use Rattle.msc_text.specs.declared.reader.state.Saying.{Saying}
use Rattle.msc_text.specs.declared.reader.state.Saying.TheVariants as sayings

-- an event of the instance own, after this number of events
pub record IsEvent (own : List ℕ) (events : ℕ) (partner message : List ℕ) : Type 0 where
  pub partner_name : IsName partner
  pub message_name : IsName message
  pub other : partner ≢ own
  pub room : events < MAX_EVENTS

-- what a line may mean in a state, and the next state
pub data Moves : State → Saying → State → Type 0 where
  begins : Moves states.Start sayings.Begin states.Outside
  heads : {own : List ℕ} → IsName own → Moves states.Outside (sayings.Head own) (states.Inside own 0 regions.Closed)
  ends : Moves states.Outside sayings.End states.Done
  sends : {own to name : List ℕ} {events : ℕ} → IsEvent own events to name → Moves (states.Inside own events regions.Closed) (sayings.Send to name) (states.Inside own (events + 1) regions.Closed)
  receives : {own from name : List ℕ} {events : ℕ} {region : Region} → IsEvent own events from name → Moves (states.Inside own events region) (sayings.Receive from name) (states.Inside own (events + 1) (after_receive region))
  opens : {own : List ℕ} {events : ℕ} → Moves (states.Inside own events regions.Closed) sayings.Open (states.Inside own events regions.Empty)
  shuts : {own : List ℕ} {events : ℕ} → Moves (states.Inside own events regions.Held) sayings.Shut (states.Inside own events regions.Closed)
  leaves : {own : List ℕ} {events : ℕ} → Moves (states.Inside own events regions.Closed) sayings.Foot states.Outside

-- the words of a line with this meaning
abbrev pub saying_words : Saying → List (List ℕ)
saying_words sayings.Begin = spelled keywords.Msc ∷ semi chart_name ∷ []
saying_words (sayings.Head own) = spelled keywords.Instance ∷ semi own ∷ []
saying_words (sayings.Send to name) = spelled keywords.Out ∷ name ∷ spelled keywords.To ∷ semi to ∷ []
saying_words (sayings.Receive from name) = spelled keywords.In ∷ name ∷ spelled keywords.From ∷ semi from ∷ []
saying_words sayings.Open = semi (spelled keywords.Concurrent) ∷ []
saying_words sayings.Shut = semi (spelled keywords.EndConcurrent) ∷ []
saying_words sayings.Foot = semi (spelled keywords.EndInstance) ∷ []
saying_words sayings.End = semi (spelled keywords.EndMsc) ∷ []
