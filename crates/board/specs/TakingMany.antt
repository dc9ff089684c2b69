-- What a receive of several messages answers (this project's profile).
use Rattle.std.specs.Prelude.{◌≡◌, ℕ, ◌+◌, ◌-◌, ◌<◌, ◌≤◌, true, false, List, ◌++◌, length, map, replicate, All, Result, Ok, Err}
use Rattle.chart.specs.declared.history.Occurrence.{Occurrence}
use Rattle.chart.specs.declared.history.Occurrence.TheVariants.{Receive}
use Rattle.chart.specs.Messages.{Content}
use Rattle.chart.specs.Histories.{waiting, chart_of, Begins}
use Rattle.chart.specs.Reports.{IsReportIn}
use Rattle.board.specs.declared.answer.Arrival.{Arrival}
use Rattle.board.specs.declared.answer.Stop.{Stop}
use Rattle.board.specs.declared.answer.Stop.TheVariants.{Asked, NoMore, Refused}
use Rattle.board.specs.declared.answer.TakenMany.{TakenMany}
use Rattle.board.specs.declared.answer.TakenMany.TheVariants.{Got, Nothing, Ended}
use Rattle.board.specs.declared.error.TakeError.{TakeError}
use Rattle.board.specs.Views.{PostView, line_of, Makes, Stays, IsPartner}
use Rattle.board.specs.Sending.{numbered}
use Rattle.board.specs.Taking.{IsFoundEmpty, IsUntaken}

abbrev pub messages_of : List Arrival → List Content
messages_of arrivals = map (λ (arrival : Arrival). arrival.message) arrivals

-- the first messages that waited were received, in the open coregion, each with its report. The receives are the last
-- of all seen events, one directly after another. Each took a place of the room, while there was one
pub record AreGot (old : PostView) (from : ℕ) (arrivals : List Arrival) (new : PostView) : Type 0 where
  pub two : IsPartner old from
  pub some : 0 < length arrivals
  pub makes : (before : List Occurrence) × (rest : List Content)
      × Makes old before (replicate (length arrivals) (Receive new.number from old.region)) new
      × (waiting before from new.number ≡ messages_of arrivals ++ rest)
  pub senders : All (λ (arrival : Arrival). arrival.from ≡ from) arrivals
  pub receives : map (λ (arrival : Arrival). arrival.report.receive) arrivals
      ≡ numbered new.number (length (line_of old) + 1) (messages_of arrivals)
  pub reports : All (λ (arrival : Arrival). IsReportIn (chart_of new.seen) arrival.report) arrivals
  pub room : new.room ≡ old.room - length arrivals

-- exactly these messages waited after some history. It begins with what was seen before, and what is seen now begins
-- with it
pub record WereAll (old : PostView) (from : ℕ) (arrivals : List Arrival) (new : PostView) : Type 0 where
  pub front : (h : List Occurrence) × Begins old.seen h × Begins h new.seen
      × (waiting h from new.number ≡ messages_of arrivals)

-- why no more were received
abbrev pub Stops : PostView → ℕ → ℕ → List Arrival → Stop → PostView → Type 0
Stops old from most arrivals Asked new = length arrivals ≡ most
Stops old from most arrivals NoMore new = (length arrivals < most) × WereAll old from arrivals new
Stops old from most arrivals (Refused error) new = (length arrivals < most) × IsUntaken old from error new

-- what a receive of up to `most` messages from an instance answers
abbrev pub TakesMany : PostView → ℕ → ℕ → Result TakenMany TakeError → PostView → Type 0
TakesMany old from most (Ok (Got arrivals stop)) new = AreGot old from arrivals.items new
    × (length arrivals.items ≤ most) × Stops old from most arrivals.items stop new
TakesMany old from most (Ok Nothing) new = Stays old new × IsFoundEmpty old from false new
TakesMany old from most (Ok Ended) new = Stays old new × IsFoundEmpty old from true new
TakesMany old from most (Err error) new = Stays old new × IsUntaken old from error new
