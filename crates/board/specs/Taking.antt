-- What a receive answers (this project's profile, after ITU-T Z.120).
use Rattle.std.specs.Prelude.{◌≡◌, ℕ, ◌-◌, ◌<◌, Bool, true, false, List, [], ◌∷◌, length, Result, Ok, Err}
use Rattle.chart.specs.declared.history.Occurrence.{Occurrence}
use Rattle.chart.specs.declared.history.Occurrence.TheVariants.{Receive}
use Rattle.chart.specs.declared.line.TheConstants.{MAX_EVENTS}
use Rattle.chart.specs.Messages.{Content}
use Rattle.chart.specs.Histories.{waiting, is_closed, chart_of}
use Rattle.chart.specs.Reports.{IsReportIn}
use Rattle.board_table.specs.Layout.{LaneView}
use Rattle.board.specs.declared.answer.Arrival.{Arrival}
use Rattle.board.specs.declared.answer.Taken.{Taken}
use Rattle.board.specs.declared.answer.Taken.TheVariants.{Got, Nothing, Ended}
use Rattle.board.specs.declared.error.TakeError.{TakeError}
use Rattle.board.specs.declared.error.TakeError.TheVariants.{NoSuchInstance, ToItself, LineFull, Memory}
use Rattle.board.specs.Views.{PostView, line_of, last_event, Makes, Stays, IsPartner}

-- the lane is the one from another instance to the post
pub record IsLaneFrom (post : PostView) (from : ℕ) (lane : LaneView) : Type 0 where
  pub two : IsPartner post from
  pub is : lane ≡ record {
    instances = post.board.size;
    capacity = post.board.capacity;
    sender = from;
    receiver = post.number;
  }

-- the first message that waited was received, in the open coregion and with its report. The receive is the last of all
-- seen events. It took a place of the room, if there was one
pub record IsGot (old : PostView) (from : ℕ) (arrival : Arrival) (new : PostView) : Type 0 where
  pub two : IsPartner old from
  pub makes : (before : List Occurrence) × (rest : List Content)
      × Makes old before (Receive new.number from old.region ∷ []) new
      × (waiting before from new.number ≡ arrival.message ∷ rest)
  pub sender : arrival.from ≡ from
  pub receive : arrival.report.receive ≡ last_event new
  pub report : IsReportIn (chart_of new.seen) arrival.report
  pub room : new.room ≡ old.room - 1

-- a look found that no message waits on the lane, which is closed or not; none waited in what was seen
pub record IsFoundEmpty (old : PostView) (from : ℕ) (its_end : Bool) (new : PostView) : Type 0 where
  pub two : IsPartner old from
  pub waits : waiting new.seen from new.number ≡ []
  pub closed : is_closed new.seen from new.number ≡ its_end
  pub before : waiting old.seen from old.number ≡ []
  pub looked : old.looks < new.looks

-- a message waits
pub record Waits (old : PostView) (from : ℕ) (new : PostView) : Type 0 where
  pub two : IsPartner old from
  pub waits : 0 < length (waiting new.seen from new.number)

-- why no message is received
abbrev pub IsUntaken : PostView → ℕ → TakeError → PostView → Type 0
IsUntaken old from NoSuchInstance new = old.board.size < from
IsUntaken old from ToItself new = from ≡ old.number
IsUntaken old from LineFull new = Waits old from new × (length (line_of new) ≡ MAX_EVENTS)
IsUntaken old from Memory new = Waits old from new × (length (line_of new) < MAX_EVENTS)

-- what a receive from an instance answers
abbrev pub Takes : PostView → ℕ → Result Taken TakeError → PostView → Type 0
Takes old from (Ok (Got arrival)) new = IsGot old from arrival new
Takes old from (Ok Nothing) new = Stays old new × IsFoundEmpty old from false new
Takes old from (Ok Ended) new = Stays old new × IsFoundEmpty old from true new
Takes old from (Err error) new = Stays old new × IsUntaken old from error new
