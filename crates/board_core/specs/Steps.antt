-- The steps of all instances on a board (this project's profile): those of the ends of its lanes, and the opening and
-- shutting of coregions.
use Rattle.std.specs.Prelude.{ℕ, List}
use Rattle.chart.specs.Messages.{Content}
use Rattle.chart.specs.Reports.{ReportView}

-- A lane is named by its sender and its receiver.
pub data Step : Type 0 where
  Sender_loads : (sender receiver : ℕ) → Step
  -- it puts this message, with its clock, into a slot
  Fills : (sender receiver : ℕ) → (message : Content) → Step
  -- the messages that were put into slots are sent
  Publishes : (sender receiver : ℕ) → Step
  Closes : (sender receiver : ℕ) → Step
  Receiver_loads : (sender receiver : ℕ) → Step
  Takes : (sender receiver : ℕ) → Step
  Puts_back : (sender receiver : ℕ) → Step
  -- the taken messages are received, with these reports
  Frees : (sender receiver : ℕ) → (reports : List ReportView) → Step
  Opens : (instance : ℕ) → Step
  Shuts : (instance : ℕ) → Step
