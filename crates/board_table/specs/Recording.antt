-- What a receiver records of the first message that is out with it (this project's profile; differences between clocks:
-- after Singhal and Kshemkalyani 1992).
use Rattle.std.specs.Prelude.{◌≡◌, ℕ, List, ◌∷◌, length}
use Rattle.chart.specs.Words.{Clock}
use Rattle.chart.specs.Events.{MayHaveRegion}
use Rattle.chart.specs.Reports.{ReportView}
use Rattle.clock.specs.Diffs.{apply_diff}
use Rattle.line_recorder.specs.Recorders.{RecorderView, after_receive, IsReportOf}
use Rattle.board_table.specs.declared.packet.Packet.{Packet}
use Rattle.board_table.specs.Layout.{LaneView}

-- the recorder is the receiver's, and its next event may have this coregion
pub record IsReady (l : LaneView) (region : ℕ) (recorder : RecorderView) : Type 0 where
  pub its : recorder.line.instance ≡ l.receiver
  pub knows : length recorder.knowledge ≡ l.instances
  pub region_fits : MayHaveRegion recorder.line.events region

-- a receive: the sender of its message, its coregion, the clock of the message, and its report
pub record ReceiptView : Type 0 where
  pub from : ℕ
  pub region : ℕ
  pub clock : Clock
  pub report : ReportView

-- the recorder has recorded the receive of the first of these packets; the packet's difference is from the base
pub record IsRecorded (packets : List Packet) (base : Clock) (old : RecorderView) (receipt : ReceiptView)
    (new : RecorderView) : Type 0 where
  pub clock_is : (x : Packet) (xs : List Packet) → packets ≡ x ∷ xs → apply_diff base x.diff ≡ receipt.clock
  pub recorded : (x : Packet) (xs : List Packet) → packets ≡ x ∷ xs
      → new ≡ after_receive old receipt.from x.message.name receipt.region receipt.clock receipt.report
  pub report_is : IsReportOf old receipt.from receipt.region receipt.clock receipt.report
