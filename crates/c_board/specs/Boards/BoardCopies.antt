-- How a gathered board is described: its reports, and the messages that wait on its lanes (this project's profile).
use Rattle.std.specs.Prelude.{◌≡◌, ℕ, ◌==◌, ◌&&◌, Bool, List, [], ◌∷◌, length, Option, None, Some, Result, Ok, Err, if◌then◌else◌}
use Rattle.chart.specs.Events.{ith}
use Rattle.chart.specs.Messages.{Content}
use Rattle.chart.specs.Reports.{ReportView}
use Rattle.board.specs.declared.gathering.Left.{Left}
use Rattle.c_board.specs.declared.boards.reports.Reported.{Reported}
use Rattle.c_board.specs.declared.boards.left.Place.{Place}
use Rattle.c_board.specs.declared.boards.left.Waiting.{Waiting}
use Rattle.c_board.specs.declared.boards.left.LeftRefusal.{LeftRefusal}
use Rattle.c_board.specs.declared.boards.left.LeftRefusal.TheVariants as left
use Rattle.c_board.specs.declared.boards.reports.ReportRefusal.{ReportRefusal}
use Rattle.c_board.specs.declared.boards.reports.ReportRefusal.TheVariants as report
use Rattle.c_board.specs.declared.kept.Kept.{Kept}
use Rattle.c_board.specs.declared.misuse.Misuse.TheVariants as misuse
use Rattle.c_board.specs.declared.misuse.Numbering.{Numbering}
use Rattle.c_board.specs.Copying.{put_over, counted, indices}
use Rattle.c_board.specs.Contents.{board_in}
use Rattle.c_board.specs.Refusals.{of_misuse}
use Rattle.c_board.specs.Wholes.{WholeView}

-- the description of a report: its receive, and how many races it has
abbrev pub reported_of : ReportView → Reported
reported_of it = record {
  instance = it.receive.instance;
  event = it.receive.index;
  races = counted it.earlier;
}

-- there is no such report, or it is described and its races are copied out
abbrev pub CopiesReport : Option ReportView → List ℕ → Option Reported → List ℕ → Type 0
CopiesReport None room result out = (result ≡ None) × (out ≡ room)
CopiesReport (Some it) room result out = (result ≡ Some (reported_of it)) × (out ≡ put_over (indices it.earlier) room)

-- what describing the report with this number, from 1, answers for the board that a handle keeps
abbrev pub HandleReports : Option Kept → ℕ → List ℕ → Result Reported ReportRefusal → List ℕ → Type 0
HandleReports kept number room (Ok output) out = (board : WholeView) × (board_in kept ≡ Some board)
    × CopiesReport (ith board.gathered.reports.items number) room (Some output) out
HandleReports kept number room (Err report.NoBoard) out = (board_in kept ≡ None) × (out ≡ room)
HandleReports kept number room (Err report.NoEvent) out = (board : WholeView) × (board_in kept ≡ Some board)
    × CopiesReport (ith board.gathered.reports.items number) room None out

-- the number of each refusal
abbrev pub of_report : Numbering → ReportRefusal → ℕ
of_report misuses report.NoBoard = of_misuse misuses misuse.NoBoard
of_report misuses report.NoEvent = 31

-- the lane is the one from q to p
abbrev pub is_on : Left → ℕ → ℕ → Bool
is_on lane q p = lane.sender == q && lane.receiver == p

-- the messages that wait on the lane from q to p
abbrev pub messages_on : List Left → ℕ → ℕ → List Content
messages_on [] q p = []
messages_on (lane ∷ more) q p = if is_on lane q p then lane.messages.items else messages_on more q p

-- the description of a waiting message
abbrev pub waiting_of : Content → Waiting
waiting_of message = record { name = length message.name; body = length message.body }

-- room for the bytes of a message's name, and of its body
pub record NameAndBody : Type 0 where
  pub name : List ℕ
  pub body : List ℕ

-- nothing is copied out
abbrev pub AreKept : NameAndBody → NameAndBody → Type 0
AreKept room out = (out.name ≡ room.name) × (out.body ≡ room.body)

-- there is no such message, or it is described, and its name and its body are copied out
abbrev pub CopiesWaiting : Option Content → NameAndBody → Option Waiting → NameAndBody → Type 0
CopiesWaiting None room result out = (result ≡ None) × AreKept room out
CopiesWaiting (Some message) room result out = (result ≡ Some (waiting_of message))
    × (out.name ≡ put_over message.name room.name) × (out.body ≡ put_over message.body room.body)

-- the message at the place, among those left on these lanes
abbrev pub message_at : List Left → Place → Option Content
message_at lanes place = ith (messages_on lanes place.from place.to) place.number

-- what describing the message at the place answers for the board that a handle keeps
abbrev pub HandleWaits : Option Kept → Place → NameAndBody → Result (Option Waiting) LeftRefusal → NameAndBody → Type 0
HandleWaits kept place room (Ok output) out = (board : WholeView) × (board_in kept ≡ Some board)
    × CopiesWaiting (message_at board.gathered.left.items place) room output out
HandleWaits kept place room (Err left.NoBoard) out = (board_in kept ≡ None) × AreKept room out

-- the number of the refusal
abbrev pub of_left : Numbering → LeftRefusal → ℕ
of_left misuses left.NoBoard = of_misuse misuses misuse.NoBoard
