-- The numbers that C gets from calls over whole boards (this project's profile): 0 for done, 1 if nothing waits, and for a
-- refusal its number, below 0.
use Rattle.std.specs.Prelude.{◌≡◌, ℕ, List, Option, None, Some, Result, Ok, Err}
use lib.IntN.{ℤ, pos}
use Rattle.c_board.specs.declared.board_number.BoardNumber.{BoardNumber}
use Rattle.c_board.specs.declared.boards.left.LeftRefusal.{LeftRefusal}
use Rattle.c_board.specs.declared.boards.left.Place.{Place}
use Rattle.c_board.specs.declared.boards.left.Waiting.{Waiting}
use Rattle.c_board.specs.declared.boards.reports.Reported.{Reported}
use Rattle.c_board.specs.declared.boards.reports.ReportRefusal.{ReportRefusal}
use Rattle.c_board.specs.declared.boards.text.TextRefusal.{TextRefusal}
use Rattle.c_board.specs.declared.carrying.CarryRefusal.{CarryRefusal}
use Rattle.c_board.specs.declared.gathering.GatherRefusal.{GatherRefusal}
use Rattle.c_board.specs.declared.kept.Kept.{Kept}
use Rattle.c_board.specs.declared.meeting.MeetRefusal.{MeetRefusal}
use Rattle.c_board.specs.declared.misuse.Numbering.{Numbering}
use Rattle.c_board.specs.declared.misuse.Numbering.TheVariants.{Alike}
use Rattle.c_board.specs.declared.opening.OpenRefusal.{OpenRefusal}
use Rattle.c_board.specs.Boards.BoardCopies.{HandleReports, HandleWaits, NameAndBody, of_report, of_left}
use Rattle.c_board.specs.Boards.BoardText.{HandleWritesText, of_text}
use Rattle.c_board.specs.Carrying.{Carries, of_carrying}
use Rattle.c_board.specs.Gathering.{Gathers, of_gathering}
use Rattle.c_board.specs.Meeting.{Meets, of_meeting}
use Rattle.c_board.specs.Opening.{Opens, of_opening}
use Rattle.msc.specs.Answers.{Got, code_of, done_code, number_after}
use Rattle.msc.specs.declared.answers.MscLeft.{MscLeft}
use Rattle.msc.specs.declared.answers.MscReport.{MscReport}

-- what opening a board with this number answers: some answer of the call has this code
abbrev pub OpensAll : Numbering → ℕ → BoardNumber → List (Option Kept) → ℤ → List (Option Kept) → Type 0
OpensAll misuses k number old code new = (answer : Result (Unit {0}) OpenRefusal) × Opens k number old answer new
    × (code ≡ done_code (of_opening misuses) answer)

abbrev pub GathersAll : List (Option Kept) → Option Kept → ℤ → List (Option Kept) → Option Kept → Type 0
GathersAll old board code new made = (answer : Result (Unit {0}) GatherRefusal) × Gathers old board answer new made
    × (code ≡ done_code (of_gathering Alike) answer)

abbrev pub MeetsAll : List (Option Kept) → ℤ → List (Option Kept) → Type 0
MeetsAll old code new = (answer : Result (Unit {0}) MeetRefusal) × Meets old answer new
    × (code ≡ done_code (of_meeting Alike) answer)

-- .. and this output
abbrev pub CarriesBoard : Option Kept → List (Option Kept) → List ℕ → Got ℕ → Option Kept → List (Option Kept)
    → List ℕ → Type 0
CarriesBoard board old room got now new out = (answer : Result ℕ CarryRefusal)
    × Carries board old room answer now new out × (got.code ≡ done_code (of_carrying Alike) answer)
    × (got.output ≡ number_after got.before answer)

abbrev pub WritesText : Option Kept → List (List ℕ) → List ℕ → Got ℕ → List ℕ → Type 0
WritesText board names room got out = (answer : Result ℕ TextRefusal)
    × HandleWritesText board names room answer out × (got.code ≡ done_code (of_text Alike) answer)
    × (got.output ≡ number_after got.before answer)

-- the description of a report, field by field; and this description, or otherwise the one before
abbrev pub report_from : Reported → MscReport
report_from output = record { instance = output.instance; event = output.event; races = output.races }

abbrev pub report_after : {E : Type 0} → MscReport → Result Reported E → MscReport
report_after before (Ok output) = report_from output
report_after before (Err refusal) = before

abbrev pub CopiesReport : Option Kept → ℕ → List ℕ → Got MscReport → List ℕ → Type 0
CopiesReport board number room got out = (answer : Result Reported ReportRefusal)
    × HandleReports board number room answer out × (got.code ≡ done_code (of_report Alike) answer)
    × (got.output ≡ report_after got.before answer)

-- the description of a waiting message, field by field; and this description, or otherwise the one before
abbrev pub left_from : Waiting → MscLeft
left_from output = record { name_length = output.name; body_length = output.body }

abbrev pub left_after : {E : Type 0} → MscLeft → Result (Option Waiting) E → MscLeft
left_after before (Ok (Some output)) = left_from output
left_after before (Ok None) = before
left_after before (Err refusal) = before

abbrev pub waiting_code : {E : Type 0} → (E → ℕ) → Result (Option Waiting) E → ℤ
waiting_code number (Ok (Some output)) = pos 0
waiting_code number (Ok None) = pos 1
waiting_code number (Err refusal) = code_of (number refusal)

abbrev pub CopiesLeft : Option Kept → Place → NameAndBody → Got MscLeft → NameAndBody → Type 0
CopiesLeft board place room got out = (answer : Result (Option Waiting) LeftRefusal)
    × HandleWaits board place room answer out × (got.code ≡ waiting_code (of_left Alike) answer)
    × (got.output ≡ left_after got.before answer)
