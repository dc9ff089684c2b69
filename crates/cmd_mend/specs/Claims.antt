-- Whether one of a log's races is claimed (this project's profile): one that isn't begun in the middle.
use Rattle.std.specs.Prelude.{◌≡◌, ℕ, Bool, false, ◌&&◌, ◌==◌, not, List, [], ◌∷◌, ◌++◌, if◌then◌else◌}
use Rattle.std.specs.List.{list_any}
use Rattle.chart.specs.declared.instance.EventNo.{EventNo}
use Rattle.chart.specs.Charts.{LineView}
use Rattle.chart.specs.Reports.{ReportView}
use Rattle.cmd_base.specs.declared.status.Status.TheVariants.{NotKnown}
use Rattle.cmd_base.specs.Statuses.{code_of}
use Rattle.race_verdicts.specs.Recordings.{RecordingView}
use Rattle.race_verdicts.specs.declared.verdict.Verdict.{Verdict}
use Rattle.races_text.specs.Judged.LogVerdicts.{verdict_in}
use Rattle.races_text.specs.Judged.Summaries.{is_claimed, summary_of_none, summary_with}
use Rattle.races_text.specs.declared.judged.summary.RaceSummary.{RaceSummary}
use Rattle.shown_races.specs.Shown.{AreShown}
use Rattle.shown_races.specs.declared.showing.Showing.{Showing}
use Rattle.cmd_mend.specs.Verdicts.{is_luck}

-- of each of these earlier events of a receive its verdict
pub data AreVerdicts (is : EventNo → Verdict → Type 0) : List EventNo → List Verdict → Type 0 where
  none : AreVerdicts is [] []
  more : {e : EventNo} {verdict : Verdict} {events : List EventNo} {verdicts : List Verdict} → is e verdict
      → AreVerdicts is events verdicts → AreVerdicts is (e ∷ events) (verdict ∷ verdicts)

-- of each race of these reports its verdict, one after another
pub data AreAllVerdicts (is : EventNo → EventNo → Verdict → Type 0) : List ReportView → List Verdict → Type 0 where
  nothing : AreAllVerdicts is [] []
  report : {r : ReportView} {reports : List ReportView} {verdicts others : List Verdict} → AreVerdicts (is r.receive) r.earlier verdicts
      → AreAllVerdicts is reports others → AreAllVerdicts is (r ∷ reports) (verdicts ++ others)

-- there are races with these verdicts, and none of them is claimed: each is begun in the middle
abbrev pub is_unclaimed : List Verdict → Bool
is_unclaimed [] = false
is_unclaimed (verdict ∷ verdicts) = not (list_any is_claimed (verdict ∷ verdicts))

-- so it is with the races of these reports
abbrev pub AreUnclaimed : (EventNo → EventNo → Verdict → Type 0) → List ReportView → Bool → Type 0
AreUnclaimed is reports found = (verdicts : List Verdict) × AreAllVerdicts is reports verdicts × (found ≡ is_unclaimed verdicts)

-- so it is with those races of a recording's chart that are shown
abbrev pub IsUnclaimed : Showing → List LineView → RecordingView → Bool → Type 0
IsUnclaimed showing lines rec found = (shown : List ReportView) × AreShown showing lines shown × AreUnclaimed (verdict_in lines rec) shown found

-- the exit status where no race is claimed: not known, in place of nothing to show
abbrev pub known_status : Bool → ℕ → ℕ
known_status unclaimed status = if unclaimed && (status == 0) then code_of NotKnown else status

-- Summaries of races, one after another.

abbrev pub summary_after : RaceSummary → Verdict → RaceSummary
summary_after sum verdict = summary_with sum (is_luck verdict) verdict

abbrev pub summary_after_all : RaceSummary → List Verdict → RaceSummary
summary_after_all sum [] = sum
summary_after_all sum (verdict ∷ verdicts) = summary_after_all (summary_after sum verdict) verdicts

-- the summary with the races of a receive
abbrev pub Sums : (EventNo → Verdict → Type 0) → RaceSummary → List EventNo → RaceSummary → Type 0
Sums is before events after = (verdicts : List Verdict) × AreVerdicts is events verdicts × (after ≡ summary_after_all before verdicts)

-- the summary of the races of all these reports
abbrev pub SumsAll : (EventNo → EventNo → Verdict → Type 0) → List ReportView → RaceSummary → Type 0
SumsAll is reports sum = (verdicts : List Verdict) × AreAllVerdicts is reports verdicts × (sum ≡ summary_after_all summary_of_none verdicts)
