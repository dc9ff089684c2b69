-- The races that are written with the words of their verdicts, and those for which luck isn't known.
use Rattle.std.specs.Prelude.{◌≡◌, ◌⊎◌, List, Option, ℕ, Bool, true, false, Result, Ok, Err}
use Rattle.chart.specs.declared.instance.EventNo.{EventNo}
use Rattle.chart.specs.Reports.{ReportView}
use Rattle.cmd_base.specs.Contents.{Named}
use Rattle.cmd_base.specs.declared.error.ProgramError.TheVariants as errors
use Rattle.cmd_base.specs.Columns.Columns.{AreColumns, RefusesColumns, only_of}
use Rattle.cmd_base.specs.declared.columns.error.ColumnError.{ColumnError}
use Rattle.cmd_base.specs.declared.columns.error.ColumnError.TheVariants.{Program}
use Rattle.texts.specs.Outs.{Sink}
use Rattle.texts.specs.Writing.{Puts, Breaks}
use Rattle.cmd_races.specs.Showing.{manner_of, AreWanted, Shows}
use Rattle.cmd_races.specs.declared.judging.LuckWanted.{LuckWanted}
use Rattle.cmd_base.specs.declared.status.Status.{Status}
use Rattle.race_verdicts.specs.declared.verdict.Verdict.{Verdict}
use Rattle.races_text.specs.Judged.Listing.{LuckManner, PartedReport, ArePartedTo, luck_text, summary_of}
use Rattle.races_text.specs.declared.judged.summary.RaceSummary.{RaceSummary}

-- the manner in which they are written, for these instances
abbrev pub luck_manner_of : LuckWanted → List ℕ → LuckManner
luck_manner_of wanted instances = record { races = manner_of wanted.races instances; luck = wanted.luck }

-- For a chart with these names and lines: the reports, the selected instances, and the ranges of the reports that
-- have one verdict. The ranges are those of all reports, or of those that were judged before a put failed.
pub record AreJudged (is : EventNo → EventNo → Verdict → Type 0) (wanted : LuckWanted) (named : Named) (result : Result RaceSummary ColumnError) (instances : List ℕ)
    (reports : List ReportView) (parted : List PartedReport) : Type 0 where
  pub wanted_so : AreWanted wanted.races named instances reports
  pub parted_so : ArePartedTo is (manner_of wanted.races instances) named.1 reports result parted

-- their text
abbrev pub text_of : LuckWanted → Named → List ℕ → List PartedReport → List ℕ
text_of wanted named instances parted = luck_text (luck_manner_of wanted instances) named.0 named.1 parted

-- luck isn't known: it is refused, after a name that isn't the chart's
abbrev pub RefusesLuck : List (List ℕ) → Option (List ℕ) → ColumnError → Type 0
RefusesLuck names only error = RefusesColumns names only error
    ⊎ ((error ≡ Program errors.Usage) × ((columns : List ℕ) × AreColumns names only columns))

abbrev pub IsLuckRefused : List (List ℕ) → Option (List ℕ) → Result Status ColumnError → Type 0
IsLuckRefused names only (Ok status) = ⊥
IsLuckRefused names only (Err error) = RefusesLuck names only error

module _ {S : Type 0} (sink : S → Sink) where
  -- the races were written with the words of their verdicts, or only those that were luck or may have been. The summary
  -- states whether one is shown, whether there is one, and whether one is claimed. If a put failed, the beginning of
  -- their text was written. Or they are refused like races without words
  abbrev pub ShowsJudged : (EventNo → EventNo → Verdict → Type 0) → S → S → Result RaceSummary ColumnError → LuckWanted → Named → Type 0
  ShowsJudged is old new (Ok summary) wanted named = (instances : List ℕ) × (reports : List ReportView) × (parted : List PartedReport)
      × AreJudged is wanted named (Ok summary) instances reports parted × Puts sink old new (text_of wanted named instances parted)
      × (summary ≡ summary_of (luck_manner_of wanted instances) parted)
  ShowsJudged is old new (Err (Program errors.Write)) wanted named = (instances : List ℕ) × (reports : List ReportView) × (parted : List PartedReport)
      × AreJudged is wanted named (Err (Program errors.Write)) instances reports parted × Breaks sink old new (text_of wanted named instances parted)
  ShowsJudged is old new (Err error) wanted named = Shows sink old new (Err error) wanted.races named

  -- if luck isn't known, the races of the chart were written; or luck was refused, if only races of luck are wanted
  abbrev pub ShowsUnknown : Bool → S → S → Result Status ColumnError → LuckWanted → Named → Type 0
  ShowsUnknown true old new result wanted named = IsLuckRefused named.0 (only_of wanted.races.only) result × (new ≡ old)
  ShowsUnknown false old new result wanted named = Shows sink old new result wanted.races named
