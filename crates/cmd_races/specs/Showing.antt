-- The races of a file that are written.
use Rattle.std.specs.Prelude.{◌≡◌, ℕ, List, length, Result, Ok, Err}
use Rattle.chart.specs.Charts.{chart_lines, IsPossible}
use Rattle.chart.specs.Reports.{ReportView}
use Rattle.cmd_base.specs.declared.error.ProgramError.TheVariants as errors
use Rattle.cmd_base.specs.NotDone.{IsNoted}
use Rattle.cmd_base.specs.Texts.{OfFile, named_of}
use Rattle.cmd_base.specs.Contents.{Named, IsRefused}
use Rattle.cmd_base.specs.Columns.Columns.{AreColumns, only_of}
use Rattle.cmd_base.specs.declared.columns.error.ColumnError.{ColumnError}
use Rattle.cmd_base.specs.declared.columns.error.ColumnError.TheVariants.{Program, NoSuchName}
use Rattle.cmd_base.specs.Statuses.{status_in}
use Rattle.texts.specs.Outs.{Sink}
use Rattle.texts.specs.Writing.{Puts, Breaks}
use Rattle.cmd_races.specs.declared.showing.Wanted.{Wanted}
use Rattle.cmd_base.specs.declared.source.Source.{Source}
use Rattle.cmd_base.specs.declared.status.Status.{Status}
use Rattle.cmd_races.specs.declared.shown_file.ShownFile.{ShownFile}
use Rattle.races_text.specs.Named.Listing.{Manner, races_text, shows_races}
use Rattle.shown_races.specs.Selected.{AreSelected}

-- the manner in which they are written, for these instances
abbrev pub manner_of : Wanted → List ℕ → Manner
manner_of wanted instances = record {
  form = wanted.form;
  receives = wanted.receives;
  only = instances;
  completed = wanted.run_to_completion;
}

-- The reports of a possible chart, and the selected instances: those that the bytes name, or all.
pub record AreWanted (wanted : Wanted) (named : Named) (instances : List ℕ) (reports : List ReportView) : Type 0 where
  pub named_so : AreColumns named.0 (only_of wanted.only) instances
  pub possible : IsPossible (length named.1) (chart_lines named.1)
  pub races : AreSelected wanted.run_to_completion named.1 reports

-- races were written so, and the commands of a schedule that did nothing are these
abbrev pub IsShownOf : (Source → Result Status ColumnError → Type 0) → Source → Result ShownFile ColumnError → Type 0
IsShownOf = IsNoted (λ shown. shown.status) (λ shown. shown.not_done)

-- their text
abbrev pub text_of : Wanted → Named → List ℕ → List ReportView → List ℕ
text_of wanted named instances reports = races_text (manner_of wanted instances) named.0 named.1 reports

module _ {S : Type 0} (sink : S → Sink) where
  -- the races were written, and the status depends on whether one is shown. If a put failed, the beginning of their
  -- text was written. Nothing was written if there are no such instances, if no run has the chart, or if memory ran
  -- out
  abbrev pub Shows : S → S → Result Status ColumnError → Wanted → Named → Type 0
  Shows old new (Ok status) wanted named = (instances : List ℕ) × (reports : List ReportView)
      × AreWanted wanted named instances reports × Puts sink old new (text_of wanted named instances reports)
      × (status ≡ status_in (shows_races (manner_of wanted instances) named.1 reports))
  Shows old new (Err NoSuchName) wanted named =
      ((instances : List ℕ) → AreColumns named.0 (only_of wanted.only) instances → ⊥) × (new ≡ old)
  Shows old new (Err (Program errors.Memory)) wanted named = new ≡ old
  Shows old new (Err (Program errors.Write)) wanted named = (instances : List ℕ) × (reports : List ReportView)
      × AreWanted wanted named instances reports × Breaks sink old new (text_of wanted named instances reports)
  Shows old new (Err (Program error)) wanted named = (instances : List ℕ)
      × AreColumns named.0 (only_of wanted.only) instances × IsRefused error named × (new ≡ old)

  -- the same for the chart of the bytes; or nothing was written, if the bytes have a fault
  abbrev pub ShowsText : S → S → Wanted → List ℕ → Result ShownFile ColumnError → Type 0
  ShowsText old new wanted bytes =
      OfFile Program (IsShownOf (λ source done. Shows old new done wanted (named_of source))) old new bytes
