-- What is written of a pair of a chart, and of all its races; and of a file.
use Rattle.std.specs.Prelude.{◌≡◌, ℕ, ◌≤◌, true, false, List, [], length, Option, option_map, Result, Ok, Err}
use Rattle.chart.specs.Charts.{chart_lines, IsPossible}
use Rattle.closure.specs.Faults.{place_of}
use Rattle.cmd_base.specs.declared.error.ProgramError.{ProgramError}
use Rattle.cmd_base.specs.declared.error.ProgramError.TheVariants as errors
use Rattle.cmd_base.specs.Texts.{OfFile, named_of}
use Rattle.cmd_base.specs.Contents.{Named, IsRefused}
use Rattle.chart.specs.Reports.{ReportView}
use Rattle.repair.specs.Best.{IsMendedChart}
use Rattle.repair.specs.Counted.{CountedView}
use Rattle.repair.specs.declared.adding.MendedChart.{MendedChart}
use Rattle.repair.specs.declared.error.MendError.{MendError}
use Rattle.repair.specs.declared.error.MendError.TheVariants as fulls
use Rattle.repair.specs.declared.mending.Mending.{Mending}
use Rattle.repair.specs.declared.mending.Mending.TheVariants as mendings
use Rattle.repair.specs.Mends.{Mends, IsFull}
use Rattle.msc_text.specs.ChartText.{chart_text}
use Rattle.texts.specs.Instances.{name_at}
use Rattle.texts.specs.Outs.{Sink}
use Rattle.texts.specs.Writing.{Puts, Breaks}
use Rattle.cmd_base.specs.declared.pairs.error.PairError.TheVariants.{Program, ManySlots}
use Rattle.cmd_base.specs.declared.pairs.pair.Pair.{Pair}
use Rattle.cmd_base.specs.Pairs.Pairs.{pair_of}
use Rattle.cmd_mend.specs.Answers.{by_program}
use Rattle.cmd_mend.specs.declared.answering.Outcome.{Outcome}
use Rattle.cmd_mend.specs.declared.error.MendRefusal.{MendRefusal}
use Rattle.cmd_mend.specs.declared.error.MendRefusal.TheVariants.{View, LineFull}
use Rattle.cmd_mend.specs.declared.showing.Detail.{Detail}
use Rattle.cmd_mend.specs.declared.showing.Wanted.{Wanted}
use Rattle.cmd_mend.specs.declared.showing_all.WantedAll.{WantedAll}
use Rattle.cmd_mend.specs.Limits.{IsLimit}
use Rattle.cmd_mend.specs.Naming.{IsMessageName}
use Rattle.shown_races.specs.declared.showing.Showing.{Showing}
use Rattle.cmd_mend.specs.Outcomes.{IsOutcome, IsOutcomeOfAll}

-- the bytes of the name that is asked for, if there are some
abbrev pub name_asked : Wanted → Option (List ℕ)
name_asked wanted = option_map (λ bytes. bytes.now) wanted.name

-- the refusal of a message: memory, or the name of the instance whose line is full, one of so many
abbrev pub refused_so : List (List ℕ) → MendError → MendRefusal
refused_so names (fulls.LineFull p) = LineFull (name_at names p)
refused_so names fulls.Memory = by_program errors.Memory

abbrev pub IsNamedFor : ℕ → MendError → Type 0
IsNamedFor n (fulls.LineFull p) = p ≤ n
IsNamedFor n fulls.Memory = Unit {0}

-- the pair is the one that is asked about, of a possible chart, and this becomes of it with a message so called
pub record AreMended (named : Named) (wanted : Wanted) (pair : Pair) (name : List ℕ) (mending : Mending) : Type 0 where
  pub asked : pair_of named.0 named.1 wanted.asked ≡ Ok pair
  pub possible : IsPossible (length named.1) (chart_lines named.1)
  pub called : IsMessageName named.1 (name_asked wanted) name
  pub mends : Mends (length named.1) (chart_lines named.1) (place_of pair.earlier) (place_of pair.receive) name mending

-- the chart is possible, and this is the pair that is asked about
abbrev pub IsAskedAbout : Named → Wanted → Pair → Type 0
IsAskedAbout named wanted pair = (pair_of named.0 named.1 wanted.asked ≡ Ok pair)
    × IsPossible (length named.1) (chart_lines named.1)

-- Of a text without a fault this is the first refusal that applies, memory aside: that its chart isn't possible; that it
-- has no such pair; that the name isn't one, or is taken; that a line is full.
abbrev pub IsFirstRefusal : Named → Wanted → MendRefusal → Type 0
IsFirstRefusal named wanted (View (Program errors.Usage)) = (pair : Pair) × IsAskedAbout named wanted pair
    × ((name : List ℕ) → IsMessageName named.1 (name_asked wanted) name → ⊥)
IsFirstRefusal named wanted (View (Program error)) = IsRefused error named
IsFirstRefusal named wanted (View (ManySlots slots)) = ⊥
IsFirstRefusal named wanted (View error) = (pair_of named.0 named.1 wanted.asked ≡ Err error)
    × IsPossible (length named.1) (chart_lines named.1)
IsFirstRefusal named wanted (LineFull full) = (pair : Pair) × (name : List ℕ) × (p : ℕ) × IsAskedAbout named wanted pair
    × IsMessageName named.1 (name_asked wanted) name × (full ≡ name_at named.0 p)
    × IsFull (chart_lines named.1) (place_of pair.earlier) (place_of pair.receive) p

-- all races count that are shown; or only those of them that were luck
abbrev pub shown_of : Showing → CountedView
shown_of showing = record { showing = showing; only_luck = false; luck = [] }

abbrev pub lucky_of : Showing → List ReportView → CountedView
lucky_of showing luck = record { showing = showing; only_luck = true; luck = luck }

-- the messages were added to a possible chart, within so many pairs that are tried as are asked for, or as it allows
abbrev pub AreAllMended : CountedView → Option ℕ → Named → MendedChart → Type 0
AreAllMended counted asked named m = IsPossible (length named.1) (chart_lines named.1)
    × ((limit : ℕ) × IsLimit named.1 asked limit × IsMendedChart counted limit named.1 m)

module _ {S : Type 0} (sink : S → Sink) where
  -- the chart was written, or nothing, where there is none
  abbrev pub WritesIt : S → S → List (List ℕ) → Mending → Type 0
  WritesIt old new names (mendings.Enforced links) = new ≡ old
  WritesIt old new names mendings.Hidden = new ≡ old
  WritesIt old new names (mendings.Crossed x) = new ≡ old
  WritesIt old new names (mendings.OnItsWay x) = new ≡ old
  WritesIt old new names (mendings.Mended m chart reports) = Puts sink old new (chart_text names chart)

  -- a beginning of its text was, where a put failed
  abbrev pub BreaksOff : S → S → List (List ℕ) → Mending → Type 0
  BreaksOff old new names (mendings.Enforced links) = ⊥
  BreaksOff old new names mendings.Hidden = ⊥
  BreaksOff old new names (mendings.Crossed x) = ⊥
  BreaksOff old new names (mendings.OnItsWay x) = ⊥
  BreaksOff old new names (mendings.Mended m chart reports) = Breaks sink old new (chart_text names chart)

  -- the outcome of a pair that is asked about was written and reported
  abbrev pub Writes : S → S → Named → Detail → Pair → Mending → Result Outcome MendRefusal → Type 0
  Writes old new named detail pair mending (Ok outcome) =
      WritesIt old new named.0 mending × IsOutcome named detail pair mending outcome
  Writes old new named detail pair mending (Err (View (Program errors.Memory))) = new ≡ old
  Writes old new named detail pair mending (Err (View (Program errors.Write))) = BreaksOff old new named.0 mending
  Writes old new named detail pair mending (Err error) = ⊥

  -- of the pair that is asked about
  abbrev pub Came : S → S → Result Outcome MendRefusal → Wanted → Named → Type 0
  Came old new done wanted named = (pair : Pair) × (name : List ℕ) × (mending : Mending)
      × AreMended named wanted pair name mending × Writes old new named wanted.detail pair mending done

  -- that, or nothing, where a refusal applies, the first that does, or where memory ran out
  abbrev pub Shows : S → S → Result Outcome MendRefusal → Wanted → Named → Type 0
  Shows old new (Ok outcome) wanted named = Came old new (Ok outcome) wanted named
  Shows old new (Err (View (Program errors.Memory))) wanted named = new ≡ old
  Shows old new (Err (View (Program errors.Write))) wanted named = Came old new (Err (by_program errors.Write)) wanted named
  Shows old new (Err error) wanted named = IsFirstRefusal named wanted error × (new ≡ old)

  -- the same for the chart that the bytes say; or nothing was written, where the bytes have a fault
  abbrev pub ShowsText : S → S → Wanted → List ℕ → Result Outcome MendRefusal → Type 0
  ShowsText old new wanted bytes =
      OfFile by_program (λ source done. Shows old new done wanted (named_of source)) old new bytes

  -- the messages were added to a possible chart that leave the fewest races of those that count, within so many
  -- pairs that are tried, the chart was written, and they are reported;
  -- or a beginning of its text, where a put failed; or nothing, where the chart is not possible, or where memory ran
  -- out
  abbrev pub ShowsAll : CountedView → Option ℕ → S → S → Result Outcome ProgramError → Named → Type 0
  ShowsAll counted asked old new (Ok outcome) named = (m : MendedChart) × AreAllMended counted asked named m
      × Puts sink old new (chart_text named.0 m.chart) × IsOutcomeOfAll named.0 m outcome
  ShowsAll counted asked old new (Err errors.Memory) named = new ≡ old
  ShowsAll counted asked old new (Err errors.Write) named = (m : MendedChart) × AreAllMended counted asked named m
      × Breaks sink old new (chart_text named.0 m.chart)
  ShowsAll counted asked old new (Err error) named = IsRefused error named × (new ≡ old)

  -- the same for the chart that the bytes say; or nothing was written, where the bytes have a fault
  abbrev pub ShowsAllText : WantedAll → S → S → List ℕ → Result Outcome ProgramError → Type 0
  ShowsAllText wanted old new bytes =
      OfFile (λ error. error) (λ source done. ShowsAll (shown_of wanted.showing) wanted.limit old new done (named_of source)) old new bytes
