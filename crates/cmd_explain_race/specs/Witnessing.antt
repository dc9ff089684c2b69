-- What `mscview witness` does with the bytes of a file.
use Rattle.std.specs.Prelude.{◌≡◌, ℕ, List, length, Result, Ok, Err}
use Rattle.chart.specs.Charts.{chart_lines, IsPossible}
use Rattle.texts.specs.Outs.{Sink}
use Rattle.texts.specs.Writing.{Puts, Breaks}
use Rattle.schedule.specs.ScheduleText.{schedule_text}
use Rattle.cmd_base.specs.declared.error.ProgramError.TheVariants as errors
use Rattle.cmd_base.specs.declared.source.Source.{Source}
use Rattle.cmd_base.specs.Contents.{Named, IsRefused}
use Rattle.cmd_base.specs.Texts.{OfFile, named_of}
use Rattle.schedule_replay.specs.declared.reordered_runs.showing.Shown.{Shown}
use Rattle.schedule_replay.specs.declared.reordered_runs.showing.Shown.TheVariants as founds
use Rattle.cmd_base.specs.declared.pairs.error.PairError.{PairError}
use Rattle.cmd_base.specs.declared.pairs.error.PairError.TheVariants.{Program, ManySlots}
use Rattle.cmd_base.specs.declared.pairs.pair.Asked.{Asked}
use Rattle.cmd_base.specs.declared.pairs.pair.Pair.{Pair}
use Rattle.cmd_explain_race.specs.declared.verdict.Verdict.{Verdict}
use Rattle.cmd_explain_race.specs.declared.verdict.Witnessed.{Witnessed}
use Rattle.cmd_explain_race.specs.Finding.{origin_of, closes_in}
use Rattle.cmd_base.specs.Pairs.Pairs.{pair_of}
use Rattle.cmd_explain_race.specs.Reordering.{Origin, Shows}

module _ {S : Type 0} (sink : S → Sink) where
  -- the output for a result: the text of the schedule, or a beginning of it, if a put failed; or nothing, if the result
  -- has no schedule
  abbrev pub WritesShown : S → S → Shown → Result (Unit {0}) PairError → Type 0
  WritesShown old new (founds.Replay plan) (Ok done) = Puts sink old new (schedule_text plan)
  WritesShown old new (founds.Replay plan) (Err error) = (error ≡ Program errors.Write)
      × Breaks sink old new (schedule_text plan)
  WritesShown old new shown result = (result ≡ Ok tt) × (new ≡ old)

  -- the output for two events of a chart: a witness, or nothing, if there is no witness, no such pair or no memory, or
  -- if the chart isn't possible. That the chart isn't possible is refused before the pair
  abbrev pub Finds : S → S → Result Verdict PairError → Named → Origin → Asked → Type 0
  Finds old new (Err (Program errors.Memory)) named origin asked = new ≡ old
  Finds old new (Err (Program errors.Write)) named origin asked =
      (pair : Pair) × (pair_of named.0 named.1 asked ≡ Ok pair)
      × IsPossible (length named.1) (chart_lines named.1) × Shows sink old new
      (Err (Program errors.Write)) named origin pair
  Finds old new (Err (Program error)) named origin asked = IsRefused error named × (new ≡ old)
  Finds old new (Err (ManySlots slots)) named origin asked = (pair : Pair) × (pair_of named.0 named.1 asked ≡ Ok pair)
      × IsPossible (length named.1) (chart_lines named.1) × Shows sink old new (Err (ManySlots slots)) named origin pair
  Finds old new (Err error) named origin asked = (pair_of named.0 named.1 asked ≡ Err error)
      × IsPossible (length named.1) (chart_lines named.1) × (new ≡ old)
  Finds old new (Ok verdict) named origin asked = (pair : Pair) × (pair_of named.0 named.1 asked ≡ Ok pair)
      × IsPossible (length named.1) (chart_lines named.1) × Shows sink old new (Ok verdict) named origin pair

module _ {S : Type 0} (sink : S → Sink) where
  -- the same for two events of a file's chart, with whether closes were left out
  abbrev pub FindsIn : S → S → Asked → Source → Result Witnessed PairError → Type 0
  FindsIn old new asked source (Ok witnessed) = (witnessed.has_closes ≡ closes_in source)
      × Finds sink old new (Ok witnessed.verdict) (named_of source) (origin_of source) asked
  FindsIn old new asked source (Err error) = Finds sink old new (Err error) (named_of source) (origin_of source) asked

  -- a witness for two events of the chart in the bytes was written, or there is none; or nothing was written, if the
  -- bytes have a fault or memory ran out
  abbrev pub Witnesses : S → S → List ℕ → Asked → Result Witnessed PairError → Type 0
  Witnesses old new bytes asked = OfFile Program (FindsIn old new asked) old new bytes
